use Rattle.std.proofs.Common.{ap}
use Rattle.tn_text.specs.WordTexts.{spaced}
use Rattle.tn_text.specs.FaultLines.{region_text}
use Rattle.tn_text.proofs.Putting.{Puts-as, Puts-joined, Puts-stopped, Puts-refused}
use Rattle.tn_text.proofs.fault_lines.put_one.Goals as goal

pub returns-in_err-put_spaced-clause-puts : goal.returns-in_err-put_spaced-clause-puts
returns-in_err-put_spaced-clause-puts g c =
    Puts-refused c.from_residual.ensures.0 (Puts-stopped (region_text c.args.region.now)
    (Puts-as (ap spaced c.bytes.ensures.bytes) c.in_err-put_spaced.ensures.puts))

pub returns-clause-puts : goal.returns-clause-puts
returns-clause-puts g c =
    Puts-joined (Puts-as (ap spaced c.bytes.ensures.bytes) c.in_ok-put_spaced.ensures.puts) c.put_region.ensures.puts
