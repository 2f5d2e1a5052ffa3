use Rattle.tn_text.specs.FaultLines.{region_text}
use Rattle.tn_text.proofs.Putting.{Puts-joined, Puts-stopped, Puts-refused}
use Rattle.tn_text.proofs.fault_lines.put_two.Goals as goal

pub returns-in_err-put_one-clause-puts : goal.returns-in_err-put_one-clause-puts
returns-in_err-put_one-clause-puts g c =
    Puts-refused c.from_residual.ensures.0 (Puts-stopped (region_text c.args.second.now) c.in_err-put_one.ensures.puts)

pub returns-clause-puts : goal.returns-clause-puts
returns-clause-puts g c =
    Puts-joined c.in_ok-put_one.ensures.puts c.put_region.ensures.puts
