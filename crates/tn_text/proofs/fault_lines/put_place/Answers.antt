use Rattle.std.proofs.Common.{ap, ◌∙◌, codes}
use Rattle.std.specs.Fmt.{decimal}
use Rattle.tn_text.specs.FaultLines.{place_text}
use Rattle.tn_text.proofs.Putting.{Puts-as, Puts-joined, Puts-stopped, Puts-refused}
use Rattle.tn_text.proofs.fault_lines.put_place.Goals as goal

pub returns-in_err-put-clause-puts : goal.returns-in_err-put-clause-puts
unfolding place_text
returns-in_err-put-clause-puts g c =
    Puts-refused c.from_residual.ensures.0 (Puts-stopped (codes ": ")
    (Puts-stopped (decimal c.args.line) (Puts-stopped (codes ":")
    (Puts-as (c.as_bytes.ensures.value ∙ c.text.ensures.text) c.in_err-put.ensures.puts))))

pub returns-in_err-put-2-clause-puts : goal.returns-in_err-put-2-clause-puts
unfolding place_text
returns-in_err-put-2-clause-puts g c =
    Puts-refused c.from_residual-in_err-put-2.ensures.0
    (Puts-stopped (codes ": ") (Puts-stopped (decimal c.args.line)
    (Puts-joined (Puts-as (c.as_bytes.ensures.value ∙ c.text.ensures.text) c.in_ok-put.ensures.puts) c.in_err-put-2.ensures.puts)))

pub returns-in_err-put_decimal-clause-puts : goal.returns-in_err-put_decimal-clause-puts
unfolding place_text
returns-in_err-put_decimal-clause-puts g c =
    Puts-refused c.from_residual-in_err-put_decimal.ensures.0
    (Puts-stopped (codes ": ") (Puts-joined
    (Puts-joined (Puts-as (c.as_bytes.ensures.value
    ∙ c.text.ensures.text) c.in_ok-put.ensures.puts) c.in_ok-put-2.ensures.puts)
    (Puts-as (ap decimal c.from.ensures) c.in_err-put_decimal.ensures.puts)))

pub returns-clause-puts : goal.returns-clause-puts
unfolding place_text
returns-clause-puts g c =
    Puts-joined (Puts-joined (Puts-joined (Puts-as
    (c.as_bytes.ensures.value ∙ c.text.ensures.text) c.in_ok-put.ensures.puts) c.in_ok-put-2.ensures.puts)
    (Puts-as (ap decimal c.from.ensures) c.in_ok-put_decimal.ensures.puts)) c.put-3.ensures.puts
