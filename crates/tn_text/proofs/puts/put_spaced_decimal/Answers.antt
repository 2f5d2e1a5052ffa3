use Rattle.std.specs.Fmt.{decimal}
use Rattle.tn_text.specs.WordTexts.{spaced}
use Rattle.tn_text.proofs.Putting.{Puts-joined, Puts-stopped, Puts-refused}
use Rattle.tn_text.proofs.puts.put_spaced_decimal.Goals as goal

pub returns-in_err-put-clause-puts : goal.returns-in_err-put-clause-puts
unfolding spaced
returns-in_err-put-clause-puts g c =
    Puts-refused c.from_residual.ensures.0 (Puts-stopped (decimal c.args.number) c.in_err-put.ensures.puts)

pub returns-clause-puts : goal.returns-clause-puts
unfolding spaced
returns-clause-puts g c =
    Puts-joined c.in_ok-put.ensures.puts c.put_decimal.ensures.puts
