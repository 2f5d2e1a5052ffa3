use Rattle.std.proofs.Common.{◌+◌, ◌%◌, [], ◌∷◌}
use Rattle.std.proofs.lemmas.Fmt.{decimal_step, decimal_digit}
use Rattle.tn_text.proofs.Putting.{Puts-joined, Puts-stopped, Puts-refused}
use Rattle.tn_text.proofs.puts.+put_decimal.Goals as goal

pub returns-in_err-put_decimal-clause-puts : goal.returns-in_err-put_decimal-clause-puts
returns-in_err-put_decimal-clause-puts g t c =
    rw (decimal_step c.args.number c.if-number-lt10.false c.ranges.number.fits)
    (Puts-refused c.from_residual.ensures.0 (Puts-stopped ((48 + c.args.number % 10) ∷ []) c.in_err-put_decimal.ensures.puts))

pub returns-clause-puts : goal.returns-clause-puts
returns-clause-puts g t c =
    rw (decimal_step c.args.number c.if-number-lt10.false c.ranges.number.fits)
    (Puts-joined c.in_ok-put_decimal.ensures.puts c.put-2.ensures.puts)

pub returns-then-number-lt10-clause-puts : goal.returns-then-number-lt10-clause-puts
returns-then-number-lt10-clause-puts g t c = rw (decimal_digit c.args.number c.if-number-lt10.true) c.put.ensures.puts
