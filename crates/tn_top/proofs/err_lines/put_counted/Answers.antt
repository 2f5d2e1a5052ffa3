use Rattle.std.proofs.Common.{codes}
use Rattle.std.specs.Fmt.{decimal}
use Rattle.tn_text.specs.WordTexts.{spaced}
use Rattle.tn_text.proofs.Putting.{Puts-joined, Puts-stopped, Puts-refused}
use Rattle.tn_top.proofs.err_lines.put_counted.Goals as goal

pub returns-in_err-put-clause-puts : goal.returns-in_err-put-clause-puts
returns-in_err-put-clause-puts g c =
    Puts-refused c.from_residual.ensures.0 (Puts-stopped (codes "\n")
    (Puts-stopped (spaced (decimal c.args.count)) (Puts-stopped c.args.word.now c.in_err-put.ensures.puts)))

pub returns-in_err-put-2-clause-puts : goal.returns-in_err-put-2-clause-puts
returns-in_err-put-2-clause-puts g c =
    Puts-refused c.from_residual-in_err-put-2.ensures.0 (Puts-stopped (codes "\n")
    (Puts-stopped (spaced (decimal c.args.count)) (Puts-joined c.in_ok-put.ensures.puts c.in_err-put-2.ensures.puts)))

pub returns-in_err-put_spaced_decimal-clause-puts : goal.returns-in_err-put_spaced_decimal-clause-puts
returns-in_err-put_spaced_decimal-clause-puts g c =
    Puts-refused c.from_residual-in_err-put_spaced_decimal.ensures.0
    (Puts-stopped (codes "\n") (Puts-joined (Puts-joined c.in_ok-put.ensures.puts c.in_ok-put-2.ensures.puts)
    c.in_err-put_spaced_decimal.ensures.puts))

pub returns-clause-puts : goal.returns-clause-puts
returns-clause-puts g c =
    Puts-joined (Puts-joined (Puts-joined c.in_ok-put.ensures.puts c.in_ok-put-2.ensures.puts) c.in_ok-put_spaced_decimal.ensures.puts)
    c.put-3.ensures.puts

pub returns-in_err-put_spaced_decimal-clause-goes_on : goal.returns-in_err-put_spaced_decimal-clause-goes_on
returns-in_err-put_spaced_decimal-clause-goes_on g c =
    g.met.P.Put.joined _ _ _ (g.met.P.Put.joined _ _ _ c.in_ok-put.ensures.goes_on c.in_ok-put-2.ensures.goes_on)
    c.in_err-put_spaced_decimal.ensures.goes_on

pub returns-clause-goes_on : goal.returns-clause-goes_on
returns-clause-goes_on g c =
    g.met.P.Put.joined _ _ _ (g.met.P.Put.joined _ _ _ (g.met.P.Put.joined _ _ _ c.in_ok-put.ensures.goes_on
    c.in_ok-put-2.ensures.goes_on) c.in_ok-put_spaced_decimal.ensures.goes_on) c.put-3.ensures.goes_on
