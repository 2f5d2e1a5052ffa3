use Rattle.std.proofs.Common.{codes}
use Rattle.std.specs.Fmt.{decimal}
use Rattle.tn_text.specs.WordTexts.{spaced}
use Rattle.tn_text.proofs.Putting.{Puts-joined, Puts-stopped, Puts-refused}
use Rattle.tn_top.specs.GridPlans.{rest_word, settle_line}
use Rattle.tn_top.proofs.grids.put_settled.Goals as goal

pub returns-in_err-put-clause-puts : goal.returns-in_err-put-clause-puts
unfolding settle_line
returns-in_err-put-clause-puts g c =
    Puts-refused c.from_residual.ensures.0
    (Puts-stopped (codes "\n") (Puts-stopped (spaced (rest_word c.args.came.1))
    (Puts-stopped (spaced (decimal c.args.came.0)) c.in_err-put.ensures.puts)))

pub returns-in_err-put_spaced_decimal-clause-puts : goal.returns-in_err-put_spaced_decimal-clause-puts
unfolding settle_line
returns-in_err-put_spaced_decimal-clause-puts g c =
    Puts-refused c.from_residual-in_err-put_spaced_decimal.ensures.0
    (Puts-stopped (codes "\n") (Puts-stopped (spaced (rest_word c.args.came.1))
    (Puts-joined c.in_ok-put.ensures.puts c.in_err-put_spaced_decimal.ensures.puts)))

pub returns-in_err-put_spaced-clause-puts : goal.returns-in_err-put_spaced-clause-puts
unfolding settle_line
returns-in_err-put_spaced-clause-puts g c =
    Puts-refused c.from_residual-in_err-put_spaced.ensures.0
    (Puts-stopped (codes "\n") (Puts-joined (Puts-joined c.in_ok-put.ensures.puts c.in_ok-put_spaced_decimal.ensures.puts)
    (rw c.rest_word.ensures at c.in_err-put_spaced.ensures.puts)))

pub returns-clause-puts : goal.returns-clause-puts
unfolding settle_line
returns-clause-puts g c =
    Puts-joined (Puts-joined (Puts-joined c.in_ok-put.ensures.puts c.in_ok-put_spaced_decimal.ensures.puts)
    (rw c.rest_word.ensures at c.in_ok-put_spaced.ensures.puts)) c.put-2.ensures.puts

pub returns-in_err-put_spaced-clause-goes_on : goal.returns-in_err-put_spaced-clause-goes_on
returns-in_err-put_spaced-clause-goes_on g c =
    g.met.P.Put.joined _ _ _ (g.met.P.Put.joined _ _ _ c.in_ok-put.ensures.goes_on c.in_ok-put_spaced_decimal.ensures.goes_on)
    c.in_err-put_spaced.ensures.goes_on

pub returns-clause-goes_on : goal.returns-clause-goes_on
returns-clause-goes_on g c =
    g.met.P.Put.joined _ _ _ (g.met.P.Put.joined _ _ _ (g.met.P.Put.joined _ _ _ c.in_ok-put.ensures.goes_on
    c.in_ok-put_spaced_decimal.ensures.goes_on) c.in_ok-put_spaced.ensures.goes_on) c.put-2.ensures.goes_on
