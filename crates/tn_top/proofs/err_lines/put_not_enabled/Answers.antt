use Rattle.std.proofs.Common.{codes}
use Rattle.tn_text.proofs.Putting.{Puts-joined, Puts-stopped, Puts-refused}
use Rattle.tn_top.specs.Refusals.{not_enabled_line}
use Rattle.tn_top.proofs.err_lines.put_not_enabled.Goals as goal

pub returns-in_err-put_place-clause-puts : goal.returns-in_err-put_place-clause-puts
unfolding not_enabled_line
returns-in_err-put_place-clause-puts g c =
    Puts-refused c.from_residual.ensures.0 (Puts-stopped (codes "\n")
    (Puts-stopped c.args.tokens.now (Puts-stopped (codes "not enabled: ") c.in_err-put_place.ensures.puts)))

pub returns-in_err-put-clause-puts : goal.returns-in_err-put-clause-puts
unfolding not_enabled_line
returns-in_err-put-clause-puts g c =
    Puts-refused c.from_residual-in_err-put.ensures.0 (Puts-stopped (codes "\n")
    (Puts-stopped c.args.tokens.now (Puts-joined c.in_ok-put_place.ensures.puts c.in_err-put.ensures.puts)))

pub returns-in_err-put-2-clause-puts : goal.returns-in_err-put-2-clause-puts
unfolding not_enabled_line
returns-in_err-put-2-clause-puts g c =
    Puts-refused c.from_residual-in_err-put-2.ensures.0 (Puts-stopped (codes "\n")
    (Puts-joined (Puts-joined c.in_ok-put_place.ensures.puts c.in_ok-put.ensures.puts) c.in_err-put-2.ensures.puts))

pub returns-clause-puts : goal.returns-clause-puts
unfolding not_enabled_line
returns-clause-puts g c =
    Puts-joined (Puts-joined (Puts-joined c.in_ok-put_place.ensures.puts c.in_ok-put.ensures.puts) c.in_ok-put-2.ensures.puts)
    c.put-3.ensures.puts

pub returns-in_err-put-2-clause-goes_on : goal.returns-in_err-put-2-clause-goes_on
returns-in_err-put-2-clause-goes_on g c =
    g.met.P.Put.joined _ _ _ (g.met.P.Put.joined _ _ _ c.in_ok-put_place.ensures.goes_on c.in_ok-put.ensures.goes_on)
    c.in_err-put-2.ensures.goes_on

pub returns-clause-goes_on : goal.returns-clause-goes_on
returns-clause-goes_on g c =
    g.met.P.Put.joined _ _ _ (g.met.P.Put.joined _ _ _ (g.met.P.Put.joined _ _ _ c.in_ok-put_place.ensures.goes_on
    c.in_ok-put.ensures.goes_on) c.in_ok-put-2.ensures.goes_on) c.put-3.ensures.goes_on
