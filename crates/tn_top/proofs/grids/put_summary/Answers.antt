use Rattle.std.proofs.Common.{codes}
use Rattle.tn_text.proofs.Putting.{Puts-joined, Puts-stopped, Puts-refused}
use Rattle.tn_list.specs.TreeTexts.{count_line}
use Rattle.tn_top.specs.GridPlans.{settle_line, summary_text}
use Rattle.tn_top.proofs.grids.put_summary.Goals as goal

pub returns-in_err-put_count-clause-puts : goal.returns-in_err-put_count-clause-puts
unfolding summary_text
returns-in_err-put_count-clause-puts g c =
    let s = c.args.summary.now in
    Puts-refused c.from_residual.ensures.0
    (Puts-stopped (settle_line (codes "run") s.run) (Puts-stopped (settle_line (codes "load") s.load)
    (Puts-stopped (count_line (codes "stream") s.bytes) (Puts-stopped (count_line (codes "processors") s.processors)
    (rw c.from.ensures at c.in_err-put_count.ensures.puts)))))

pub returns-in_err-put_count-2-clause-puts : goal.returns-in_err-put_count-2-clause-puts
unfolding summary_text
returns-in_err-put_count-2-clause-puts g c =
    let s = c.args.summary.now in
    Puts-refused c.from_residual-in_err-put_count-2.ensures.0
    (Puts-stopped (settle_line (codes "run") s.run) (Puts-stopped (settle_line (codes "load") s.load)
    (Puts-stopped (count_line (codes "stream") s.bytes) (Puts-joined (rw c.from.ensures at c.in_ok-put_count.ensures.puts)
    (rw c.from-2.ensures at c.in_err-put_count-2.ensures.puts)))))

pub returns-in_err-put_count-3-clause-puts : goal.returns-in_err-put_count-3-clause-puts
unfolding summary_text
returns-in_err-put_count-3-clause-puts g c =
    let s = c.args.summary.now in
    Puts-refused c.from_residual-in_err-put_count-3.ensures.0
    (Puts-stopped (settle_line (codes "run") s.run) (Puts-stopped (settle_line (codes "load") s.load)
    (Puts-joined (Puts-joined (rw c.from.ensures at c.in_ok-put_count.ensures.puts)
    (rw c.from-2.ensures at c.in_ok-put_count-2.ensures.puts)) c.in_err-put_count-3.ensures.puts)))

pub returns-in_err-put_settled-clause-puts : goal.returns-in_err-put_settled-clause-puts
unfolding summary_text
returns-in_err-put_settled-clause-puts g c =
    let s = c.args.summary.now in
    Puts-refused c.from_residual-in_err-put_settled.ensures.0
    (Puts-stopped (settle_line (codes "run") s.run)
    (Puts-joined (Puts-joined (Puts-joined (rw c.from.ensures at c.in_ok-put_count.ensures.puts)
    (rw c.from-2.ensures at c.in_ok-put_count-2.ensures.puts)) c.in_ok-put_count-3.ensures.puts)
    c.in_err-put_settled.ensures.puts))

pub returns-clause-puts : goal.returns-clause-puts
unfolding summary_text
returns-clause-puts g c =
    Puts-joined (Puts-joined (Puts-joined (Puts-joined (rw c.from.ensures at c.in_ok-put_count.ensures.puts)
    (rw c.from-2.ensures at c.in_ok-put_count-2.ensures.puts))
    c.in_ok-put_count-3.ensures.puts) c.in_ok-put_settled.ensures.puts) c.put_settled-2.ensures.puts

pub returns-in_err-put_count-2-clause-goes_on : goal.returns-in_err-put_count-2-clause-goes_on
returns-in_err-put_count-2-clause-goes_on g c =
    g.met.P.Put.joined _ _ _ c.in_ok-put_count.ensures.goes_on c.in_err-put_count-2.ensures.goes_on

pub returns-in_err-put_count-3-clause-goes_on : goal.returns-in_err-put_count-3-clause-goes_on
returns-in_err-put_count-3-clause-goes_on g c =
    g.met.P.Put.joined _ _ _ (g.met.P.Put.joined _ _ _ c.in_ok-put_count.ensures.goes_on c.in_ok-put_count-2.ensures.goes_on)
    c.in_err-put_count-3.ensures.goes_on

pub returns-in_err-put_settled-clause-goes_on : goal.returns-in_err-put_settled-clause-goes_on
returns-in_err-put_settled-clause-goes_on g c =
    g.met.P.Put.joined _ _ _ (g.met.P.Put.joined _ _ _ (g.met.P.Put.joined _ _ _ c.in_ok-put_count.ensures.goes_on
    c.in_ok-put_count-2.ensures.goes_on) c.in_ok-put_count-3.ensures.goes_on) c.in_err-put_settled.ensures.goes_on

pub returns-clause-goes_on : goal.returns-clause-goes_on
returns-clause-goes_on g c =
    g.met.P.Put.joined _ _ _ (g.met.P.Put.joined _ _ _ (g.met.P.Put.joined _ _ _ (g.met.P.Put.joined _ _ _
    c.in_ok-put_count.ensures.goes_on c.in_ok-put_count-2.ensures.goes_on) c.in_ok-put_count-3.ensures.goes_on)
    c.in_ok-put_settled.ensures.goes_on) c.put_settled-2.ensures.goes_on
