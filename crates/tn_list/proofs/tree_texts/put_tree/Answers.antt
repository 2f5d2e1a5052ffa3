use Rattle.std.proofs.Common.{codes}
use Rattle.std.specs.Prelude.{slice_index}
use Rattle.tn_list.specs.TreeTexts.{count_line, tree_text}
use Rattle.tn_text.proofs.Putting.{Puts-joined, Puts-stopped, Puts-refused}
use Rattle.tn_list.proofs.tree_texts.put_tree.Goals as goal

pub returns-in_err-put_nodes-clause-puts : goal.returns-in_err-put_nodes-clause-puts
unfolding tree_text
returns-in_err-put_nodes-clause-puts g c =
    Puts-refused c.from_residual.ensures.0
    (Puts-stopped (count_line (codes "steps") c.args.steps)
    (Puts-stopped (count_line (codes "stream") (slice_index c.args.received.now 0)) c.in_err-put_nodes.ensures.puts))

pub returns-in_err-put_count-clause-puts : goal.returns-in_err-put_count-clause-puts
unfolding tree_text
returns-in_err-put_count-clause-puts g c =
    Puts-refused c.from_residual-in_err-put_count.ensures.0
    (Puts-stopped (count_line (codes "steps") c.args.steps)
    (Puts-joined c.in_ok-put_nodes.ensures.puts c.in_err-put_count.ensures.puts))

pub returns-clause-puts : goal.returns-clause-puts
unfolding tree_text
returns-clause-puts g c =
    Puts-joined (Puts-joined c.in_ok-put_nodes.ensures.puts c.in_ok-put_count.ensures.puts) c.put_count-2.ensures.puts

pub returns-clause-goes_on : goal.returns-clause-goes_on
returns-clause-goes_on g c =
    g.met.P.Put.joined c.args.out.now c.put_count.new.out c.put_count-2.new.out
    (g.met.P.Put.joined c.args.out.now c.put_nodes.new.out c.put_count.new.out c.put_nodes.ensures.goes_on c.put_count.ensures.goes_on)
    c.put_count-2.ensures.goes_on
