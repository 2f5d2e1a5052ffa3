use Rattle.std.proofs.Common.{ap, codes}
use Rattle.std.proofs.lemmas.List.{get_or_read}
use Rattle.tn_net.specs.Trees.{node_at}
use Rattle.tn_text.proofs.Putting.{Puts-as, Puts-joined, Puts-stopped, Puts-refused}
use Rattle.tn_list.specs.TreeTexts.{boot_text, from_text, last_text, node_line}
use Rattle.tn_list.proofs.tree_texts.put_node.Goals as goal

pub returns-in_err-put_boot-clause-puts : goal.returns-in_err-put_boot-clause-puts
unfolding node_line
returns-in_err-put_boot-clause-puts g c =
    Puts-refused c.from_residual.ensures.0
    (Puts-stopped (last_text (codes "received") c.args.received)
    (Puts-stopped (from_text c.args.names.now c.args.tree.now.nodes.items (node_at c.args.tree.now.nodes.items c.args.place))
    (Puts-as (ap (boot_text c.args.names.now)
    (get_or_read c.args.tree.now.nodes.items c.args.place c.index.result.now c.requires.here c.index.ensures _))
    c.in_err-put_boot.ensures.puts)))

pub returns-in_err-put_from-clause-puts : goal.returns-in_err-put_from-clause-puts
unfolding node_line
returns-in_err-put_from-clause-puts g c =
    Puts-refused c.from_residual-in_err-put_from.ensures.0
    (Puts-stopped (last_text (codes "received") c.args.received) (Puts-joined
    (Puts-as (ap (boot_text c.args.names.now)
    (get_or_read c.args.tree.now.nodes.items c.args.place c.index.result.now c.requires.here c.index.ensures _))
    c.in_ok-put_boot.ensures.puts) c.in_err-put_from.ensures.puts))

pub returns-clause-puts : goal.returns-clause-puts
unfolding node_line
returns-clause-puts g c =
    Puts-joined (Puts-joined
    (Puts-as (ap (boot_text c.args.names.now)
    (get_or_read c.args.tree.now.nodes.items c.args.place c.index.result.now c.requires.here c.index.ensures _))
    c.in_ok-put_boot.ensures.puts) c.in_ok-put_from.ensures.puts) c.put_last.ensures.puts

pub returns-clause-goes_on : goal.returns-clause-goes_on
returns-clause-goes_on g c =
    g.met.P.Put.joined c.args.out.now c.put_from.new.out c.put_last.new.out
    (g.met.P.Put.joined c.args.out.now c.put_boot.new.out c.put_from.new.out c.put_boot.ensures.goes_on c.put_from.ensures.goes_on)
    c.put_last.ensures.goes_on
