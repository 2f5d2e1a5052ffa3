use Rattle.tn_net.specs.Trees.{node_at}
use Rattle.tn_list.specs.TreeTexts.{source_text, from_text}
use Rattle.tn_text.proofs.Putting.{Puts-joined, Puts-stopped, Puts-refused}
use Rattle.tn_list.proofs.tree_texts.put_from.Goals as goal

pub returns-in_err-put_spaced-clause-puts : goal.returns-in_err-put_spaced-clause-puts
unfolding from_text
returns-in_err-put_spaced-clause-puts g c =
    Puts-refused c.from_residual.ensures.0
    (Puts-stopped
    (source_text c.args.names.now c.args.tree.now.nodes.items (node_at c.args.tree.now.nodes.items c.args.place).parent
    (node_at c.args.tree.now.nodes.items c.args.place).parent_link)
    c.in_err-put_spaced.ensures.puts)

pub returns-clause-puts : goal.returns-clause-puts
unfolding from_text
returns-clause-puts g c = Puts-joined c.in_ok-put_spaced.ensures.puts c.put_source.ensures.puts
