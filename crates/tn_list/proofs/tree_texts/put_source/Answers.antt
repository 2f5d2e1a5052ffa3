use Rattle.std.proofs.Common.{◌<◌, length, ap, ◌∙◌, subst, arith}
use Rattle.tn_net.specs.Trees.{LoadNode}
use Rattle.tn_text.proofs.Putting.{Puts-as}
use Rattle.tn_list.proofs.TreeLaws.{node_read, name_read, parent_there, source_made}
use Rattle.tn_list.proofs.tree_texts.put_source.Goals as goal

pub index-above-requires : goal.index-above-requires
index-above-requires g c =
    let node = node_read c.args.tree.now.nodes.items c.args.place c.node.view_is c.index-node.ensures c.requires.here in
    let there = parent_there c.args.tree.now.nodes.items (length c.args.names.now) c.args.place c.in-Some.parent c.requires.whole
    c.requires.here (ap (λ (n : LoadNode). n.parent) node ∙ c.in-Some.is) in
    omega (arith, there)

pub bounds-names-above-inside : goal.bounds-names-above-inside
bounds-names-above-inside g c =
    let node = node_read c.args.tree.now.nodes.items c.args.place c.node.view_is c.index-node.ensures c.requires.here in
    let there = parent_there c.args.tree.now.nodes.items (length c.args.names.now) c.args.place c.in-Some.parent c.requires.whole
    c.requires.here (ap (λ (n : LoadNode). n.parent) node ∙ c.in-Some.is) in
    subst (λ (n : LoadNode). n.processor < length c.args.names.now)
    (node_read c.args.tree.now.nodes.items c.in-Some.parent c.above.view_is c.index-above.ensures there)
    (c.requires.whole.placed c.in-Some.parent there).processor

pub returns-in-Some-clause-puts : goal.returns-in-Some-clause-puts
returns-in-Some-clause-puts g c =
    let node = node_read c.args.tree.now.nodes.items c.args.place c.node.view_is c.index-node.ensures c.requires.here in
    let there = parent_there c.args.tree.now.nodes.items (length c.args.names.now) c.args.place c.in-Some.parent c.requires.whole
    c.requires.here (ap (λ (n : LoadNode). n.parent) node ∙ c.in-Some.is) in
    let above = node_read c.args.tree.now.nodes.items c.in-Some.parent c.above.view_is c.index-above.ensures there in
    let inside : c.above.inside.processor < length c.args.names.now =
    subst (λ (n : LoadNode). n.processor < length c.args.names.now) above (c.requires.whole.placed c.in-Some.parent there).processor in
    Puts-as
    (source_made c.args.names.now c.args.tree.now.nodes.items c.args.place c.in-Some.parent c.bytes.result.now c.from-link.result node
    c.in-Some.is above
    (name_read c.args.names.now c.above.inside.processor c.bytes.result.now c.index-names-above.result c.bytes.ensures.bytes inside
    c.index-names-above.is) c.from-link.ensures)
    c.put_word_and_number.ensures.puts
