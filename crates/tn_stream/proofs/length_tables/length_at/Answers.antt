use Rattle.std.proofs.Common.{◌≡◌, ◌+◌, ◌<◌, ◌^◌, length, All, arith, subst, sym, ap, ◌∙◌}
use Rattle.std.specs.Prelude.{sum_by}
use Rattle.tn_net.specs.Trees.{LoadNode, node_at}
use Rattle.tn_stream.specs.Images.{images_of, IsImage}
use Rattle.tn_stream.specs.LoadBranches.{site_of}
use Rattle.tn_stream.specs.Inner.Tables.{own_length, child_length_in}
use Rattle.tn_stream.proofs.NodeReads.{node-read, image-read, whole-images}
use Rattle.tn_stream.proofs.LengthLaws.{image-at}
use Rattle.tn_stream.proofs.TableLaws.{children-places, children-low, length-summed}
use Rattle.tn_stream.proofs.length_tables.length_at.Goals as goal

pub own_length-own-requires : goal.own_length-own-requires
own_length-own-requires c =
    subst IsImage
    (image-read c.args.images.now c.args.tree.now.nodes.items c.args.k c.requires.whole
    c.node.view_is c.index-node.ensures c.requires.here c.index-images-node.is)
    (image-at (images_of c.args.images.now) c.requires.images c.args.tree.now.nodes.items
    (whole-images c.args.images.now c.args.tree.now.nodes.items c.requires.whole)
    c.args.wave c.args.k c.requires.here)

pub children_length-requires-clause-places : goal.children_length-requires-clause-places
children_length-requires-clause-places c =
    let children : (node_at c.args.tree.now.nodes.items c.args.k).children ≡ c.deref.result.now =
    ap (λ (n : LoadNode). n.children) (node-read c.args.tree.now.nodes.items c.args.k c.node.view_is c.index-node.ensures c.requires.here)
    ∙ sym c.deref.ensures.value in
    subst (λ cs. All (λ i. i < length c.args.table.now) cs) children
    (children-places (images_of c.args.images.now) c.requires.images c.args.tree.now.nodes.items
    (whole-images c.args.images.now c.args.tree.now.nodes.items c.requires.whole)
    c.args.table.now c.args.k c.requires.behind c.requires.here)

pub children_length-requires-clause-low : goal.children_length-requires-clause-low
children_length-requires-clause-low c =
    let children : (node_at c.args.tree.now.nodes.items c.args.k).children ≡ c.deref.result.now =
    ap (λ (n : LoadNode). n.children) (node-read c.args.tree.now.nodes.items c.args.k c.node.view_is c.index-node.ensures c.requires.here)
    ∙ sym c.deref.ensures.value in
    subst (λ cs. sum_by (child_length_in c.args.wave c.args.table.now) cs < 2 ^ 32) children
    (children-low (images_of c.args.images.now) c.requires.images c.args.tree.now.nodes.items
    (whole-images c.args.images.now c.args.tree.now.nodes.items c.requires.whole)
    c.args.wave c.args.table.now c.args.k c.requires.behind c.requires.here)

pub overflow_add-result : goal.overflow_add-result
overflow_add-result c =
    let children : (node_at c.args.tree.now.nodes.items c.args.k).children ≡ c.deref.result.now =
    ap (λ (n : LoadNode). n.children) (node-read c.args.tree.now.nodes.items c.args.k c.node.view_is c.index-node.ensures c.requires.here)
    ∙ sym c.deref.ensures.value in
    let low : sum_by (child_length_in c.args.wave c.args.table.now) c.deref.result.now < 2 ^ 32 =
    subst (λ cs. sum_by (child_length_in c.args.wave c.args.table.now) cs < 2 ^ 32) children
    (children-low (images_of c.args.images.now) c.requires.images c.args.tree.now.nodes.items
    (whole-images c.args.images.now c.args.tree.now.nodes.items c.requires.whole)
    c.args.wave c.args.table.now c.args.k c.requires.behind c.requires.here) in
    omega (arith, low, c.children_length.ensures, c.own_length-own.ensures.bound)

pub returns : goal.returns
returns c =
    let children : (node_at c.args.tree.now.nodes.items c.args.k).children ≡ c.deref.result.now =
    ap (λ (n : LoadNode). n.children) (node-read c.args.tree.now.nodes.items c.args.k c.node.view_is c.index-node.ensures c.requires.here)
    ∙ sym c.deref.ensures.value in
    let own = c.own_length-own.ensures.value ∙ ap (own_length c.args.wave)
    (sym (image-read c.args.images.now c.args.tree.now.nodes.items c.args.k c.requires.whole
    c.node.view_is c.index-node.ensures c.requires.here c.index-images-node.is)) in
    let below = c.children_length.ensures ∙ ap (sum_by (child_length_in c.args.wave c.args.table.now)) (sym children) in
    ap (λ n. n + c.children_length.result) own
    ∙ (ap (λ n. own_length c.args.wave (site_of (images_of c.args.images.now)
    (node_at c.args.tree.now.nodes.items c.args.k)).image + n) below
    ∙ length-summed (images_of c.args.images.now) c.requires.images c.args.tree.now.nodes.items
    (whole-images c.args.images.now c.args.tree.now.nodes.items c.requires.whole)
    c.args.wave c.args.table.now c.args.k c.requires.behind c.requires.here)
