use Rattle.std.proofs.Common.{◌≡◌, ℕ, ◌+◌, ◌*◌, ◌<◌, length, All, arith, subst, sym, ap, ◌∙◌}
use Rattle.std.specs.Prelude.{sum_by, slice_index_or}
use Rattle.tn_net.specs.Trees.{LoadNode, node_at}
use Rattle.tn_stream.specs.declared.waves.Wave.TheVariants as wave
use Rattle.tn_stream.specs.declared.length_tables.NodeLengths.{NodeLengths}
use Rattle.tn_stream.specs.Images.{ImageBytes, images_of, IsImage}
use Rattle.tn_stream.specs.Lengths.{steps_to}
use Rattle.tn_stream.specs.Inner.LowLengths.{no_lengths}
use Rattle.tn_stream.proofs.NodeReads.{node-read, image-read, whole-images}
use Rattle.tn_stream.proofs.LoadBranchLaws.{few-children}
use Rattle.tn_stream.proofs.LengthLaws.{image-at}
use Rattle.tn_stream.proofs.TableLaws.{table-at, table-length, table-low, steps-places, steps-sum}
use Rattle.tn_stream.proofs.counts.node_steps.Goals as goal

pub at-requires : goal.at-requires
at-requires c =
    let size = table-length (images_of c.args.images.now) c.args.tree.now.nodes.items c.args.table.now c.requires.lengths in
    omega (arith, size, c.requires.here)

pub forwards_steps-requires-clause-few : goal.forwards_steps-requires-clause-few
forwards_steps-requires-clause-few c =
    let children : (node_at c.args.tree.now.nodes.items c.args.k).children ≡ c.deref.result.now =
    ap (λ (n : LoadNode). n.children) (node-read c.args.tree.now.nodes.items c.args.k c.node.view_is c.index-node.ensures c.requires.here)
    ∙ sym c.deref.ensures.value in
    let size = ap length children in
    let few = few-children c.args.tree.now.nodes.items (length c.args.images.now) c.args.k c.requires.whole c.requires.here in
    omega (arith, size, few, c.requires.whole.few)

pub forwards_steps-requires-clause-places : goal.forwards_steps-requires-clause-places
forwards_steps-requires-clause-places c =
    let children : (node_at c.args.tree.now.nodes.items c.args.k).children ≡ c.deref.result.now =
    ap (λ (n : LoadNode). n.children) (node-read c.args.tree.now.nodes.items c.args.k c.node.view_is c.index-node.ensures c.requires.here)
    ∙ sym c.deref.ensures.value in
    subst (λ cs. All (λ i. i < length c.args.table.now) cs) children
    (steps-places (images_of c.args.images.now) c.requires.images c.args.tree.now.nodes.items
    (whole-images c.args.images.now c.args.tree.now.nodes.items c.requires.whole)
    c.args.table.now c.args.k c.requires.lengths c.requires.here)

pub forwards_steps-requires-clause-low : goal.forwards_steps-requires-clause-low
forwards_steps-requires-clause-low c =
    table-low (images_of c.args.images.now) c.requires.images c.args.tree.now.nodes.items
    (whole-images c.args.images.now c.args.tree.now.nodes.items c.requires.whole) c.args.table.now c.requires.lengths

pub segment_count-segments-requires : goal.segment_count-segments-requires
segment_count-segments-requires c =
    subst IsImage
    (image-read c.args.images.now c.args.tree.now.nodes.items c.args.k c.requires.whole c.node.view_is c.index-node.ensures c.requires.here
    c.index-images-node.is)
    (image-at (images_of c.args.images.now) c.requires.images c.args.tree.now.nodes.items
    (whole-images c.args.images.now c.args.tree.now.nodes.items c.requires.whole) wave.Load c.args.k c.requires.here)

pub returns-clause-value : goal.returns-clause-value
returns-clause-value c =
    let children : (node_at c.args.tree.now.nodes.items c.args.k).children ≡ c.deref.result.now =
    ap (λ (n : LoadNode). n.children) (node-read c.args.tree.now.nodes.items c.args.k c.node.view_is c.index-node.ensures c.requires.here)
    ∙ sym c.deref.ensures.value in
    steps-made c.total.result c.segment_count-segments.result c.forwards_steps.result _ _ _
    (c.total.ensures ∙ ap (λ (l : NodeLengths). l.load + l.sync + l.start)
    (table-at (images_of c.args.images.now) c.args.tree.now.nodes.items c.args.table.now c.args.k c.at.result c.requires.lengths
    c.requires.here c.at.ensures.value))
    (c.segment_count-segments.ensures.value ∙ ap (λ (i : ImageBytes). length i.segments)
    (sym (image-read c.args.images.now c.args.tree.now.nodes.items c.args.k c.requires.whole c.node.view_is c.index-node.ensures
    c.requires.here c.index-images-node.is)))
    (c.forwards_steps.ensures.value
    ∙ (ap (sum_by (λ i. steps_to (slice_index_or c.args.table.now i no_lengths))) (sym children)
    ∙ steps-sum (images_of c.args.images.now) c.requires.images c.args.tree.now.nodes.items
    (whole-images c.args.images.now c.args.tree.now.nodes.items c.requires.whole) c.args.table.now c.args.k c.requires.lengths
    c.requires.here))
  where
    steps-made : (t s f x y z : ℕ) → t ≡ x → s ≡ y → f ≡ z → 2 * t + 57 + 13 * s + 36 + f ≡ 2 * x + 57 + 13 * y + 36 + z
    steps-made t s f x y z p q r = omega arith
