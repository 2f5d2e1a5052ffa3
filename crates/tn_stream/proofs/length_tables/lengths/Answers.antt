use Rattle.std.proofs.Common.{◌≡◌, length, take, arith, ap, subst, ◌∙◌}
use Rattle.tn_stream.specs.Images.{images_of}
use Rattle.tn_stream.specs.Inner.Tables.{HasLengths}
use Rattle.tn_stream.proofs.NodeReads.{whole-images}
use Rattle.tn_stream.proofs.TableLaws.{table-whole, table-low}
use Rattle.tn_stream.proofs.length_tables.lengths.Goals as goal

pub returns : goal.returns
returns c =
    let zero_k : c.loop-k.k ≡ 0 = omega (arith, c.loop-k-test.false) in
    let count : c.len.result ≡ length c.args.tree.now.nodes.items = omega arith in
    ap (λ n. take n c.loop-k.table) count
    ∙ table-whole (images_of c.args.images.now) c.args.tree.now.nodes.items c.loop-k.table
    (subst (λ k. HasLengths (images_of c.args.images.now) c.args.tree.now.nodes.items k c.loop-k.table) zero_k c.loop-k.invariant.0)
    c.requires.whole.few

pub invariant_of-result : goal.invariant_of-result
invariant_of-result c =
    let zero_k : c.loop-k.k ≡ 0 = omega (arith, c.loop-k-test.false) in
    let count : c.len.result ≡ length c.args.tree.now.nodes.items = omega arith in (
      omega (arith, c.len.ensures, c.requires.whole.few),
      table-low (images_of c.args.images.now) c.requires.images c.args.tree.now.nodes.items
          (whole-images c.args.images.now c.args.tree.now.nodes.items c.requires.whole)
          (take c.len.result c.loop-k.table) (ap (λ n. take n c.loop-k.table) count
          ∙ table-whole (images_of c.args.images.now) c.args.tree.now.nodes.items c.loop-k.table
          (subst (λ k. HasLengths (images_of c.args.images.now) c.args.tree.now.nodes.items k c.loop-k.table) zero_k c.loop-k.invariant.0)
          c.requires.whole.few),
    )
