use Rattle.std.proofs.Common.{◌+◌, arith, ap, ◌∙◌}
use Rattle.tn_stream.specs.declared.length_tables.NodeLengths.{NodeLengths}
use Rattle.tn_stream.specs.Images.{images_of}
use Rattle.tn_stream.proofs.TableLaws.{table-at, table-length}
use Rattle.tn_stream.proofs.counts.received.Goals as goal

pub at-requires : goal.at-requires
at-requires c =
    let size = table-length (images_of c.args.images.now) c.args.tree.now.nodes.items c.lengths.result c.lengths.ensures in
    omega (arith, size, c.requires.here)

pub returns : goal.returns
returns c =
    c.total.ensures
    ∙ ap (λ (l : NodeLengths). l.load + l.sync + l.start)
    (table-at (images_of c.args.images.now) c.args.tree.now.nodes.items c.lengths.result c.args.node c.at.result c.lengths.ensures
    c.requires.here c.at.ensures.value)
