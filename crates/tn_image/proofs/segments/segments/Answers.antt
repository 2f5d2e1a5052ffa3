use Rattle.std.proofs.Common.{ap, ◌∙◌}
use Rattle.tn_config.specs.Configurations.{block_of}
use Rattle.tn_stream.specs.Images.{segments_of}
use Rattle.tn_image.specs.Images.{argument_bytes}
use Rattle.tn_image.proofs.Laws.{segments-added}
use Rattle.tn_image.proofs.segments.segments.Goals as goal

pub returns : goal.returns
returns c =
    segments-added (block_of c.args.block.now) c.in_ok-code.code.items c.in_ok-cells.cells.items c.in_ok-arguments.arguments.items
    c.args.code.now c.args.cells.now (segments_of c.new-segments.result.items)
    (segments_of c.add_segment.new.segments.items) (segments_of c.add_segment-2.new.segments.items)
    (segments_of c.add_segment-3.new.segments.items) (ap segments_of c.new-segments.ensures.items) c.in_ok-add_segment.ensures
    c.in_ok-add_segment-2.ensures c.in_ok-add_segment-3.ensures c.in_ok-code.ensures.items c.in_ok-cells.ensures.items
    (c.in_ok-arguments.ensures ∙ ap argument_bytes c.deref.ensures.value)
