use Rattle.tn_stream.specs.declared.images.Image.{Image}
use Rattle.tn_top.proofs.TreeTexts.{mapped-more, mapped-all}
use Rattle.tn_top.proofs.started_nets.entries_of.Goals as goal

pub loop-image-preserved : goal.loop-image-preserved
loop-image-preserved c =
    mapped-more (λ (i : Image). i.entry) c.args.images.now c.loop-image.image-index c.image-item.result c.loop-image.entries.items
    c.push.new.self.items c.loop-image-test.true c.image-item.is c.loop-image.invariant c.in_ok-push.ensures.items

pub returns : goal.returns
returns c =
    mapped-all (λ (i : Image). i.entry) c.args.images.now c.loop-image.image-index c.loop-image.entries.items
    c.loop-image-test.false
    c.loop-image.invariant
