use Rattle.std.proofs.Common.{◌+◌, ◌++◌, [], ◌∷◌, ap, ◌∙◌, arith, get_or}
use Rattle.tn_layout.specs.Sizes.{position}
use Rattle.tn_link.specs.declared.linking.Placed.{Placed}
use Rattle.tn_link.specs.Linking.{placed_item}
use Rattle.tn_link.specs.Inner.Frames.{frame_of}
use Rattle.tn_link.proofs.Ends.{placed-is}
use Rattle.tn_link.proofs.Ranges.{mapped-grown}
use Rattle.tn_link.proofs.placing.add_items.Goals as goal

pub loop-item-preserved : goal.loop-item-preserved
loop-item-preserved c =
    mapped-grown (placed_item (frame_of c.args.frame.now c.args.sizes.now) c.args.«module» c.args.from) c.args.places.now.items
    c.loop-item.item c.loop-item.places.items c.push.new.self.items c.loop-item.invariant
    (c.in_ok-push.ensures.items
    ∙ ap (λ (p : Placed). c.loop-item.places.items ++ p ∷ [])
    (placed-is c.args.«module» c.loop-item.item
    (c.args.frame.now.code_base + get_or c.args.frame.now.positions.now (c.args.from + c.loop-item.item) 0)
    (c.args.frame.now.code_base + position c.args.sizes.now (c.args.from + c.loop-item.item)) c.from.result
    (get_or c.args.sizes.now (c.args.from + c.loop-item.item) 0)
    (ap (λ n. c.args.frame.now.code_base + n)
    (c.requires.positions.each (c.args.from + c.loop-item.item) (omega (arith, c.loop-item-test.true, c.requires.few)))) c.from.ensures))
