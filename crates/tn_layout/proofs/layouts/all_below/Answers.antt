use Rattle.std.proofs.Common.{◌+◌, sym, subst}
use Rattle.tn_layout.proofs.LayoutLaws.{AreAllBelow, all-more}
use Rattle.tn_layout.proofs.layouts.all_below.Goals as goal

pub loop-x-preserved : goal.loop-x-preserved
loop-x-preserved c =
    let more = subst (λ xs. AreAllBelow (c.loop-x.x + 1) xs) (sym c.in_ok-push_back.ensures.items)
    (all-more c.loop-x.x c.loop-x.queue.items (c.loop-x.invariant.each, c.loop-x.invariant.below, c.loop-x.invariant.long)) in
    record { each = more.0; below = more.1; long = more.2 }
