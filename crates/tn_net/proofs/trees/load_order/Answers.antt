use Rattle.std.proofs.Common.{◌<◌, ◌+◌, length, sym, subst, arith}
use Rattle.tn_net.specs.Inner.Walks.{step_at}
use Rattle.tn_net.specs.Inner.Loads.{IsInLoadOrder, EndsAt}
use Rattle.tn_net.proofs.Loading.{one_more}
use Rattle.tn_net.proofs.trees.load_order.Goals as goal

pub loop-place-preserved : goal.loop-place-preserved
loop-place-preserved c =
    subst (λ load. IsInLoadOrder c.args.order.now load (c.loop-place.place + 1)) (sym c.in_ok-insert.ensures.items)
    (one_more c.args.order.now c.loop-place.load.items c.loop-place.place first here c.loop-place.invariant
    (c.requires.1.before c.loop-place.place first here) c.family_end-end.result ends)
  where
    first : 0 < c.loop-place.place
    first = omega arith

    here : c.loop-place.place < length c.args.order.now
    here = c.loop-place-test.true

    ends : EndsAt c.args.order.now c.loop-place.load.items (step_at c.args.order.now c.loop-place.place).parent
        (length c.loop-place.load.items) c.family_end-end.result
    ends =
        subst (λ load. EndsAt c.args.order.now load (step_at c.args.order.now c.loop-place.place).parent
        (length load) c.family_end-end.result) c.deref.ensures.value c.family_end-end.ensures
