use Rattle.std.proofs.Common.{length, refl, arith}
use Rattle.tn_load.proofs.LoadTestLaws.{empty-told}
use Rattle.tn_load.proofs.loads.are_empty.Goals as goal

pub returns : goal.returns
returns c = (
  λ _. empty-told c.args.board.now.state.latches (length c.args.board.now.state.nodes) c.requires.latches (λ q low.
      c.loop-p.invariant q (omega (arith, low, c.count-p-end.ensures.value, c.loop-p-test.false))),
  λ _. refl,
)
