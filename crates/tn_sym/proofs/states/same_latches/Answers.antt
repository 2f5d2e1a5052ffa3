use Rattle.std.proofs.Common.{None, refl, arith}
use Rattle.std.proofs.lemmas.List.{ext_get_or}
use Rattle.tn_sym.proofs.states.same_latches.Goals as goal

pub returns : goal.returns
returns c = (
  λ _. ext_get_or None c.args.board.now.state.latches c.args.other.now.state.latches (omega
      (arith, c.requires.one, c.requires.two, c.requires.count))
      (λ j within. c.loop-k.invariant j (omega (arith, within, c.requires.one, c.loop-k-test.false, c.count-k-end.ensures.sizes))),
  λ _. refl,
)
