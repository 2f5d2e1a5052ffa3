use Rattle.std.proofs.Common.{ℕ, refl, arith}
use Rattle.tn_sym.specs.Inner.Stops.{symbolic_of}
use Rattle.tn_sym.specs.Inner.Comparisons.{SameAt}
use Rattle.tn_sym.proofs.Compared.{never, not-true, up-to, at-all}
use Rattle.tn_sym.proofs.states.same_nodes.Goals as goal

pub returns-then-not-same_at : goal.returns-then-not-same_at
returns-then-not-same_at c =
    never _ (λ all. not-true c.same_at.result c.if-not-same_at.true (c.same_at.ensures.1 (all c.loop-p.p)))

pub loop-p-preserved : goal.loop-p-preserved
loop-p-preserved c =
    up-to (λ (j : ℕ). SameAt c.args.board.now.state (symbolic_of c.args.other.now c.args.codes.now c.args.stop) j) c.loop-p.p
    c.loop-p.invariant (c.same_at.ensures.0 c.if-not-same_at.false)

pub returns : goal.returns
returns c = (
  λ _. at-all c.args.board.now.state c.args.other.now c.args.codes.now c.args.stop c.loop-p.p (omega
      (arith, c.loop-p-test.false, c.count-p-end.ensures.value)) c.loop-p.invariant,
  λ _. refl,
)
