use Rattle.std.proofs.Common.{ℕ, ◌<◌}
use Rattle.tn_sym.specs.Inner.Stops.{symbolic_of}
use Rattle.tn_sym.specs.Inner.Comparisons.{SameAt}
use Rattle.tn_sym.proofs.states.same_nodes.Given as goal

abbrev pub invariant-loop-p : goal.invariant-loop-p
invariant-loop-p l = (j : ℕ) → j < l.p → SameAt l.board.state (symbolic_of l.other l.codes l.stop) j
