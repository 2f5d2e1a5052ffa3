use Rattle.std.proofs.Common.{◌≡◌, ℕ, ◌<◌, true}
use Rattle.tn_load.specs.LoadTests.{is_empty_at}
use Rattle.tn_load.proofs.loads.are_empty.Given as goal

abbrev pub invariant-loop-p : goal.invariant-loop-p
invariant-loop-p l = (q : ℕ) → q < l.p → is_empty_at l.board.state.latches q ≡ true
