use Rattle.std.proofs.Common.{ℕ, ◌<◌, length}
use Rattle.tn_layout.specs.Sizes.{piece_at, NamesUpTo}
use Rattle.tn_tool_cases.proofs.layouts.are_named.Given as goal

-- the pieces so far name no place behind the end
abbrev pub invariant-loop-piece : goal.invariant-loop-piece
invariant-loop-piece l = (k : ℕ) → k < l.piece-index → NamesUpTo (length l.pieces) (piece_at l.pieces k)
