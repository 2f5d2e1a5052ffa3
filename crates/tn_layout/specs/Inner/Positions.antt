-- The positions of all places, as code that needs them holds them, and the sizes that a layout begins with.
use Rattle.std.specs.Prelude.{◌≡◌, ℕ, ◌+◌, ◌*◌, ◌≤◌, List, length, slice_index}
use Rattle.tn_text.specs.declared.limits.TheConstants.{ITEM_LIMIT}
use Rattle.tn_layout.specs.declared.pieces.Piece.{Piece}
use Rattle.tn_layout.specs.declared.pieces.Piece.TheVariants.{Fixed, Rel, Diff}
use Rattle.tn_layout.specs.Sizes.{position}

-- the size of a fixed piece, and one byte for a reference, whose operand needs no fewer
abbrev pub first_size : Piece → ℕ
first_size (Fixed size) = size
first_size (Rel to) = 1
first_size (Diff high low) = 1

-- the positions of all places, from the first on
pub record ArePositions (sizes positions : List ℕ) : Type 0 where
  pub as_many : length positions ≡ length sizes + 1
  pub each : (k : ℕ) → k ≤ length sizes → slice_index positions k ≡ position sizes k
  pub bounded : (k : ℕ) → slice_index positions k ≤ 255 * ITEM_LIMIT
