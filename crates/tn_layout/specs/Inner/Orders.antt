-- References in the order of the beginnings of their spans.
use Rattle.std.specs.Prelude.{◌≡◌, ℕ, ◌+◌, ◌*◌, ◌^◌, ◌<◌, ◌≤◌, Bool, true, false, List, length, get_or, All}
use Rattle.std.specs.List.Sorted.{IsPermutation}
use Rattle.tn_layout.specs.declared.pieces.Piece.{Piece}
use Rattle.tn_layout.specs.declared.pieces.Piece.TheVariants.{Fixed, Rel, Diff}
use Rattle.tn_layout.specs.Sizes.{piece_at}
use Rattle.tn_layout.specs.Spans.{span_from, references}

-- whether a piece is a reference
abbrev pub is_reference : Piece → Bool
is_reference (Fixed size) = false
is_reference (Rel to) = true
is_reference (Diff high low) = true

-- a place is that of a reference
abbrev pub IsPlace : List Piece → ℕ → Type 0
IsPlace pieces i = (i < length pieces) × (is_reference (piece_at pieces i) ≡ true)

-- the number by which references are sorted: the beginning of the span, and the place
abbrev pub sort_key : List Piece → ℕ → ℕ
sort_key pieces i = span_from i (piece_at pieces i) * 2 ^ 32 + i

-- the beginning of the span of the reference at a place of an order
abbrev pub from_at : List Piece → List ℕ → ℕ → ℕ
from_at pieces order j = span_from (get_or order j 0) (piece_at pieces (get_or order j 0))

-- the references, of which none begins its span before one that stands before it
pub record IsOrder (pieces : List Piece) (order : List ℕ) : Type 0 where
  pub same : IsPermutation (references pieces) order
  pub places : All (λ i. IsPlace pieces i) order
  pub rising : (j k : ℕ) → j ≤ k → k < length order → from_at pieces order j ≤ from_at pieces order k
