-- The span of a reference: the pieces whose sizes make the distance that is its operand.
use Rattle.std.specs.Prelude.{ℕ, ◌+◌, suc, min, max, Bool, ◌&&◌, nat_lt, nat_le, List, [], ◌∷◌}
use Rattle.std.specs.List.{sum_by, count_by}
use Rattle.tn_layout.specs.declared.pieces.Piece.{Piece}
use Rattle.tn_layout.specs.declared.pieces.Piece.TheVariants.{Fixed, Rel, Diff}
use Rattle.tn_layout.specs.Sizes.{piece_at}

-- the places between which the operand of the piece at place i is the distance: its own end and its
-- label, or two labels; the lower and the higher
abbrev pub span_from : ℕ → Piece → ℕ
span_from i (Fixed size) = 0
span_from i (Rel to) = min (i + 1) to
span_from i (Diff high low) = min high low

abbrev pub span_to : ℕ → Piece → ℕ
span_to i (Fixed size) = 0
span_to i (Rel to) = max (i + 1) to
span_to i (Diff high low) = max high low

-- whether the piece at place k lies within the span of the piece at place i
abbrev pub is_within : List Piece → ℕ → ℕ → Bool
is_within pieces i k = nat_le (span_from i (piece_at pieces i)) k && nat_lt k (span_to i (piece_at pieces i))

-- the places of the references among pieces, of which the first is at place k
unfoldable pub references_from : ℕ → List Piece → List ℕ
references_from k [] = []
references_from k (Fixed size ∷ pieces) = references_from (suc k) pieces
references_from k (Rel to ∷ pieces) = k ∷ references_from (suc k) pieces
references_from k (Diff high low ∷ pieces) = k ∷ references_from (suc k) pieces

abbrev pub references : List Piece → List ℕ
references pieces = references_from 0 pieces

-- how many pairs there are of a reference and a reference within its span
abbrev pub pairs : List Piece → ℕ
pairs pieces = sum_by (λ i. count_by (λ k. is_within pieces i k) (references pieces)) (references pieces)
