-- Two lists of pieces, and how many lengths of operands their layouts may take.
use Rattle.std.proofs.Common.{◌≡◌, ◌+◌, ◌*◌, [], ◌∷◌, length, refl}
use Rattle.tn_layout.specs.declared.pieces.Piece.TheVariants.{Fixed, Rel}
use Rattle.tn_layout.specs.Spans.{references_from, references, pairs}

-- a jump to itself
pub jump-to-itself : length (references (Rel 0 ∷ [])) + 7 * pairs (Rel 0 ∷ []) ≡ 8
unfolding references_from
jump-to-itself = refl

-- two jumps, of which the first spans the second
pub jump-over-jump : length (references (Rel 3 ∷ Fixed 14 ∷ Rel 4 ∷ Fixed 16 ∷ [])) + 7 * pairs
    (Rel 3 ∷ Fixed 14 ∷ Rel 4 ∷ Fixed 16 ∷ []) ≡ 9
unfolding references_from
jump-over-jump = refl
