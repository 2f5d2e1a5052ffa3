-- What growth keeps: no size is more than its piece needs, or than in a valid list.
use Rattle.std.proofs.Common.{◌≡◌, ℕ, ◌+◌, ◌<◌, ◌≤◌, max, List, length, map, get_or, ap, ◌∙◌, ⊎_elim, arith}
use Rattle.std.proofs.lemmas.Bool.{cases_lt}
use Rattle.std.proofs.lemmas.List.{get_or_past, get_or-map, length-map}
use Rattle.tn_prefix.proofs.Lengths.{coding_length-range}
use Rattle.tn_layout.specs.declared.pieces.Piece.{Piece}
use Rattle.tn_layout.specs.declared.pieces.Piece.TheVariants.{Fixed, Rel, Diff}
use Rattle.tn_layout.specs.Sizes.{piece_at, distance, needed, Suits, Valid}
use Rattle.tn_layout.specs.Inner.Positions.{first_size}
pub use Rattle.tn_layout.specs.Inner.Layouts.{IsLow}
use Rattle.tn_layout.proofs.Distances.{AreAtMost, distance-mono}

-- a piece needs no fewer bytes where sizes are larger
pub needed-mono : (s t : List ℕ) (i : ℕ) (piece : Piece) → AreAtMost s t → needed s i piece ≤ needed t i piece
needed-mono s t i (Fixed size) most = omega arith
needed-mono s t i (Rel to) most = distance-mono s t to (i + 1) most
needed-mono s t i (Diff high low) most = distance-mono s t high low most

-- the first sizes are not more than needed
pub first-needed : (s : List ℕ) (i : ℕ) (piece : Piece) → first_size piece ≤ needed s i piece
first-needed s i (Fixed size) = omega arith
first-needed s i (Rel to) = (coding_length-range (distance s to (i + 1))).0
first-needed s i (Diff high low) = (coding_length-range (distance s high low)).0

-- a size that suits is enough
suits-needed : (s : List ℕ) (i : ℕ) (piece : Piece) → Suits s i piece → needed s i piece ≤ get_or s i 0
suits-needed s i (Fixed size) h = omega arith
suits-needed s i (Rel to) h = h
suits-needed s i (Diff high low) h = h

-- sizes that are at most others at each piece are so everywhere
at_most : (s t : List ℕ) → ((i : ℕ) → i < length s → get_or s i 0 ≤ get_or t i 0) → AreAtMost s t
at_most s t h k = ⊎_elim (h k) (λ (past : length s ≤ k). omega (arith, get_or_past s k 0 past)) (cases_lt k (length s))

-- what one sweep makes of sizes
abbrev pub AreRaised : List Piece → List ℕ → List ℕ → Type 0
AreRaised pieces s t = (k : ℕ) → k < length t → get_or t k 0 ≡ max (get_or s k 0) (needed s k (piece_at pieces k))

-- sizes that grow to no more than is needed stay low
pub low_some : (pieces : List Piece) (s t : List ℕ) → IsLow pieces s → length t ≡ length s → AreAtMost s t
    → ((i : ℕ) → i < length pieces → get_or t i 0 ≤ needed s i (piece_at pieces i)) → IsLow pieces t
low_some pieces s t h long up most = record { as_many = long ∙ h.as_many; low = low; under = under }
  where
    low : (i : ℕ) → i < length pieces → get_or t i 0 ≤ needed t i (piece_at pieces i)
    low i l = omega (arith, most i l, needed-mono s t i (piece_at pieces i) up)

    under : (others : List ℕ) → Valid pieces others → (i : ℕ) → i < length pieces → get_or t i 0 ≤ get_or others i 0
    under others valid i l =
        let below : AreAtMost s others = at_most s others (λ k m. h.under others valid k (omega (arith, h.as_many))) in
        omega (
          arith,
          most i l,
          needed-mono s others i (piece_at pieces i) below,
          suits-needed others i (piece_at pieces i)
              (valid.suits i l),
        )

-- low sizes stay low
pub low_more : (pieces : List Piece) (s t : List ℕ) → IsLow pieces s → length t ≡ length s → AreRaised pieces s t → IsLow pieces t
low_more pieces s t h long raised = low_some pieces s t h long (at_most s t (λ i l. omega (arith, raised i (omega arith))))
    (λ i l. omega (arith, raised i (omega (arith, h.as_many)), h.low i l))

-- the first sizes are low
pub low_first : (pieces : List Piece) (s : List ℕ) → s ≡ map (λ piece. first_size piece) pieces → IsLow pieces s
low_first pieces s made = record {
  as_many = ap length made ∙ length-map pieces (λ (piece : Piece). first_size piece);
  low = λ i l. omega (arith, is i l, first-needed s i (piece_at pieces i));
  under = λ others valid i l. omega (
    arith,
    is i l,
    first-needed others i (piece_at pieces i),
    suits-needed others i
        (piece_at pieces i) (valid.suits i l),
  );
}
  where
    is : (i : ℕ) → i < length pieces → get_or s i 0 ≡ first_size (piece_at pieces i)
    is i l = ap (λ xs. get_or xs i 0) made ∙ get_or-map (λ (piece : Piece). first_size piece) pieces i (Fixed 0) 0 l
