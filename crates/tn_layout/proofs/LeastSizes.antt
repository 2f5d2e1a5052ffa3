-- Exactly one list of sizes is least.
use Rattle.std.proofs.Common.{◌≡◌, ℕ, zero, suc, ◌+◌, ◌<◌, ◌≤◌, ◌⊎◌, inl, inr, Bool, true, false, nat_lt, List, [], ◌∷◌, map}
use Rattle.std.proofs.Common.{length, get_or, refl, sym, ap, ◌∙◌, arith}
use Rattle.std.specs.List.{sum, enumerate_from}
use Rattle.std.proofs.lemmas.Bool.{cases_lt}
use Rattle.std.proofs.lemmas.Bool.Decides.{nat_tests}
use Rattle.std.proofs.lemmas.List.{ext_get_or, get_or-map, get_or_past, length-map}
use Rattle.std.proofs.lemmas.List.Sums.{sum_by-cons}
use Rattle.tn_prefix.proofs.Lengths.{coding_length-range}
use Rattle.tn_layout.specs.declared.pieces.Piece.{Piece}
use Rattle.tn_layout.specs.declared.pieces.Piece.TheVariants.{Fixed, Rel, Diff}
use Rattle.tn_layout.specs.Sizes.{piece_at, needed, distance, Suits, Least, IsExact, OneIsLeast}
use Rattle.tn_layout.specs.Inner.Positions.{first_size}
use Rattle.tn_layout.proofs.Distances.{AreAtMost}
use Rattle.tn_layout.proofs.Sweeps.{IsLow, AreRaised, low_first, low_more}

length-enumerated : {X : Type 0} (a : ℕ) (xs : List X) → length (enumerate_from a xs) ≡ length xs
length-enumerated a [] = refl
length-enumerated a (x ∷ xs) = ap suc (length-enumerated (a + 1) xs)

enumerated-read : {X : Type 0} (a : ℕ) (xs : List X) (k : ℕ) (d : X) (e : ℕ × X) → k < length xs
    → get_or (enumerate_from a xs) k e ≡ (a + k, get_or xs k d)
enumerated-read a [] k d e h = absurd (omega arith)
enumerated-read a (x ∷ xs) zero d e h = let is : a ≡ a + 0 = omega arith in ap (λ n. (n, x)) is
enumerated-read a (x ∷ xs) (suc k) d e h =
    let is : a + 1 + k ≡ a + suc k = omega arith in enumerated-read (a + 1) xs k d e (omega arith) ∙ ap (λ n. (n, get_or xs k d)) is

-- one sweep: each size becomes what its piece needs
abbrev sweep : List Piece → List ℕ → List ℕ
sweep pieces s = map (λ x. needed s x.0 x.1) (enumerate_from 0 pieces)

-- the sums of sizes
sum-most : (s t : List ℕ) → length s ≡ length t → AreAtMost s t → sum s ≤ sum t
sum-most [] [] l h = omega arith
sum-most [] (y ∷ t) l h = absurd (omega arith)
sum-most (x ∷ s) [] l h = absurd (omega arith)
sum-most (x ∷ s) (y ∷ t) l h =
    omega (arith, sum_by-cons (λ (n : ℕ). n) x s, sum_by-cons (λ (n : ℕ). n) y t, h 0, sum-most s t (omega arith) (λ k. h (suc k)))

sum-less : (s t : List ℕ) (k : ℕ) → length s ≡ length t → AreAtMost s t → k < length s → get_or s k 0 < get_or t k 0 → sum s < sum t
sum-less [] t k l h here up = absurd (omega arith)
sum-less (x ∷ s) [] k l h here up = absurd (omega arith)
sum-less (x ∷ s) (y ∷ t) zero l h here up =
    omega (arith, sum_by-cons (λ (n : ℕ). n) x s, sum_by-cons (λ (n : ℕ). n) y t, sum-most s t (omega arith) (λ k. h (suc k)))
sum-less (x ∷ s) (y ∷ t) (suc k) l h here up =
    omega (
      arith,
      sum_by-cons (λ (n : ℕ). n) x s,
      sum_by-cons (λ (n : ℕ). n) y t,
      h 0,
      sum-less s t k (omega arith) (λ j. h (suc j)) (omega arith) up,
    )

-- the most that a piece needs
abbrev most : Piece → ℕ
most (Fixed size) = size
most (Rel to) = 8
most (Diff high low) = 8

needed-most : (s : List ℕ) (i : ℕ) (p : Piece) → needed s i p ≤ most p
needed-most s i (Fixed size) = omega arith
needed-most s i (Rel to) = (coding_length-range (distance s to (i + 1))).1
needed-most s i (Diff high low) = (coding_length-range (distance s high low)).1

suited : (s : List ℕ) (i : ℕ) (p : Piece) → get_or s i 0 ≡ needed s i p → Suits s i p
suited s i (Fixed size) h = h
suited s i (Rel to) h = omega arith
suited s i (Diff high low) h = omega arith

first_below : (t : ℕ → Bool) (n : ℕ) → ((k : ℕ) × (k < n) × (t k ≡ true)) ⊎ ((k : ℕ) → k < n → t k ≡ false)
first_below t zero = inr (λ k h. absurd (omega arith))
first_below t (suc n) = elim (first_below t n) [ inl f ↦ inl (f.0, omega (arith, f.1), f.2) | inr none ↦ here none (t n) refl ]
  where
    here : ((k : ℕ) → k < n → t k ≡ false) → (b : Bool) → t n ≡ b
        → ((k : ℕ) × (k < suc n) × (t k ≡ true)) ⊎ ((k : ℕ) → k < suc n → t k ≡ false)
    here none true e = inl (n, omega arith, e)
    here none false e = inr (λ k h. elim (cases_lt k n) [ inl l ↦ none k l | inr over ↦ (let is : k ≡ n = omega arith in ap t is ∙ e) ])

module _ (pieces : List Piece) where
  long : (s : List ℕ) → length (sweep pieces s) ≡ length pieces
  long s = length-map (enumerate_from 0 pieces) (λ (x : ℕ × Piece). needed s x.0 x.1) ∙ length-enumerated 0 pieces

  swept-read : (s : List ℕ) (k : ℕ) → k < length pieces → get_or (sweep pieces s) k 0 ≡ needed s k (piece_at pieces k)
  swept-read s k h =
      let z : 0 + k ≡ k = omega arith in
      get_or-map (λ (x : ℕ × Piece). needed s x.0 x.1) (enumerate_from 0 pieces) k (0, Fixed 0) 0
      (omega (arith, length-enumerated 0 pieces))
      ∙ ap (λ (x : ℕ × Piece). needed s x.0 x.1) (enumerated-read 0 pieces k (Fixed 0) (0, Fixed 0) h)
      ∙ ap (λ n. needed s n (piece_at pieces k)) z

  swept : (s : List ℕ) → IsLow pieces s → AreRaised pieces s (sweep pieces s)
  swept s low k h = omega (arith, swept-read s k (omega (arith, long s)), low.low k (omega (arith, long s)))

  capped : (s : List ℕ) → IsLow pieces s → sum s ≤ sum (map (λ p. most p) pieces)
  capped s low = sum-most s (map (λ p. most p) pieces) (low.as_many ∙ sym (length-map pieces (λ (p : Piece). most p)))
      (λ k. elim (cases_lt k (length s)) [
        | inl l ↦ (let read : get_or (map (λ p. most p) pieces) k 0 ≡ most (piece_at pieces k) = get_or-map
            (λ (p : Piece). most p) pieces k (Fixed 0) 0 (omega (arith, low.as_many)) in
            omega (arith, read, low.low k (omega (arith, low.as_many)), needed-most s k (piece_at pieces k)))
        | inr past ↦ omega (arith, get_or_past s k 0 past)
      ])

  at_most : (s : List ℕ) → IsLow pieces s → AreAtMost s (sweep pieces s)
  at_most s low k = elim (cases_lt k (length s)) [
    | inl l ↦ omega (arith, swept-read s k (omega (arith, low.as_many)), low.low k (omega (arith, low.as_many)))
    | inr past ↦ omega (arith, get_or_past s k 0 past)
  ]

  abbrev Settled : Type 0
  Settled = (t : List ℕ) × Least pieces t × IsExact pieces t

  still : (s : List ℕ) → IsLow pieces s → ((k : ℕ) → k < length pieces → nat_lt (get_or s k 0) (needed s k (piece_at pieces k)) ≡ false)
      → Settled
  still s low none = (
    s,
    record {
      valid = record { as_many = low.as_many; suits = λ i l. suited s i (piece_at pieces i) (exact i l) };
      least = low.under;
    },
    exact,
  )
    where
      exact : (i : ℕ) → i < length pieces → get_or s i 0 ≡ needed s i (piece_at pieces i)
      exact i l =
          let no : nat_lt (get_or s i 0) (needed s i (piece_at pieces i)) ≡ false = none i l in
          let low_here : get_or s i 0 ≤ needed s i (piece_at pieces i) = low.low i l in grind (arith, nat_tests)

  settle_all : (fuel : ℕ) (s : List ℕ) → IsLow pieces s → sum (map (λ p. most p) pieces) < sum s + fuel → Settled
  settle_all zero s low h = absurd (omega (arith, capped s low))
  settle_all (suc fuel) s low h = elim (first_below (λ k. nat_lt (get_or s k 0) (needed s k (piece_at pieces k))) (length pieces)) [
    | inl f ↦ (let up : get_or s f.0 0 < needed s f.0
        (piece_at pieces f.0) = (let yes : nat_lt (get_or s f.0 0) (needed s f.0 (piece_at pieces f.0)) ≡ true = f.2 in
        grind (arith, nat_tests)) in
        let grew : sum s < sum (sweep pieces s) = sum-less s (sweep pieces s) f.0 (low.as_many ∙ sym (long s)) (at_most s low)
        (omega (arith, f.1, low.as_many)) (omega (arith, up, swept-read s f.0 f.1)) in
        settle_all fuel (sweep pieces s) (low_more pieces s (sweep pieces s) low (long s ∙ sym low.as_many) (swept s low))
        (omega (arith, grew)))
    | inr none ↦ still s low none
  ]

  pub one_is_least : OneIsLeast pieces
  one_is_least =
      let found : Settled = settle_all (sum (map (λ p. most p) pieces) + 1) (map (λ p. first_size p) pieces)
      (low_first pieces (map (λ p. first_size p) pieces) refl) (omega arith) in
      record {
        sizes = found.0;
        least = found.1;
        exact = found.2;
        only = λ others l. ext_get_or 0 others found.0 (l.valid.as_many ∙ sym found.1.valid.as_many)
            (λ i h. omega (
              arith,
              l.least found.0 found.1.valid i (omega (arith, l.valid.as_many)),
              found.1.least others l.valid i (omega (arith, l.valid.as_many)),
            ));
      }
