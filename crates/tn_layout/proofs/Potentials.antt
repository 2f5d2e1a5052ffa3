-- How much references have grown within spans: it grows with each size, and is at most 7 bytes a pair.
use Rattle.std.proofs.Common.{
  ◌≡◌,
  ℕ,
  zero,
  suc,
  ◌+◌,
  ◌-◌,
  ◌*◌,
  ◌<◌,
  ◌≤◌,
  Bool,
  true,
  false,
  if◌then◌else◌,
  All,
  List,
  [],
  ◌∷◌,
  length,
  get_or,
}
use Rattle.std.proofs.Common.{arith}
use Rattle.std.specs.List.{sum_by, count_by, Contains}
use Rattle.std.proofs.lemmas.List.Elements.{All-head, All-tail}
use Rattle.std.proofs.lemmas.List.Sums.{sum_by-cons}
use Rattle.tn_layout.specs.declared.pieces.Piece.{Piece}
use Rattle.tn_layout.specs.Spans.{is_within, references, pairs}
use Rattle.tn_layout.specs.Inner.Layouts.{potential}
use Rattle.tn_layout.proofs.Distances.{AreAtMost}

-- what one reference adds within a span
abbrev within : List Piece → List ℕ → ℕ → ℕ → ℕ
within pieces s i k = if is_within pieces i k then get_or s k 0 - 1 else 0

more : (a b : ℕ) (w : Bool) → a ≤ b → (if w then a - 1 else 0) ≤ (if w then b - 1 else 0)
more a b true h = omega (arith, h)
more a b false h = omega arith

grown : (a b : ℕ) (w : Bool) → 1 ≤ a → a < b → (if w then a - 1 else 0) + (if w then 1 else 0) ≤ (if w then b - 1 else 0)
grown a b true some h = omega (arith, some, h)
grown a b false some h = omega arith

module _ (pieces : List Piece) (s t : List ℕ) (up : AreAtMost s t) where
  span-more : (i : ℕ) (ks : List ℕ) → sum_by (λ k. within pieces s i k) ks ≤ sum_by (λ k. within pieces t i k) ks
  span-more i [] = omega arith
  span-more i (k ∷ ks) = omega (
    arith,
    sum_by-cons (λ n. within pieces s i n) k ks,
    sum_by-cons (λ n. within pieces t i n) k ks,
    more (get_or s k 0) (get_or t k 0) (is_within pieces i k) (up k),
    span-more i ks,
  )

  module _ (p : ℕ) (some : 1 ≤ get_or s p 0) (less : get_or s p 0 < get_or t p 0) where
    span-grown : (i d : ℕ) (ks : List ℕ) → d < length ks → get_or ks d 0 ≡ p
        → sum_by (λ k. within pieces s i k) ks + (if is_within pieces i p then 1 else 0) ≤ sum_by (λ k. within pieces t i k) ks
    span-grown i d [] here is = absurd (omega arith)
    span-grown i zero (k ∷ ks) here is =
        let first : within pieces s i k + (if is_within pieces i p then 1 else 0) ≤ within pieces t i k =
        rw (is) (grown (get_or s p 0) (get_or t p 0) (is_within pieces i p) some less) in
        omega (arith, sum_by-cons (λ n. within pieces s i n) k ks, sum_by-cons (λ n. within pieces t i n) k ks, first, span-more i ks)
    span-grown i (suc d) (k ∷ ks) here is = omega (
      arith,
      sum_by-cons (λ n. within pieces s i n) k ks,
      sum_by-cons (λ n. within pieces t i n) k ks,
      more (get_or s k 0) (get_or t k 0) (is_within pieces i k) (up k),
      span-grown i d ks (omega (arith, here)) is,
    )

    all-grown : (d : ℕ) (ks is : List ℕ) → d < length ks → get_or ks d 0 ≡ p
        → sum_by (λ i. sum_by (λ k. within pieces s i k) ks) is + count_by (λ i. is_within pieces i p) is
        ≤ sum_by (λ i. sum_by (λ k. within pieces t i k) ks) is
    all-grown d ks [] here at = omega arith
    all-grown d ks (i ∷ is) here at = omega (
      arith,
      sum_by-cons (λ n. sum_by (λ k. within pieces s n k) ks) i is,
      sum_by-cons (λ n. sum_by (λ k. within pieces t n k) ks) i is,
      sum_by-cons (λ (n : ℕ). if is_within pieces n p then 1 else 0) i is,
      span-grown i d ks here at,
      all-grown d ks is here at,
    )

    -- a reference that grows adds one at least for each span that holds it
    pub potential-grown : Contains (references pieces) p
        → potential pieces s + count_by (λ i. is_within pieces i p) (references pieces) ≤ potential pieces t
    potential-grown h = all-grown h.0 (references pieces) (references pieces) h.1 (read (references pieces) h.0 h.1 h.2)
      where
        read : (xs : List ℕ) (k : ℕ) → k < length xs → get_or xs k p ≡ p → get_or xs k 0 ≡ p
        read [] k l e = absurd (omega arith)
        read (x ∷ xs) zero l e = e
        read (x ∷ xs) (suc k) l e = read xs k (omega (arith, l)) e

-- ---- the most

seven : (a : ℕ) (w : Bool) → a ≤ 8 → (if w then a - 1 else 0) ≤ 7 * (if w then 1 else 0)
seven a true h = omega (arith, h)
seven a false h = omega arith

module _ (pieces : List Piece) (s : List ℕ) where
  span-most : (i : ℕ) (ks : List ℕ) → All (λ k. get_or s k 0 ≤ 8) ks
      → sum_by (λ k. within pieces s i k) ks ≤ 7 * count_by (λ k. is_within pieces i k) ks
  span-most i [] all = omega arith
  span-most i (k ∷ ks) all = omega (
    arith,
    sum_by-cons (λ n. within pieces s i n) k ks,
    sum_by-cons (λ (n : ℕ). if is_within pieces i n then 1 else 0) k ks,
    seven (get_or s k 0) (is_within pieces i k) (All-head (λ n. get_or s n 0 ≤ 8) k ks all),
    span-most i ks (All-tail (λ n. get_or s n 0 ≤ 8) k ks all),
  )

  all-most : (ks is : List ℕ) → All (λ k. get_or s k 0 ≤ 8) ks
      → sum_by (λ i. sum_by (λ k. within pieces s i k) ks) is ≤ 7 * sum_by (λ i. count_by (λ k. is_within pieces i k) ks) is
  all-most ks [] all = omega arith
  all-most ks (i ∷ is) all = omega (
    arith,
    sum_by-cons (λ n. sum_by (λ k. within pieces s n k) ks) i is,
    sum_by-cons (λ n. count_by (λ k. is_within pieces n k) ks) i is,
    span-most i ks all,
    all-most ks is all,
  )

  -- no more than 7 bytes for each pair
  pub potential-most : All (λ k. get_or s k 0 ≤ 8) (references pieces) → potential pieces s ≤ 7 * pairs pieces
  potential-most all = all-most (references pieces) (references pieces) all
