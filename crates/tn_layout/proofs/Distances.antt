-- Distances grow with the sizes, and so do the lengths of operands.
use Rattle.std.proofs.Common.{
  ◌≡◌,
  ℕ,
  zero,
  suc,
  ◌+◌,
  ◌-◌,
  ◌<◌,
  ◌≤◌,
  pos,
  negsuc,
  ◌-ℤ◌,
  List,
  [],
  ◌∷◌,
  take,
  get_or,
  refl,
  ap,
  ⊎_elim,
  arith,
  min,
  max,
  ◌≢◌,
  ◌⊎◌,
  inl,
  inr,
  ◌&&◌,
  nat_le,
  nat_lt,
  false,
}
use Rattle.std.proofs.lemmas.Int.{ints}
use Rattle.std.proofs.lemmas.Bool.{cases_lt, and_cases, ltb-false, leb-false}
use Rattle.std.proofs.lemmas.List.Sums.{sum_by-cons}
use Rattle.tn_prefix.specs.Coding.{coding_length}
use Rattle.tn_prefix.proofs.Lengths.{coding_length-mono, coding_length-mono_negative, coding_length-range, coding_length-small}
use Rattle.tn_layout.specs.Sizes.{position, distance}

-- no size of s is larger than that of t at its place
abbrev pub AreAtMost : List ℕ → List ℕ → Type 0
AreAtMost s t = (k : ℕ) → get_or s k 0 ≤ get_or t k 0

-- the position of the next place
pub position-suc : (s : List ℕ) (k : ℕ) → position s (suc k) ≡ position s k + get_or s k 0
position-suc [] zero = refl
position-suc [] (suc k) = refl
position-suc (x ∷ s) zero = omega (arith, sum_by-cons (λ (n : ℕ). n) x [])
position-suc (x ∷ s) (suc k) = omega (
  arith,
  sum_by-cons (λ (n : ℕ). n) x (take (suc k) s),
  sum_by-cons (λ (n : ℕ). n) x
      (take k s),
  position-suc s k,
)

-- places are further apart where the sizes are larger
spread : (s t : List ℕ) (a d : ℕ) → AreAtMost s t → position s (d + a) + position t a ≤ position t (d + a) + position s a
spread s t a zero h = let e : 0 + a ≡ a = omega arith in rw e (omega arith)
spread s t a (suc d) h = let e : suc d + a ≡ suc (d + a) = omega arith in
    rw e (omega (arith, position-suc s (d + a), position-suc t (d + a), h (d + a), spread s t a d h))

pub position-spread : (s t : List ℕ) (a b : ℕ) → a ≤ b → AreAtMost s t → position s b + position t a ≤ position t b + position s a
position-spread s t a b h most =
    let is : (b - a) + a ≡ b = omega arith in
    rw (is) at (spread s t a (b - a) most)

-- later places have no lower positions
climb : (s : List ℕ) (a d : ℕ) → position s a ≤ position s (d + a)
climb s a zero = let e : 0 + a ≡ a = omega arith in rw e (omega arith)
climb s a (suc d) = let e : suc d + a ≡ suc (d + a) = omega arith in rw e (omega (arith, position-suc s (d + a), climb s a d))

pub position-mono : (s : List ℕ) (a b : ℕ) → a ≤ b → position s a ≤ position s b
position-mono s a b h =
    let is : (b - a) + a ≡ b = omega arith in
    rw (is) at (climb s a (b - a))

-- a difference by its sign
ahead : (x y : ℕ) → y ≤ x → pos x -ℤ pos y ≡ pos (x - y)
ahead x y h = omega (arith, ints)

behind : (x y : ℕ) → x < y → pos x -ℤ pos y ≡ negsuc (y - x - 1)
behind x y h = omega (arith, ints)

-- the length of an operand that lies further from 0, on either side
ahead-mono : (x y u v : ℕ) → y ≤ x → x + v ≤ u + y → coding_length (pos x -ℤ pos y) ≤ coding_length (pos u -ℤ pos v)
ahead-mono x y u v h more = rw (ahead x y h, ahead u v (omega arith)) (coding_length-mono (x - y) (u - v) (omega arith))

behind-mono : (x y u v : ℕ) → x ≤ y → u + y ≤ x + v → coding_length (pos x -ℤ pos y) ≤ coding_length (pos u -ℤ pos v)
behind-mono x y u v h more = ⊎_elim
    (λ (less : x < y). rw (behind x y less, behind u v (omega arith)) (coding_length-mono_negative (y - x - 1) (v - u - 1) (omega arith)))
    (λ (over : y ≤ x). rw (ahead x y over) (omega
    (arith, coding_length-small (x - y) (omega arith), (coding_length-range (pos u -ℤ pos v)).0)))
    (cases_lt x y)

-- no size that grows brings an operand nearer to 0
pub distance-mono : (s t : List ℕ) (high low : ℕ) → AreAtMost s t
    → coding_length (distance s high low) ≤ coding_length (distance t high low)
distance-mono s t high low most = ⊎_elim
    (λ (less : high < low). behind-mono (position s high) (position s low) (position t high) (position t low)
    (position-mono s high low (omega arith)) (omega (arith, position-spread s t high low (omega arith) most)))
    (λ (over : low ≤ high). ahead-mono (position s high) (position s low) (position t high) (position t low)
    (position-mono s low high over) (omega (arith, position-spread s t low high over most)))
    (cases_lt high low)

-- ---- one size grows

-- both places lie at or before a piece, or both behind it
pub outside : (a b p : ℕ) → (nat_le (min a b) p && nat_lt p (max a b)) ≡ false → ((a ≤ p) × (b ≤ p)) ⊎ ((p < a) × (p < b))
outside a b p h = ⊎_elim
    (λ (e : nat_le (min a b) p ≡ false). inr (omega (arith, leb-false (min a b) p e), omega (arith, leb-false (min a b) p e)))
    (λ (e : nat_lt p (max a b) ≡ false). inl (omega (arith, ltb-false p (max a b) e), omega (arith, ltb-false p (max a b) e)))
    (and_cases (nat_le (min a b) p) (nat_lt p (max a b)) h)

module _ (s t : List ℕ) (p : ℕ) (same : (k : ℕ) → k ≢ p → get_or t k 0 ≡ get_or s k 0) where
  -- no place before its end moves, and all others move by as much
  pub position-before : (a : ℕ) → a ≤ p → position t a ≡ position s a
  position-before zero h = refl
  position-before (suc a) h = omega (
    arith,
    position-suc s a,
    position-suc t a,
    position-before a (omega arith),
    same a (λ e. absurd (omega (arith, e, h))),
  )

  pub position-behind : (a : ℕ) → p < a → position t a + get_or s p 0 ≡ position s a + get_or t p 0
  position-behind zero h = absurd (omega arith)
  position-behind (suc a) h = ⊎_elim
      (λ (less : p < a). omega (
        arith,
        position-suc s a,
        position-suc t a,
        position-behind a less,
        same a
            (λ e. absurd (omega (arith, e, less))),
      ))
      (λ (over : a ≤ p). let is : a ≡ p = omega (arith, over, h) in
      omega (arith, position-suc s a, position-suc t a, position-before a over, ap (λ k. get_or s k 0) is, ap (λ k. get_or t k 0) is))
      (cases_lt p a)

  moved-alike : (x y u v m n : ℕ) → x + m ≡ u + n → y + m ≡ v + n → pos x -ℤ pos y ≡ pos u -ℤ pos v
  moved-alike x y u v m n e f = omega (arith, ints, e, f)

  -- so a distance that doesn't span it stays
  pub distance-kept : (high low : ℕ) → ((high ≤ p) × (low ≤ p)) ⊎ ((p < high) × (p < low)) → distance t high low ≡ distance s high low
  distance-kept high low h = ⊎_elim
      (λ (b : (high ≤ p) × (low ≤ p)). moved-alike (position t high) (position t low) (position s high) (position s low) 0 0
      (omega (arith, position-before high b.0)) (omega (arith, position-before low b.1)))
      (λ (b : (p < high) × (p < low)). moved-alike (position t high) (position t low) (position s high) (position s low)
      (get_or s p 0) (get_or t p 0) (position-behind high b.0) (position-behind low b.1))
      h
