-- What a look at a reference that waits leaves, and what is known when none waits.
use Rattle.std.proofs.Common.{◌≡◌, ◌≢◌, ℕ, zero, suc, ◌+◌, ◌*◌, ◌%◌, ◌^◌, ◌<◌, ◌≤◌, ◌==◌, ◌⊎◌, inl, inr, true, false, if◌then◌else◌, All}
use Rattle.std.proofs.Common.{
  List,
  [],
  ◌∷◌,
  ◌++◌,
  length,
  get_or,
  set,
  map,
  refl,
  sym,
  ap,
  ap₂,
  ◌∙◌,
  subst,
  ⊎_elim,
  arith,
  pos,
  ◌-ℤ◌,
  nat_le,
  nat_lt,
  ◌&&◌,
}
use Rattle.std.specs.List.{count_by, Contains}
use Rattle.std.proofs.lemmas.Bool.{cases_lt, cases_eq, eq-eqb, ne_eqb, cond-true, cond-false, false≢true}
use Rattle.std.proofs.lemmas.List.{get_or-set_same, get_or-set_other, length-set, length-append, get_or-map}
use Rattle.std.proofs.lemmas.List.Elements.{
  All-tail,
  All-head,
  Contains-append_right,
  Contains-append_left,
  Contains-get_or,
  Contains-push,
  All-push,
  All-weaker,
}
use Rattle.std.proofs.lemmas.List.Sorted.{Contains-permutation, sum_by-IsPermutation, length_permutation, IsPermutation-sym}
use Rattle.tn_prefix.proofs.Lengths.{coding_length-range}
use Rattle.tn_prefix.specs.Coding.{coding_length}
use Rattle.tn_text.specs.declared.limits.TheConstants.{ITEM_LIMIT}
use Rattle.tn_layout.specs.declared.pieces.Piece.{Piece}
use Rattle.tn_layout.specs.declared.pieces.Piece.TheVariants.{Fixed, Rel, Diff}
use Rattle.tn_layout.specs.Sizes.{piece_at, position, distance, needed, Suits, Least, IsExact}
use Rattle.tn_layout.specs.Spans.{span_from, span_to, is_within, references_from, references, pairs}
use Rattle.tn_layout.specs.Inner.Positions.{first_size}
use Rattle.tn_layout.specs.Inner.SegmentTrees.{IsJoined, leaf, sum_from}
use Rattle.tn_layout.specs.Inner.Orders.{is_reference, IsPlace, IsOrder}
use Rattle.tn_layout.specs.Inner.Marks.{to_at, AreMarks, IsMarked}
use Rattle.tn_layout.specs.Inner.Layouts.{IsSettled, IsLayout, IsSummed, potential}
use Rattle.tn_layout.proofs.Distances.{AreAtMost, position-suc, distance-kept, outside}
use Rattle.tn_layout.proofs.Sweeps.{low_some, low_first}
use Rattle.tn_layout.proofs.ReferenceLaws.{places}
use Rattle.tn_layout.proofs.Potentials.{potential-grown, potential-most}

-- ---- sums of sizes

module _ (sizes nodes : List ℕ) (width : ℕ) (summed : IsSummed sizes nodes width) where
  -- the sum of the first leaves is a position
  pub sum-position : (a : ℕ) → sum_from nodes width a ≡ position sizes a
  unfolding sum_from
  sum-position zero = refl
  sum-position (suc a) = omega (arith, sum-position a, summed.leaves a, position-suc sizes a)

  position-small : (a : ℕ) → position sizes a ≤ 255 * a
  position-small zero = omega arith
  position-small (suc a) = omega (arith, position-small a, summed.small a, position-suc sizes a)

  pub sum-small : (a : ℕ) → a ≤ ITEM_LIMIT → sum_from nodes width a ≤ 255 * ITEM_LIMIT
  sum-small a l = omega (arith, sum-position a, position-small a, l)

  pub sums-distance : (high low : ℕ) → pos (sum_from nodes width high) -ℤ pos (sum_from nodes width low) ≡ distance sizes high low
  sums-distance high low = ap₂ (λ a b. pos a -ℤ pos b) (sum-position high) (sum-position low)

-- leaves of which one was set
abbrev pub AreSet : (ℕ → ℕ) → ℕ → ℕ → (ℕ → ℕ) → Type 0
AreSet old i number new = (k : ℕ) → new k ≡ (if k == i then number else old k)

pub leaf-set : (old new : ℕ → ℕ) (i number : ℕ) → AreSet old i number new → new i ≡ number
leaf-set old new i number h = h i ∙ cond-true (i == i) number (old i) (eq-eqb i i refl)

pub leaf-others : (old new : ℕ → ℕ) (i number : ℕ) → AreSet old i number new → (k : ℕ) → k ≢ i → new k ≡ old k
leaf-others old new i number h k other = h k ∙ cond-false (k == i) number (old k) (ne_eqb k i other)

-- a size that is set, in the list and in the tree
pub summed-set : (sizes nodes new : List ℕ) (width wide i size number : ℕ) → IsSummed sizes nodes width → i < length sizes → size ≤ 255
    → wide ≡ width → number ≡ size
    → IsJoined (λ left right. (left + right) % 2 ^ 32) new wide → AreSet (λ k. leaf nodes width k) i number (λ k. leaf new wide k)
    → IsSummed (set sizes i size) new wide
summed-set sizes nodes new width wide i size number summed here small same-width same-size joined are = record {
  joined = joined;
  leaves = λ k. elim (cases_eq k i) [
    | inl same ↦ rw (same) (leaf-set (λ k. leaf nodes width k) (λ k. leaf new wide k) i number are
        ∙ (same-size ∙ sym (get_or-set_same sizes i size 0 here)))
    | inr other ↦ leaf-others (λ k. leaf nodes width k) (λ k. leaf new wide k) i number are k other
        ∙ (summed.leaves k ∙ sym (get_or-set_other sizes i k size 0 other))
  ];
  wide = omega (arith, summed.wide, length-set sizes i size, same-width);
  small = λ k. elim (cases_eq k i) [
    | inl same ↦ rw (same) (omega (arith, get_or-set_same sizes i size 0 here, small))
    | inr other ↦ omega (arith, get_or-set_other sizes i k size 0 other, summed.small k)
  ];
}

-- all numbers below another
abbrev pub AreAllBelow : ℕ → List ℕ → Type 0
AreAllBelow n xs = ((x : ℕ) → x < n → Contains xs x) × All (λ x. x < n) xs × (length xs ≡ n)

pub all-more : (n : ℕ) (xs : List ℕ) → AreAllBelow n xs → AreAllBelow (n + 1) (xs ++ n ∷ [])
all-more n xs h = (
  λ x l. elim (cases_lt x n) [
    | inl less ↦ Contains-append_left xs (n ∷ []) x (h.0 x less)
    | inr over ↦ (let is : x ≡ n = omega (arith, l, over) in rw (is) (Contains-push xs n))
  ],
  All-push (λ x. x < n + 1) xs n (All-weaker (λ x. x < n) (λ x. x < n + 1) (λ x l. omega (arith, l)) xs h.1) (omega arith),
  omega (arith, h.2, length-append xs (n ∷ [])),
)

-- ---- a piece that a span doesn't hold

module _ (pieces : List Piece) (s t : List ℕ) (p : ℕ) (same : (k : ℕ) → k ≢ p → get_or t k 0 ≡ get_or s k 0) where
  needed-by : (i : ℕ) (piece : Piece) → ((nat_le (span_from i piece) p && nat_lt p (span_to i piece)) ≡ false)
      → needed t i piece ≡ needed s i piece
  needed-by i (Fixed size) h = refl
  needed-by i (Rel to) h = ap coding_length (distance-kept s t p same to (i + 1) (turned (outside (i + 1) to p h)))
    where
      turned : ((i + 1 ≤ p) × (to ≤ p)) ⊎ ((p < i + 1) × (p < to)) → ((to ≤ p) × (i + 1 ≤ p)) ⊎ ((p < to) × (p < i + 1))
      turned (inl b) = inl (b.1, b.0)
      turned (inr b) = inr (b.1, b.0)
  needed-by i (Diff high low) h = ap coding_length (distance-kept s t p same high low (outside high low p h))

  -- a reference needs as much as before where its span doesn't hold the piece whose size changed
  pub needed-kept : (i : ℕ) → is_within pieces i p ≡ false → needed t i (piece_at pieces i) ≡ needed s i (piece_at pieces i)
  needed-kept i h = needed-by i (piece_at pieces i) h

-- ---- one look

module _ (pieces : List Piece) (sizes order : List ℕ) (ends mid : ℕ → ℕ) (j : ℕ) (rest : List ℕ)
    (so : IsLayout pieces sizes order ends (j ∷ rest))
    (renewed : (x : ℕ) → mid x ≡ (if x == j then suc (to_at pieces order j) else ends x)) where
  pub here : j < length order
  here = All-head (λ x. x < length order) j rest so.below

  abbrev i : ℕ
  i = get_or order j 0

  abbrev size : ℕ
  size = needed sizes i (piece_at pieces i)

  pub i-place : IsPlace pieces i
  i-place = so.ordered.places j 0 here

  at-j : mid j ≡ suc (to_at pieces order j)
  at-j = renewed j ∙ cond-true (j == j) (suc (to_at pieces order j)) (ends j) (eq-eqb j j refl)

  not-j : (x : ℕ) → x ≢ j → mid x ≡ ends x
  not-j x other = renewed x ∙ cond-false (x == j) (suc (to_at pieces order j)) (ends x) (ne_eqb x j other)

  pub mid-marks : AreMarks pieces order mid
  mid-marks = record {
    each = λ x l. elim (cases_eq x j) [
      | inl same ↦ inr (ap mid same ∙ (at-j ∙ ap (λ n. suc (to_at pieces order n)) (sym same)))
      | inr other ↦ ⊎_elim (λ (z : ends x ≡ 0). inl (not-j x other ∙ z))
          (λ (e : ends x ≡ suc (to_at pieces order x)). inr (not-j x other ∙ e)) (so.marks.each x l)
    ];
    none = λ x past. not-j x (λ e. absurd (omega (arith, e, past, here))) ∙ so.marks.none x past;
  }

  rest-holds : (x : ℕ) → x ≢ j → Contains (j ∷ rest) x → Contains rest x
  rest-holds x other h = by h.0 h.1 h.2
    where
      by : (k : ℕ) → k < length (j ∷ rest) → get_or (j ∷ rest) k x ≡ x → Contains rest x
      by zero l e = absurd (other (sym e))
      by (suc k) l e = (k, omega (arith, l), e)

  rest-queued : (x : ℕ) → x < length order → mid x ≡ 0 → Contains rest x
  rest-queued x l z = elim (cases_eq x j) [
    | inl same ↦ absurd (omega (arith, ap mid same, at-j, z))
    | inr other ↦ rest-holds x other (so.queued x l (sym (not-j x other) ∙ z))
  ]

  rest-below : All (λ x. x < length order) rest
  rest-below = All-tail (λ x. x < length order) j rest so.below

  -- it needs no more than it has
  pub layout-still : size ≤ get_or sizes i 0 → IsLayout pieces sizes order mid rest
  layout-still enough = record {
    low = so.low;
    first = so.first;
    ordered = so.ordered;
    marks = mid-marks;
    queued = rest-queued;
    settled = λ x l some. elim (cases_eq x j) [
      | inl same ↦ rw (same) (omega (arith, enough, so.low.low i i-place.0))
      | inr other ↦ so.settled x l (λ z. some (not-j x other ∙ z))
    ];
    below = rest-below;
  }

  module _ (new : ℕ → ℕ) (after : List ℕ) (less : get_or sizes i 0 < size) (marks : AreMarks pieces order new)
      (marked : IsMarked pieces order i mid new rest after) where
    abbrev grown : List ℕ
    grown = set sizes i size

    inside : i < length sizes
    inside = omega (arith, i-place.0, so.low.as_many)

    at-i : get_or grown i 0 ≡ size
    at-i = get_or-set_same sizes i size 0 inside

    not-i : (k : ℕ) → k ≢ i → get_or grown k 0 ≡ get_or sizes k 0
    not-i k other = get_or-set_other sizes i k size 0 other

    pub up : AreAtMost sizes grown
    up k = elim (cases_eq k i) [
      | inl same ↦ rw (same) (omega (arith, at-i, less))
      | inr other ↦ omega (arith, not-i k other)
    ]

    grown-most : (k : ℕ) → k < length pieces → get_or grown k 0 ≤ needed sizes k (piece_at pieces k)
    grown-most k l = elim (cases_eq k i) [
      | inl same ↦ rw (same) (omega (arith, at-i))
      | inr other ↦ omega (arith, not-i k other, so.low.low k l)
    ]

    grown-settled : (x : ℕ) → x < length order → new x ≢ 0 → IsSettled pieces grown order x
    grown-settled x l some =
        let left = marked.left x l some in
        let kept : needed grown (get_or order x 0) (piece_at pieces (get_or order x 0))
        ≡ needed sizes (get_or order x 0) (piece_at pieces (get_or order x 0)) =
        needed-kept pieces sizes grown i not-i (get_or order x 0) left.1 in
        elim (cases_eq (get_or order x 0) i) [
          | inl same ↦ ap (λ k. get_or grown k 0) same ∙ at-i ∙ ap (λ k. needed sizes k (piece_at pieces k)) (sym same) ∙ sym kept
          | inr other ↦ not-i (get_or order x 0) other
              ∙ so.settled x l (λ z. some (left.0 ∙ (not-j x (λ e. other (ap (λ n. get_or order n 0) e)) ∙ z))) ∙ sym kept
        ]

    -- it grows, and those wait again whose span holds it
    pub layout-grown : IsLayout pieces grown order new after
    layout-grown = record {
      low = low_some pieces sizes grown so.low (length-set sizes i size) up grown-most;
      first = λ k l. omega (arith, so.first k l, up k);
      ordered = so.ordered;
      marks = marks;
      queued = λ x l z. ⊎_elim (λ (w : mid x ≡ 0). marked.kept x (rest-queued x l w)) (λ (w : Contains after x). w) (marked.gone x l z);
      settled = grown-settled;
      below = marked.below rest-below;
    }

    is-one : (piece : Piece) → is_reference piece ≡ true → first_size piece ≡ 1
    is-one (Fixed bytes) h = absurd (false≢true h)
    is-one (Rel to) h = refl
    is-one (Diff high low) h = refl

    -- as much as it adds to what waits, and one more, is added to the potential
    pub count-grown : length after ≤ length rest + count_by (λ n. is_within pieces n i) order
        → length after + 1 + potential pieces sizes ≤ length (j ∷ rest) + potential pieces grown
    count-grown h = omega (
      arith,
      h,
      sum_by-IsPermutation (λ (n : ℕ). if is_within pieces n i then 1 else 0) (references pieces) order so.ordered.same,
      potential-grown pieces sizes grown up i
          (omega (arith, so.first i i-place.0, is-one (piece_at pieces i) i-place.1)) (omega (arith, at-i, less))
          (Contains-permutation order (references pieces) i (IsPermutation-sym (references pieces) order so.ordered.same)
          (Contains-get_or order j 0 here)),
    )

-- ---- the same where the place is read from the order

module _ (pieces : List Piece) (sizes order : List ℕ) (ends mid : ℕ → ℕ) (j : ℕ) (rest : List ℕ)
    (so : IsLayout pieces sizes order ends (j ∷ rest))
    (renewed : (x : ℕ) → mid x ≡ (if x == j then suc (to_at pieces order j) else ends x))
    (n bytes : ℕ) (read : n ≡ get_or order j 0) (are : bytes ≡ needed sizes n (piece_at pieces n)) where
  abbrev Still : ℕ → ℕ → Type 0
  Still m b = b ≤ get_or sizes m 0 → IsLayout pieces sizes order mid rest

  pub look-still : Still n bytes
  look-still = subst (λ b. Still n b) (sym are) (subst (λ m. Still m (needed sizes m (piece_at pieces m))) (sym read)
      (layout-still pieces sizes order ends mid j rest so renewed))

  module _ (new : ℕ → ℕ) (after : List ℕ) (marks : AreMarks pieces order new) where
    abbrev Grows : ℕ → ℕ → Type 0
    Grows m b = get_or sizes m 0 < b → IsMarked pieces order m mid new rest after → IsLayout pieces (set sizes m b) order new after

    pub look-grown : Grows n bytes
    look-grown = subst (λ b. Grows n b) (sym are) (subst (λ m. Grows m (needed sizes m (piece_at pieces m))) (sym read)
        (λ less marked. layout-grown pieces sizes order ends mid j rest so renewed new after less marks marked))

    abbrev Counts : ℕ → ℕ → Type 0
    Counts m b = get_or sizes m 0 < b → IsMarked pieces order m mid new rest after
        → length after ≤ length rest + count_by (λ i. is_within pieces i m) order
        → length after + 1 + potential pieces sizes ≤ length (j ∷ rest) + potential pieces (set sizes m b)

    pub look-counted : Counts n bytes
    look-counted = subst (λ b. Counts n b) (sym are) (subst (λ m. Counts m (needed sizes m (piece_at pieces m))) (sym read)
        (λ less marked. count-grown pieces sizes order ends mid j rest so renewed new after less marks marked))

-- ---- the beginning

-- there are no more references than pieces
references-few : (k : ℕ) (pieces : List Piece) → length (references_from k pieces) ≤ length pieces
unfolding references_from
references-few k [] = omega arith
references-few k (Fixed size ∷ pieces) = omega (arith, references-few (suc k) pieces)
references-few k (Rel to ∷ pieces) = omega (arith, references-few (suc k) pieces)
references-few k (Diff high low ∷ pieces) = omega (arith, references-few (suc k) pieces)

pub order-long : (pieces : List Piece) (order : List ℕ) → IsOrder pieces order → length order ≡ length (references pieces)
order-long pieces order ordered = length_permutation (references pieces) order ordered.same

pub order-few : (pieces : List Piece) (order : List ℕ) → IsOrder pieces order → length order ≤ length pieces
order-few pieces order ordered = omega (arith, order-long pieces order ordered, references-few 0 pieces)

pub layout-first : (pieces : List Piece) (sizes order : List ℕ) (ends : ℕ → ℕ) (waiting : List ℕ)
    → sizes ≡ map (λ piece. first_size piece) pieces → IsOrder pieces order → ((j : ℕ) → ends j ≡ 0)
    → ((x : ℕ) → x < length order → Contains waiting x) → All (λ x. x < length order) waiting
    → IsLayout pieces sizes order ends waiting
layout-first pieces sizes order ends waiting made ordered none each below = record {
  low = low_first pieces sizes made;
  first = λ i l. omega (arith, ap (λ xs. get_or xs i 0) made ∙ get_or-map (λ (piece : Piece). first_size piece) pieces i (Fixed 0) 0 l);
  ordered = ordered;
  marks = record { each = λ j l. inl (none j); none = λ j l. none j };
  queued = λ j l z. each j l;
  settled = λ j l some. absurd (some (none j));
  below = below;
}

-- ---- the end

-- what is read within a list does not depend on what is read past it
get_or-same : (xs : List ℕ) (k d e : ℕ) → k < length xs → get_or xs k d ≡ get_or xs k e
get_or-same [] k d e l = absurd (omega arith)
get_or-same (x ∷ xs) zero d e l = refl
get_or-same (x ∷ xs) (suc k) d e l = get_or-same xs k d e (omega (arith, l))

-- a piece that is a reference is among the references
contains-from : (k d : ℕ) (pieces : List Piece) → d < length pieces → is_reference (piece_at pieces d) ≡ true
    → Contains (references_from k pieces) (k + d)
unfolding references_from
contains-from k d [] h is = absurd (omega arith)
contains-from k zero (Fixed size ∷ pieces) h is = absurd (false≢true is)
contains-from k zero (Rel to ∷ pieces) h is = (0, omega arith, omega arith)
contains-from k zero (Diff high low ∷ pieces) h is = (0, omega arith, omega arith)
contains-from k (suc d) (Fixed size ∷ pieces) h is =
    let e : k + suc d ≡ suc k + d = omega arith in rw (e) (contains-from (suc k) d pieces (omega (arith, h)) is)
contains-from k (suc d) (Rel to ∷ pieces) h is =
    let e : k + suc d ≡ suc k + d = omega arith in
    rw (e) (Contains-append_right (k ∷ []) (references_from (suc k) pieces) (suc k + d)
    (contains-from (suc k) d pieces (omega (arith, h)) is))
contains-from k (suc d) (Diff high low ∷ pieces) h is =
    let e : k + suc d ≡ suc k + d = omega arith in
    rw (e) (Contains-append_right (k ∷ []) (references_from (suc k) pieces) (suc k + d)
    (contains-from (suc k) d pieces (omega (arith, h)) is))

module _ (pieces : List Piece) (sizes order : List ℕ) (ends : ℕ → ℕ) (waiting : List ℕ)
    (so : IsLayout pieces sizes order ends waiting) where
  all-small : All (λ k. get_or sizes k 0 ≤ 8) (references pieces)
  all-small = All-weaker (λ k. IsPlace pieces k) (λ k. get_or sizes k 0 ≤ 8)
      (λ k h. omega (arith, so.low.low k h.0, eight k (piece_at pieces k) h.1)) (references pieces) (places pieces)
    where
      eight : (k : ℕ) (piece : Piece) → is_reference piece ≡ true → needed sizes k piece ≤ 8
      eight k (Fixed size) h = absurd (false≢true h)
      eight k (Rel to) h = (coding_length-range (distance sizes to (k + 1))).1
      eight k (Diff high low) h = (coding_length-range (distance sizes high low)).1

  pub most : potential pieces sizes ≤ 7 * pairs pieces
  most = potential-most pieces sizes all-small

  module _ (none : length waiting ≡ 0) where
    settled-at : (i : ℕ) → Contains order i → get_or sizes i 0 ≡ needed sizes i (piece_at pieces i)
    settled-at i h =
        let at : get_or order h.0 0 ≡ i = get_or-same order h.0 0 i h.1 ∙ h.2 in
        subst (λ n. get_or sizes n 0 ≡ needed sizes n (piece_at pieces n)) at
        (so.settled h.0 h.1 (λ z. let w = so.queued h.0 h.1 z in absurd (omega (arith, w.1, none))))

    in-order : (i : ℕ) → i < length pieces → is_reference (piece_at pieces i) ≡ true → Contains order i
    in-order i l is =
        let e : 0 + i ≡ i = omega arith in
        Contains-permutation (references pieces) order i so.ordered.same
        (subst (λ n. Contains (references pieces) n) e (contains-from 0 i pieces l is))

    exact-by : (i : ℕ) (piece : Piece) → i < length pieces → piece_at pieces i ≡ piece → get_or sizes i 0 ≡ needed sizes i piece
    exact-by i (Fixed size) l is = omega (
      arith,
      ap (λ p. needed sizes i p) is,
      ap (λ p. first_size p) is,
      so.low.low i l,
      so.first i l,
    )
    exact-by i (Rel to) l is = settled-at i (in-order i l (ap is_reference is)) ∙ ap (λ p. needed sizes i p) is
    exact-by i (Diff high low) l is = settled-at i (in-order i l (ap is_reference is)) ∙ ap (λ p. needed sizes i p) is

    -- where none waits, each size is what its piece needs
    pub exact : IsExact pieces sizes
    exact i l = exact-by i (piece_at pieces i) l refl

    suited : (i : ℕ) (piece : Piece) → get_or sizes i 0 ≡ needed sizes i piece → Suits sizes i piece
    suited i (Fixed size) h = h
    suited i (Rel to) h = omega (arith, h)
    suited i (Diff high low) h = omega (arith, h)

    -- and the sizes are the least
    pub least : Least pieces sizes
    least = record {
      valid = record { as_many = so.low.as_many; suits = λ i l. suited i (piece_at pieces i) (exact i l) };
      least = so.low.under;
    }
