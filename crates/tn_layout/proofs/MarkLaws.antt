-- Which references don't wait and have a span that holds a piece, and how many.
use Rattle.std.proofs.Common.{
  ◌≡◌,
  ◌≢◌,
  ℕ,
  zero,
  suc,
  ◌+◌,
  ◌<◌,
  ◌≤◌,
  ◌⊎◌,
  inl,
  inr,
  Bool,
  true,
  false,
  ◌&&◌,
  nat_lt,
  nat_le,
  ◌==◌,
  if◌then◌else◌,
}
use Rattle.std.proofs.Common.{List, [], ◌∷◌, length, get_or, refl, sym, ap, ap₂, ◌∙◌, ⊎_elim, All, ◌++◌, arith}
use Rattle.std.specs.List.{count_by, Contains}
use Rattle.std.proofs.lemmas.Bool.{
  cases_lt,
  cases_eq,
  lt-ltb,
  le-ltb,
  le-leb,
  lt-leb,
  and_from,
  and_left,
  and_right,
  eq-eqb,
  ne_eqb,
  cond-true,
  cond-false,
}
use Rattle.std.proofs.lemmas.List.Sums.{sum_by-cons}
use Rattle.std.proofs.lemmas.List.{length-append}
use Rattle.std.proofs.lemmas.List.Elements.{Contains-append_left, Contains-push, All-push}
use Rattle.tn_layout.specs.declared.pieces.Piece.{Piece}
use Rattle.tn_layout.specs.Spans.{is_within}
use Rattle.tn_layout.specs.Inner.Orders.{from_at, IsOrder}
use Rattle.tn_layout.specs.Inner.Marks.{to_at, holds_at, AreMarks, IsMarked}

-- ---- which

-- a leaf above a number is that of a reference, and one more than the end of its span
pub above-is : (pieces : List Piece) (order : List ℕ) (leaves : ℕ → ℕ) (number j : ℕ) → AreMarks pieces order leaves → number < leaves j
    → (j < length order) × (leaves j ≡ suc (to_at pieces order j))
above-is pieces order leaves number j marks above = elim (cases_lt j (length order)) [
  | inl here ↦ (
    here,
    ⊎_elim (λ (none : leaves j ≡ 0). absurd (omega (arith, none, above)))
        (λ (is : leaves j ≡ suc (to_at pieces order j)). is) (marks.each j here),
  )
  | inr past ↦ absurd (omega (arith, marks.none j past, above))
]

-- a span that begins no later than a place and ends behind it holds the piece there
pub holds : (pieces : List Piece) (order : List ℕ) (k j : ℕ) → from_at pieces order j ≤ k → k < to_at pieces order j
    → holds_at pieces order k j ≡ true
holds pieces order k j from to = and_from (nat_le (from_at pieces order j) k) (nat_lt k (to_at pieces order j))
    (le-leb (from_at pieces order j) k from) (lt-ltb k (to_at pieces order j) to)

-- others don't
pub ends-before : (pieces : List Piece) (order : List ℕ) (k j : ℕ) → to_at pieces order j ≤ k → holds_at pieces order k j ≡ false
ends-before pieces order k j to = and_right (nat_le (from_at pieces order j) k) (nat_lt k (to_at pieces order j))
    (le-ltb k (to_at pieces order j) to)

pub begins-behind : (pieces : List Piece) (order : List ℕ) (k j : ℕ) → k < from_at pieces order j → holds_at pieces order k j ≡ false
begins-behind pieces order k j from = and_left (nat_le (from_at pieces order j) k) (nat_lt k (to_at pieces order j))
    (lt-leb (from_at pieces order j) k from)

-- a leaf that is not above the next place, and not 0, is of a span that ends before
pub not-above : (pieces : List Piece) (order : List ℕ) (leaves : ℕ → ℕ) (k j : ℕ) → AreMarks pieces order leaves → j < length order
    → leaves j ≢ 0 → leaves j ≤ k + 1 → holds_at pieces order k j ≡ false
not-above pieces order leaves k j marks here some low = ⊎_elim (λ (none : leaves j ≡ 0). absurd (some none))
    (λ (is : leaves j ≡ suc (to_at pieces order j)). ends-before pieces order k j (omega (arith, is, low))) (marks.each j here)

-- where the first leaf above the next place is of a span that begins behind the place, no span holds it
pub none-behind : (pieces : List Piece) (order : List ℕ) (leaves : ℕ → ℕ) (k first : ℕ) → AreMarks pieces order leaves → IsOrder pieces
    order
    → ((j : ℕ) → j < first → leaves j ≤ k + 1) → k < from_at pieces order first
    → (j : ℕ) → j < length order → leaves j ≢ 0 → holds_at pieces order k j ≡ false
none-behind pieces order leaves k first marks ordered low behind j here some = elim (cases_lt j first) [
  | inl before ↦ not-above pieces order leaves k j marks here some (low j before)
  | inr after ↦ begins-behind pieces order k j (omega (arith, behind, ordered.rising first j after here))
]

-- ---- how many

-- of the references of an order from place j on, so many don't wait and have a span that holds the piece at place k
unfoldable pub resting : List Piece → (ℕ → ℕ) → ℕ → ℕ → List ℕ → ℕ
resting pieces leaves k j [] = 0
resting pieces leaves k j (i ∷ is) = (if nat_lt 0 (leaves j) && is_within pieces i k then 1 else 0) + resting pieces leaves k (suc j) is

both-most : (a b : Bool) → (if a && b then 1 else 0) ≤ (if b then 1 else 0)
both-most true true = omega arith
both-most true false = omega arith
both-most false true = omega arith
both-most false false = omega arith

pub resting-most : (pieces : List Piece) (leaves : ℕ → ℕ) (k j : ℕ) (is : List ℕ)
    → resting pieces leaves k j is ≤ count_by (λ i. is_within pieces i k) is
unfolding resting
resting-most pieces leaves k j [] = omega arith
resting-most pieces leaves k j (i ∷ is) = omega (
  arith,
  both-most (nat_lt 0 (leaves j)) (is_within pieces i k),
  sum_by-cons (λ (n : ℕ). if is_within pieces n k then 1 else 0) i is,
  resting-most pieces leaves k (suc j) is,
)

resting-same : (pieces : List Piece) (old new : ℕ → ℕ) (k j : ℕ) (is : List ℕ) → ((x : ℕ) → j ≤ x → new x ≡ old x)
    → resting pieces new k j is ≡ resting pieces old k j is
unfolding resting
resting-same pieces old new k j [] same = refl
resting-same pieces old new k j (i ∷ is) same = ap₂ (λ a b. (if nat_lt 0 a && is_within pieces i k then 1 else 0) + b)
    (same j (omega arith))
    (resting-same pieces old new k (suc j) is (λ x l. same x (omega (arith, l))))

one-less : (a b : ℕ) (w : Bool) → 0 < b → a ≡ 0 → w ≡ true
    → (if nat_lt 0 a && w then 1 else 0) + 1 ≤ (if nat_lt 0 b && w then 1 else 0)
one-less a b w some none is = rw (none, is, lt-ltb 0 b some) (omega arith)

-- one of them that waits anew is no longer among them
pub resting-less : (pieces : List Piece) (old new : ℕ → ℕ) (k j d at : ℕ) (is : List ℕ) → at ≡ j + d → d < length is → 0 < old at
    → is_within pieces (get_or is d 0) k ≡ true → new at ≡ 0 → ((x : ℕ) → x ≢ at → new x ≡ old x)
    → resting pieces new k j is + 1 ≤ resting pieces old k j is
unfolding resting
resting-less pieces old new k j d at [] is here some held none other = absurd (omega arith)
resting-less pieces old new k j zero at (i ∷ is) e here some held none other =
    let same : at ≡ j = omega (arith, e) in
    omega (
      arith,
      one-less (new j) (old j) (is_within pieces i k) (rw (same) at some) (rw (same) at none) held,
      resting-same pieces old new k (suc j) is (λ x l. other x (λ h. absurd (omega (arith, h, same, l)))),
    )
resting-less pieces old new k j (suc d) at (i ∷ is) e here some held none other =
    let first : new j ≡ old j = other j (λ h. absurd (omega (arith, h, e))) in
    omega (
      arith,
      ap {B = ℕ} (λ a. if nat_lt 0 a && is_within pieces i k then 1 else 0) first,
      resting-less pieces old new k (suc j) d at is (omega (arith, e)) (omega (arith, here)) some held none other,
    )

-- ---- one after the other waits

-- what a few marks leave
pub record IsMarking (pieces : List Piece) (order : List ℕ) (k : ℕ) (old new : ℕ → ℕ) (before after : List ℕ) : Type 0 where
  pub marks : AreMarks pieces order new
  pub each : (j : ℕ) → j < length order → (new j ≡ old j) ⊎ ((new j ≡ 0) × Contains after j)
  pub kept : (j : ℕ) → Contains before j → Contains after j
  pub below : All (λ j. j < length order) before → All (λ j. j < length order) after
  pub count : length after + resting pieces new k 0 order ≤ length before + resting pieces old k 0 order

-- leaves of which one became 0
abbrev pub AreCleared : (ℕ → ℕ) → ℕ → (ℕ → ℕ) → Type 0
AreCleared new j next = (x : ℕ) → next x ≡ (if x == j then 0 else new x)

cleared : (new next : ℕ → ℕ) (j : ℕ) → AreCleared new j next → next j ≡ 0
cleared new next j h = h j ∙ cond-true (j == j) 0 (new j) (eq-eqb j j refl)

others : (new next : ℕ → ℕ) (j : ℕ) → AreCleared new j next → (x : ℕ) → x ≢ j → next x ≡ new x
others new next j h x other = h x ∙ cond-false (x == j) 0 (new x) (ne_eqb x j other)

pub marking-none : (pieces : List Piece) (order : List ℕ) (k : ℕ) (old : ℕ → ℕ) (before : List ℕ) → AreMarks pieces order old
    → IsMarking pieces order k old old before before
marking-none pieces order k old before marks = record {
  marks = marks;
  each = λ j here. inl refl;
  kept = λ j h. h;
  below = λ h. h;
  count = omega arith;
}

module _ (pieces : List Piece) (order : List ℕ) (k : ℕ) (old new next : ℕ → ℕ) (before after : List ℕ) (j : ℕ)
    (so : IsMarking pieces order k old new before after) (here : j < length order) (some : 0 < new j)
    (held : holds_at pieces order k j ≡ true) (clear : AreCleared new j next) where
  pub marks-less : AreMarks pieces order next
  marks-less = record {
    each = λ x l. elim (cases_eq x j) [
      | inl same ↦ inl (ap next same ∙ cleared new next j clear)
      | inr other ↦ ⊎_elim (λ (z : new x ≡ 0). inl (others new next j clear x other ∙ z))
          (λ (e : new x ≡ suc (to_at pieces order x)). inr (others new next j clear x other ∙ e)) (so.marks.each x l)
    ];
    none = λ x past. elim (cases_eq x j) [
      | inl same ↦ ap next same ∙ cleared new next j clear
      | inr other ↦ others new next j clear x other ∙ so.marks.none x past
    ];
  }

  pub less-rest : resting pieces next k 0 order + 1 ≤ resting pieces new k 0 order
  less-rest = resting-less pieces new next k 0 j j order (omega arith) here some held (cleared new next j clear) (others new next j clear)

  pub fewer : resting pieces next k 0 order < resting pieces new k 0 order
  fewer = omega (arith, less-rest)

  pub marking-more : IsMarking pieces order k old next before (after ++ j ∷ [])
  marking-more = record {
    marks = marks-less;
    each = λ x l. elim (cases_eq x j) [
      | inl same ↦ inr (ap next same ∙ cleared new next j clear, rw (same) (Contains-push after j))
      | inr other ↦ ⊎_elim (λ (e : new x ≡ old x). inl (others new next j clear x other ∙ e))
          (λ (w : (new x ≡ 0) × Contains after x). inr (others new next j clear x other ∙ w.0, Contains-append_left after (j ∷ []) x w.1))
          (so.each x l)
    ];
    kept = λ x h. Contains-append_left after (j ∷ []) x (so.kept x h);
    below = λ h. All-push (λ x. x < length order) after j (so.below h) here;
    count = omega (arith, so.count, less-rest, length-append after (j ∷ []));
  }

module _ (pieces : List Piece) (order : List ℕ) (k : ℕ) (old new : ℕ → ℕ) (before after : List ℕ)
    (so : IsMarking pieces order k old new before after) where
  pub count-most : length after ≤ length before + count_by (λ i. is_within pieces i k) order
  count-most = omega (arith, so.count, resting-most pieces old k 0 order)

  pub marked : ((j : ℕ) → j < length order → new j ≢ 0 → holds_at pieces order k j ≡ false)
      → IsMarked pieces order k old new before after
  marked none = record {
    left = λ j here some. (
      ⊎_elim (λ (e : new j ≡ old j). e) (λ (w : (new j ≡ 0) × Contains after j). absurd (some w.0)) (so.each j here),
      none j here some,
    );
    gone = λ j here zero. ⊎_elim (λ (e : new j ≡ old j). inl (sym e ∙ zero)) (λ (w : (new j ≡ 0) × Contains after j). inr w.1)
        (so.each j here);
    kept = so.kept;
    below = so.below;
  }
