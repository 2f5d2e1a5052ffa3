-- The references among pieces, and sums over them.
use Rattle.std.proofs.Common.{
  ◌≡◌,
  ℕ,
  zero,
  suc,
  ◌+◌,
  ◌*◌,
  ◌%◌,
  ◌^◌,
  ◌<◌,
  ◌≤◌,
  true,
  false,
  List,
  [],
  ◌∷◌,
  ◌++◌,
  map,
  drop,
  All,
  append_assoc,
  append-nil,
}
use Rattle.std.proofs.Common.{length, get_or, refl, sym, ap, ap₂, ◌∙◌, subst, arith}
use Rattle.std.specs.List.Sorted.{IsPermutation, IsSorted}
use Rattle.std.specs.Ordering.{nat_cmp}
use Rattle.std.proofs.lemmas.Bool.{true≢false, false≢true}
use Rattle.std.proofs.lemmas.List.Elements.{All-cons, All-head, All-tail, All-map, All-weaker}
use Rattle.std.proofs.lemmas.List.Sorted.{All-permutation, IsPermutation-map, IsNonDecreasingBy-from_sort}
use Rattle.std.proofs.lemmas.List.{get_or-map, length-map}
use Rattle.tn_text.specs.declared.limits.TheConstants.{ITEM_LIMIT}
use Rattle.tn_layout.specs.declared.pieces.Piece.{Piece}
use Rattle.tn_layout.specs.declared.pieces.Piece.TheVariants.{Fixed, Rel, Diff}
use Rattle.tn_layout.specs.Sizes.{piece_at}
use Rattle.tn_layout.specs.Spans.{span_from, references_from, references}
use Rattle.tn_layout.specs.Inner.Orders.{is_reference, IsPlace, sort_key, from_at, IsOrder}

-- ---- which places they are

-- a place of a reference among pieces from place k on
abbrev IsPlaceFrom : ℕ → List Piece → ℕ → Type 0
IsPlaceFrom k pieces i = (d : ℕ) × (i ≡ k + d) × IsPlace pieces d

past : (k i : ℕ) (p : Piece) (pieces : List Piece) → IsPlaceFrom (suc k) pieces i → IsPlaceFrom k (p ∷ pieces) i
past k i p pieces h = (suc h.0, omega (arith, h.1), (omega (arith, h.2.0), h.2.1))

all-past : (k : ℕ) (p : Piece) (pieces : List Piece) (xs : List ℕ) → All (λ i. IsPlaceFrom (suc k) pieces i) xs
    → All (λ i. IsPlaceFrom k (p ∷ pieces) i) xs
all-past k p pieces xs a = All-weaker (λ i. IsPlaceFrom (suc k) pieces i) (λ i. IsPlaceFrom k (p ∷ pieces) i)
    (λ i h. past k i p pieces h) xs a

places-from : (k : ℕ) (pieces : List Piece) → All (λ i. IsPlaceFrom k pieces i) (references_from k pieces)
unfolding references_from
places-from k [] = λ j d h. absurd (omega arith)
places-from k (Fixed size ∷ pieces) = all-past k (Fixed size) pieces (references_from (suc k) pieces) (places-from (suc k) pieces)
places-from k (Rel to ∷ pieces) = All-cons (λ i. IsPlaceFrom k (Rel to ∷ pieces) i) k (references_from (suc k) pieces)
    (0, omega arith, (omega arith, refl)) (all-past k (Rel to) pieces (references_from (suc k) pieces) (places-from (suc k) pieces))
places-from k (Diff high low ∷ pieces) = All-cons (λ i. IsPlaceFrom k (Diff high low ∷ pieces) i) k (references_from (suc k) pieces)
    (0, omega arith, (omega arith, refl)) (all-past k (Diff high low) pieces (references_from (suc k) pieces) (places-from (suc k) pieces))

-- each is a place of a reference
pub places : (pieces : List Piece) → All (λ i. IsPlace pieces i) (references pieces)
places pieces = All-weaker (λ i. IsPlaceFrom 0 pieces i) (λ i. IsPlace pieces i) (λ i h.
    let same : i ≡ h.0 = omega (arith, h.1) in rw (same) h.2) (references pieces) (places-from 0 pieces)

-- ---- one after the other

drop-next : (pieces : List Piece) (i : ℕ) → i < length pieces → drop i pieces ≡ piece_at pieces i ∷ drop (suc i) pieces
drop-next [] i h = absurd (omega arith)
drop-next (p ∷ pieces) zero h = refl
drop-next (p ∷ pieces) (suc i) h = drop-next pieces i (omega arith)

-- the references from a place on, where the piece there is none, and where it is one
pub no-reference-next : (pieces : List Piece) (i : ℕ) → i < length pieces → is_reference (piece_at pieces i) ≡ false
    → references_from i (drop i pieces) ≡ references_from (suc i) (drop (suc i) pieces)
unfolding references_from
no-reference-next pieces i here is = ap (λ ps. references_from i ps) (drop-next pieces i here) ∙ by (piece_at pieces i) is
  where
    by : (p : Piece) → is_reference p ≡ false → references_from i (p ∷ drop (suc i) pieces) ≡ references_from (suc i) (drop (suc i) pieces)
    by (Fixed size) is = refl
    by (Rel to) is = absurd (true≢false is)
    by (Diff high low) is = absurd (true≢false is)

pub reference-next : (pieces : List Piece) (i : ℕ) → i < length pieces → is_reference (piece_at pieces i) ≡ true
    → references_from i (drop i pieces) ≡ i ∷ references_from (suc i) (drop (suc i) pieces)
unfolding references_from
reference-next pieces i here is = ap (λ ps. references_from i ps) (drop-next pieces i here) ∙ by (piece_at pieces i) is
  where
    by : (p : Piece) → is_reference p ≡ true → references_from i (p ∷ drop (suc i) pieces) ≡ i ∷ references_from (suc i)
        (drop (suc i) pieces)
    by (Fixed size) is = absurd (false≢true is)
    by (Rel to) is = refl
    by (Diff high low) is = refl

-- none are past the last piece
pub none-past : (pieces : List Piece) (k i : ℕ) → length pieces ≤ i → references_from k (drop i pieces) ≡ []
unfolding references_from
none-past [] k zero h = refl
none-past [] k (suc i) h = refl
none-past (p ∷ pieces) k zero h = absurd (omega arith)
none-past (p ∷ pieces) k (suc i) h = none-past pieces k i (omega arith)

-- numbers of the references so far, and of those to come
abbrev AreKeys : List Piece → List ℕ → ℕ → Type 0
AreKeys pieces keys i = keys ++ map (λ i. sort_key pieces i) (references_from i (drop i pieces)) ≡ map (λ i. sort_key pieces i)
    (references pieces)

pub keys-same : (pieces : List Piece) (keys : List ℕ) (i : ℕ) → i < length pieces → is_reference (piece_at pieces i) ≡ false
    → AreKeys pieces keys i → AreKeys pieces keys (i + 1)
keys-same pieces keys i here is are =
    let next : i + 1 ≡ suc i = omega arith in
    rw (next) (ap (λ is. keys ++ map (λ i. sort_key pieces i) is) (sym (no-reference-next pieces i here is)) ∙ are)

pub keys-more : (pieces : List Piece) (keys : List ℕ) (i : ℕ) → i < length pieces → is_reference (piece_at pieces i) ≡ true
    → AreKeys pieces keys i → AreKeys pieces (keys ++ sort_key pieces i ∷ []) (i + 1)
keys-more pieces keys i here is are =
    let next : i + 1 ≡ suc i = omega arith in
    rw (next) (append_assoc keys (sort_key pieces i ∷ []) (map (λ i. sort_key pieces i) (references_from (suc i) (drop (suc i) pieces)))
    ∙ ap (λ is. keys ++ map (λ i. sort_key pieces i) is) (sym (reference-next pieces i here is)) ∙ are)

pub keys-all : (pieces : List Piece) (keys : List ℕ) (i : ℕ) → length pieces ≤ i → AreKeys pieces keys i
    → keys ≡ map (λ i. sort_key pieces i) (references pieces)
keys-all pieces keys i end are =
    sym (append-nil keys) ∙ ap (λ is. keys ++ map (λ i. sort_key pieces i) is) (sym (none-past pieces i i end)) ∙ are

-- ---- in order

module _ (pieces : List Piece) (short : length pieces ≤ ITEM_LIMIT) where
  -- the place in a key
  place-back : (i : ℕ) → IsPlace pieces i → sort_key pieces i % 2 ^ 32 ≡ i
  place-back i h = omega (arith, h.0, short)

  places-back : (xs : List ℕ) → All (λ i. IsPlace pieces i) xs → map (λ key. key % 2 ^ 32) (map (λ i. sort_key pieces i) xs) ≡ xs
  places-back [] all = refl
  places-back (x ∷ xs) all = ap₂ (λ y ys. y ∷ ys) (place-back x (All-head (λ i. IsPlace pieces i) x xs all))
      (places-back xs (All-tail (λ i. IsPlace pieces i) x xs all))

  -- a key is the one of its place
  abbrev IsKey : ℕ → Type 0
  IsKey key = sort_key pieces (key % 2 ^ 32) ≡ key

  are-keys : All (λ key. IsKey key) (map (λ i. sort_key pieces i) (references pieces))
  are-keys = All-map (λ key. IsKey key) (λ i. sort_key pieces i) (references pieces)
      (All-weaker (λ i. IsPlace pieces i) (λ i. IsKey (sort_key pieces i)) (λ i h. ap (λ n. sort_key pieces n) (place-back i h))
      (references pieces) (places pieces))

  module _ (keys sorted order : List ℕ) (are : keys ≡ map (λ i. sort_key pieces i) (references pieces))
      (moved : IsPermutation keys sorted) (up : IsSorted nat_cmp sorted) (made : order ≡ map (λ key. key % 2 ^ 32) sorted) where
    from-sorted : IsPermutation (references pieces) order
    from-sorted =
        let back : map (λ key. key % 2 ^ 32) keys ≡ references pieces = ap (λ ks. map (λ key. key % 2 ^ 32) ks) are
        ∙ places-back (references pieces) (places pieces) in
        subst (λ xs. IsPermutation xs order) back
        (subst (λ ys. IsPermutation (map (λ key. key % 2 ^ 32) keys) ys) (sym made)
        (IsPermutation-map (λ key. key % 2 ^ 32) keys sorted moved))

    sorted-keys : All (λ key. IsKey key) sorted
    sorted-keys = All-permutation (λ key. IsKey key) keys sorted moved (subst (λ ks. All (λ key. IsKey key) ks) (sym are) are-keys)

    key-at : (j : ℕ) → j < length sorted → from_at pieces order j * 2 ^ 32 + get_or sorted j 0 % 2 ^ 32 ≡ get_or sorted j 0
    key-at j here =
        let place : get_or order j 0 ≡ get_or sorted j 0 % 2 ^ 32 = ap (λ xs. get_or xs j 0) made
        ∙ get_or-map (λ key. key % 2 ^ 32) sorted j 0 0 here in
        ap (λ i. span_from i (piece_at pieces i) * 2 ^ 32 + get_or sorted j 0 % 2 ^ 32) place ∙ sorted-keys j 0 here

    long : length order ≡ length sorted
    long = ap length made ∙ length-map sorted (λ key. key % 2 ^ 32)

    pub ordered : IsOrder pieces order
    ordered = record {
      same = from-sorted;
      places = All-permutation (λ i. IsPlace pieces i) (references pieces) order from-sorted (places pieces);
      rising = λ j k before here. omega (
        arith,
        key-at j (omega (arith, before, here, long)),
        key-at k (omega (arith, here, long)),
        IsNonDecreasingBy-from_sort (λ x. x) sorted up j k 0 before (omega (arith, here, long)),
      );
    }
