-- Lists that are joined from what places give, one place after the other.
use Rattle.std.proofs.Common.{◌≡◌, ℕ, ◌+◌, ◌<◌, ◌≤◌, List, [], ◌∷◌, ◌++◌, length, get_or, take, map, sym, ap, ◌∙◌, subst, arith, refl}
use Rattle.std.proofs.Common.{append_assoc}
use Rattle.std.specs.Prelude.{All}
use Rattle.std.specs.List.{flat_map, range_with_len}
use Rattle.std.proofs.lemmas.List.{append-nil}
use Rattle.std.proofs.lemmas.List.Concat.{flat_map-append, get_or-flat_map}
use Rattle.std.proofs.lemmas.List.FromFn.{map-range_with_len_more, take-map-range_with_len, get_or-range_with_len, length-range_with_len}
use Rattle.std.proofs.lemmas.List.Elements.{All-from_get_or, All-nil, All-append, All-head, All-tail, All-get_or}

mapped : (xs : List ℕ) → map (λ (k : ℕ). k) xs ≡ xs
mapped [] = refl
mapped (x ∷ xs) = ap (λ l. x ∷ l) (mapped xs)

-- one number more
range-more : (n : ℕ) → range_with_len 0 (n + 1) ≡ range_with_len 0 n ++ n ∷ []
range-more n = sym (mapped (range_with_len 0 (n + 1))) ∙ map-range_with_len_more (λ (k : ℕ). k) 0 n n (omega arith)
    ∙ ap (λ l. l ++ n ∷ []) (mapped (range_with_len 0 n))

-- the first numbers
range-take : (m n : ℕ) → m ≤ n → take m (range_with_len 0 n) ≡ range_with_len 0 m
range-take m n h = ap (take m) (sym (mapped (range_with_len 0 n))) ∙ take-map-range_with_len (λ (k : ℕ). k) 0 n m h ∙ mapped
    (range_with_len 0 m)

module _ {A : Type 0} (f : ℕ → List A) where
  pub joined-more : (n : ℕ) → flat_map f (range_with_len 0 (n + 1)) ≡ flat_map f (range_with_len 0 n) ++ f n
  joined-more n =
      ap (flat_map f) (range-more n) ∙ flat_map-append f (range_with_len 0 n) (n ∷ [])
      ∙ ap (λ l. flat_map f (range_with_len 0 n) ++ l) (append-nil (f n))

  -- a list that grew by what place n gives
  pub joined-grown : (n : ℕ) (now new : List A) → now ≡ flat_map f (range_with_len 0 n) → new ≡ now ++ f n
      → new ≡ flat_map f (range_with_len 0 (n + 1))
  joined-grown n now new a b = b ∙ ap (λ l. l ++ f n) a ∙ sym (joined-more n)

  -- the same behind a list
  pub behind-grown : (before : List A) (n : ℕ) (now new : List A) → now ≡ before ++ flat_map f (range_with_len 0 n) → new ≡ now ++ f n
      → new ≡ before ++ flat_map f (range_with_len 0 (n + 1))
  behind-grown before n now new a b =
      b ∙ ap (λ l. l ++ f n) a ∙ append_assoc before (flat_map f (range_with_len 0 n)) (f n) ∙ ap (λ l. before ++ l) (sym (joined-more n))

  -- an element of what place m gives stands behind those that the places before give
  pub joined-read : (n m j : ℕ) (d : A) → m < n → j < length (f m)
      → get_or (flat_map f (range_with_len 0 n)) (length (flat_map f (range_with_len 0 m)) + j) d ≡ get_or (f m) j d
  joined-read n m j d here within =
      let is : get_or (range_with_len 0 n) m 0 ≡ m = get_or-range_with_len 0 n m 0 here ∙ omega arith in
      ap (λ l. get_or (flat_map f (range_with_len 0 n)) (length (flat_map f l) + j) d) (sym (range-take m n (omega arith)))
      ∙ get_or-flat_map f (range_with_len 0 n) m j 0 d (omega (arith, length-range_with_len 0 n)) (omega (
        arith,
        within,
        ap (λ k. length
            (f k)) is,
      ))
      ∙ ap (λ k. get_or (f k) j d) is

  -- what holds of each element
  pub all-joined : (P : A → Type 0) (n : ℕ) → ((k : ℕ) → k < n → All P (f k)) → All P (flat_map f (range_with_len 0 n))
  all-joined P n h = go (range_with_len 0 n) (All-from_get_or (λ k. All P (f k)) (range_with_len 0 n) 0
      (λ i l. let below : i < n = omega (arith, l, length-range_with_len 0 n) in
      let is : i ≡ get_or (range_with_len 0 n) i 0 = omega (arith, get_or-range_with_len 0 n i 0 below) in subst (λ k. All P (f k)) is
      (h i below)))
    where
      go : (ks : List ℕ) → All (λ k. All P (f k)) ks → All P (flat_map f ks)
      go [] h = All-nil P
      go (k ∷ ks) h = All-append P (f k) (flat_map f ks) (All-head (λ k. All P (f k)) k ks h) (go ks (All-tail (λ k. All P (f k)) k ks h))

-- one element more of a map over numbers, behind a list
pub mapped-grown : {A : Type 0} (f : ℕ → A) (before : List A) (n : ℕ) (now new : List A) → now ≡ before ++ map f (range_with_len 0 n)
    → new ≡ now ++ f n ∷ [] → new ≡ before ++ map f (range_with_len 0 (n + 1))
mapped-grown f before n now new a b =
    b ∙ ap (λ l. l ++ f n ∷ []) a ∙ append_assoc before (map f (range_with_len 0 n)) (f n ∷ [])
    ∙ ap (λ l. before ++ l) (sym (map-range_with_len_more f 0 n n (omega arith)))

-- lists that begin empty
pub behind-none : {A : Type 0} (none now more : List A) → none ≡ [] → now ≡ none ++ more → now ≡ more
behind-none none now more e h = h ∙ ap (λ l. l ++ more) e

-- what holds of all elements holds of one that was read
pub read-all : {X : Type 0} (P : X → Type 0) (xs : List X) (i : ℕ) (x : X) → i < length xs → x ≡ get_or xs i x → All P xs → P x
read-all P xs i x h is all = subst P (sym is) (All-get_or P xs i x h all)
