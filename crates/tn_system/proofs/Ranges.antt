-- Lists that are made by places.
use Rattle.std.proofs.Common.{◌≡◌, ℕ, suc, ◌+◌, ◌<◌, List, [], ◌∷◌, ◌++◌, length, get_or, map, refl, sym, ap, ◌∙◌, subst, arith}
use Rattle.std.specs.Prelude.{All}
use Rattle.std.specs.List.{flat_map, range_with_len}
use Rattle.std.proofs.lemmas.List.{map-append}
use Rattle.std.proofs.lemmas.List.Concat.{flat_map-cons}
use Rattle.std.proofs.lemmas.List.Elements.{All-from_get_or}
use Rattle.std.proofs.lemmas.List.FromFn.{length-range_with_len, get_or-range_with_len}

pub map-map : {X Y Z : Type 0} (f : Y → Z) (g : X → Y) (xs : List X) → map f (map g xs) ≡ map (λ x. f (g x)) xs
map-map f g [] = refl
map-map f g (x ∷ xs) = ap (λ l. f (g x) ∷ l) (map-map f g xs)

pub map-flat_map : {X Y Z : Type 0} (f : Y → Z) (g : X → List Y) (xs : List X)
    → map f (flat_map g xs) ≡ flat_map (λ x. map f (g x)) xs
map-flat_map f g [] = refl
map-flat_map f g (x ∷ xs) =
    ap (map f) (flat_map-cons g x xs) ∙ map-append f (g x) (flat_map g xs) ∙ ap (λ l. map f (g x) ++ l) (map-flat_map f g xs)
    ∙ sym (flat_map-cons (λ x. map f (g x)) x xs)

-- what places give is what the elements at them give
pub by-place : {X Y : Type 0} (f : ℕ → Y) (g : X → Y) (xs : List X) (d : X) (a : ℕ)
    → ((k : ℕ) → k < length xs → f (a + k) ≡ g (get_or xs k d)) → map f (range_with_len a (length xs)) ≡ map g xs
by-place f g [] d a h = refl
by-place f g (x ∷ xs) d a h =
    let start : a ≡ a + 0 = omega arith in
    let first : f a ≡ g x = ap f start ∙ h 0 (omega arith) in
    let rest : map f (range_with_len (a + 1) (length xs)) ≡ map g xs = by-place f g xs d (a + 1)
    (λ k l. (let next : a + 1 + k ≡ a + suc k = omega arith in ap f next ∙ h (suc k) (omega (arith, l)))) in
    λ j. first j ∷ rest j

pub join-by-place : {X Y : Type 0} (f : ℕ → List Y) (g : X → List Y) (xs : List X) (d : X) (a : ℕ)
    → ((k : ℕ) → k < length xs → f (a + k) ≡ g (get_or xs k d)) → flat_map f (range_with_len a (length xs)) ≡ flat_map g xs
join-by-place f g [] d a h = refl
join-by-place f g (x ∷ xs) d a h =
    let start : a ≡ a + 0 = omega arith in
    let first : f a ≡ g x = ap f start ∙ h 0 (omega arith) in
    let rest : flat_map f (range_with_len (a + 1) (length xs)) ≡ flat_map g xs = join-by-place f g xs d (a + 1)
    (λ k l. (let next : a + 1 + k ≡ a + suc k = omega arith in ap f next ∙ h (suc k) (omega (arith, l)))) in
    flat_map-cons f a (range_with_len (a + 1) (length xs)) ∙ (λ j. first j ++ rest j) ∙ sym (flat_map-cons g x xs)

-- what holds of all numbers below n
pub all-below : (P : ℕ → Type 0) (n : ℕ) → ((k : ℕ) → k < n → P k) → All P (range_with_len 0 n)
all-below P n h =
    All-from_get_or P (range_with_len 0 n) 0
    (λ i l. let below : i < n = omega (arith, l, length-range_with_len 0 n) in
    let is : i ≡ get_or (range_with_len 0 n) i 0 = omega (arith, get_or-range_with_len 0 n i 0 below) in subst P is (h i below))
