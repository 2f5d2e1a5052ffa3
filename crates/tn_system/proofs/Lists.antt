-- Lists, and what holds of each of their elements.
use Rattle.std.proofs.Common.{◌≡◌, ℕ, suc, ◌+◌, ◌*◌, ◌<◌, ◌≤◌, Bool, true, false, not, ◌||◌}
use Rattle.std.proofs.Common.{cond, List, [], ◌∷◌, ◌++◌, length, map, refl, sym, ap, ◌∙◌, subst, arith}
use Rattle.std.specs.Prelude.{All}
use Rattle.std.specs.List.{flat_map, list_any, position_or_len}
use Rattle.std.proofs.lemmas.List.Elements.{All-cons, All-nil, All-head, All-tail}
use Rattle.std.proofs.lemmas.List.{length-append}
use Rattle.std.proofs.lemmas.List.Concat.{flat_map-cons}

pub all_left : {X : Type 0} (P : X → Type 0) (xs ys : List X) → All P (xs ++ ys) → All P xs
all_left P [] ys h = All-nil P
all_left P (x ∷ xs) ys h = All-cons P x xs (All-head P x (xs ++ ys) h) (all_left P xs ys (All-tail P x (xs ++ ys) h))

pub all_right : {X : Type 0} (P : X → Type 0) (xs ys : List X) → All P (xs ++ ys) → All P ys
all_right P [] ys h = h
all_right P (x ∷ xs) ys h = all_right P xs ys (All-tail P x (xs ++ ys) h)

-- what holds of all elements of the lists that elements give
pub all_parts : {X A : Type 0} (P : A → Type 0) (f : X → List A) (xs : List X) → All P (flat_map f xs) → All (λ x. All P (f x)) xs
all_parts P f [] h = All-nil (λ x. All P (f x))
all_parts P f (x ∷ xs) h =
    let both : All P (f x ++ flat_map f xs) = subst (All P) (flat_map-cons f x xs) h in
    All-cons (λ x. All P (f x)) x xs (all_left P (f x) (flat_map f xs) both)
    (all_parts P f xs (all_right P (f x) (flat_map f xs) both))

-- functions that agree on all elements
pub map_same : {X Y : Type 0} (f g : X → Y) (xs : List X) → All (λ x. f x ≡ g x) xs → map f xs ≡ map g xs
map_same f g [] h = refl
map_same f g (x ∷ xs) h =
    let first : f x ≡ g x = All-head (λ x. f x ≡ g x) x xs h in
    let rest : map f xs ≡ map g xs = map_same f g xs (All-tail (λ x. f x ≡ g x) x xs h) in
    λ j. first j ∷ rest j

-- where an element passes, the first that does has a place; else none has
pub place-below : {X : Type 0} (p : X → Bool) (xs : List X) → list_any p xs ≡ true → position_or_len p xs < length xs
place-below p [] h = absurd cc
place-below p (x ∷ xs) h = by (λ g. place-below p xs g) (p x) refl
  where
    by : (list_any p xs ≡ true → position_or_len p xs < length xs) → (b : Bool) → p x ≡ b → position_or_len p (x ∷ xs) < suc (length xs)
    by later true e =
        subst (λ b. cond (not b) (1 + position_or_len p xs) 0 < suc (length xs)) (sym e) (omega arith)
    by later false e =
        let rest : position_or_len p xs < length xs = later (sym (ap (λ b. b || list_any p xs) e) ∙ h) in
        subst (λ b. cond (not b) (1 + position_or_len p xs) 0 < suc (length xs)) (sym e) (omega (arith, rest))

pub place-none : {X : Type 0} (p : X → Bool) (xs : List X) → list_any p xs ≡ false → position_or_len p xs ≡ length xs
place-none p [] h = refl
place-none p (x ∷ xs) h = by (λ g. place-none p xs g) (p x) refl
  where
    by : (list_any p xs ≡ false → position_or_len p xs ≡ length xs) → (b : Bool) → p x ≡ b → position_or_len p (x ∷ xs) ≡ suc (length xs)
    by later true e = absurd (let is : true ≡ false = sym (ap (λ b. b || list_any p xs) e) ∙ h in cc)
    by later false e =
        let rest : position_or_len p xs ≡ length xs = later (sym (ap (λ b. b || list_any p xs) e) ∙ h) in
        ap (λ b. cond (not b) (1 + position_or_len p xs) 0) e ∙ omega (arith, rest)

-- what holds of what a function gives
pub all_mapped : {X Y : Type 0} (P : Y → Type 0) (f : X → Y) (xs : List X) → All P (map f xs) → All (λ x. P (f x)) xs
all_mapped P f [] h = All-nil (λ x. P (f x))
all_mapped P f (x ∷ xs) h =
    All-cons (λ x. P (f x)) x xs (All-head P (f x) (map f xs) h) (all_mapped P f xs (All-tail P (f x) (map f xs) h))

-- lists of at most so many elements each
pub length-joined : {X A : Type 0} (f : X → List A) (most : ℕ) (xs : List X) → All (λ x. length (f x) ≤ most) xs
    → length (flat_map f xs) ≤ most * length xs
length-joined f most [] h = omega arith
length-joined f most (x ∷ xs) h =
    let first : length (f x) ≤ most = All-head (λ x. length (f x) ≤ most) x xs h in
    let rest : length (flat_map f xs) ≤ most * length xs = length-joined f most xs (All-tail (λ x. length (f x) ≤ most) x xs h) in
    omega (arith, ap length (flat_map-cons f x xs), length-append (f x) (flat_map f xs), first, rest)
