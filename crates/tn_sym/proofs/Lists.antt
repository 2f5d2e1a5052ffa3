-- Elements at places of lists.
use Rattle.std.proofs.Common.{◌≡◌, ℕ, zero, suc, ◌+◌, ◌<◌, List, [], ◌∷◌, ◌++◌, length, map, take, drop, Some}
use Rattle.std.proofs.Common.{refl, sym, ap, subst, ◌∙◌, arith}
use Rattle.std.specs.Prelude.{slice_get, slice_index_or, All}
use Rattle.std.specs.List.{flat_map}
use Rattle.std.proofs.lemmas.List.{take_more, drop_more, map-append, append-nil}
use Rattle.std.proofs.lemmas.Option.{same_Some}
use Rattle.std.proofs.lemmas.List.Concat.{flat_map-append}
use Rattle.std.proofs.lemmas.List.Elements.{All-head, All-tail, All-nil, All-cons, All-append}

-- each place of a list has an element
pub there : {X : Type 0} (xs : List X) (p : ℕ) → p < length xs → (x : X) × (slice_get xs p ≡ Some x)
there [] p h = absurd (omega arith)
there (x ∷ xs) zero h = (x, refl)
there (x ∷ xs) (suc p) h = there xs p (omega arith)

-- of each element what holds of all
pub all-at : {X : Type 0} (P : X → Type 0) (xs : List X) (p : ℕ) (x : X) → All P xs → slice_get xs p ≡ Some x → P x
all-at P [] p x all is = cc
all-at P (y ∷ xs) zero x all is = let same : y ≡ x = cc in rw (← same) (All-head P y xs all)
all-at P (y ∷ xs) (suc p) x all is = all-at P xs p x (All-tail P y xs all) is

-- ---- one element more

pub take-read : {X : Type 0} (xs : List X) (i : ℕ) (x : X) → i < length xs → x ≡ slice_index_or xs i x
    → take (i + 1) xs ≡ take i xs ++ x ∷ []
take-read {X} xs i x within read = take_more xs i x within ∙ ap (λ (y : X). take i xs ++ y ∷ []) (sym read)

pub drop-read : {X : Type 0} (xs : List X) (i : ℕ) (x : X) → i < length xs → x ≡ slice_index_or xs i x
    → drop i xs ≡ x ∷ drop (i + 1) xs
drop-read {X} xs i x within read = drop_more xs i x within ∙ ap (λ (y : X). y ∷ drop (i + 1) xs) (sym read)

pub map-read : {X Y : Type 0} (f : X → Y) (xs : List X) (i : ℕ) (x : X) → i < length xs → x ≡ slice_index_or xs i x
    → map f (take (i + 1) xs) ≡ map f (take i xs) ++ f x ∷ []
map-read f xs i x within read = ap (map f) (take-read xs i x within read) ∙ map-append f (take i xs) (x ∷ [])

pub flat-read : {X Y : Type 0} (f : X → List Y) (xs : List X) (i : ℕ) (x : X) → i < length xs → x ≡ slice_index_or xs i x
    → flat_map f (take (i + 1) xs) ≡ flat_map f (take i xs) ++ f x
flat-read {X} {Y} f xs i x within read =
    ap (flat_map f) (take-read xs i x within read) ∙ (flat_map-append f (take i xs) (x ∷ [])
    ∙ ap (λ (ys : List Y). flat_map f (take i xs) ++ ys) (append-nil (f x)))

pub all-read : {X : Type 0} (P : X → Type 0) (xs : List X) (i : ℕ) (x : X) → i < length xs → x ≡ slice_index_or xs i x → P x
    → All P (take i xs) → All P (take (i + 1) xs)
all-read {X} P xs i x within read here before =
    subst (All P) (sym (take-read xs i x within read)) (All-append P (take i xs) (x ∷ []) before (All-cons P x [] here (All-nil P)))

-- two lists with one element more each, which are beside each other
pub each-more : {A B : Type 0} (R : A → B → Type 0) (xs : List A) (ys : List B) (x : A) (y : B) → length ys ≡ length xs
    → ((q : ℕ) (a : A) (b : B) → slice_get xs q ≡ Some a → slice_get ys q ≡ Some b → R a b) → R x y
    → (q : ℕ) (a : A) (b : B) → slice_get (xs ++ x ∷ []) q ≡ Some a → slice_get (ys ++ y ∷ []) q ≡ Some b → R a b
each-more {A} {B} R [] [] x y long each here zero a b is at =
    subst (λ (c : A). R c b) (same_Some x a is) (subst (λ (c : B). R x c) (same_Some y b at) here)
each-more R [] [] x y long each here (suc q) a b is at = cc
each-more R [] (v ∷ ys) x y long each here q a b is at = cc
each-more R (u ∷ xs) [] x y long each here q a b is at = cc
each-more R (u ∷ xs) (v ∷ ys) x y long each here zero a b is at = each 0 a b is at
each-more R (u ∷ xs) (v ∷ ys) x y long each here (suc q) a b is at =
    each-more R xs ys x y (omega (arith, long)) (λ r c d. each (suc r) c d) here q a b is at
