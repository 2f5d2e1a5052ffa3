-- What holds of each element of a list, of a list behind another, and of each list that elements give.
use Rattle.std.proofs.Common.{◌≡◌, ℕ, zero, suc, List, [], ◌∷◌, ◌++◌, Some, refl, subst}
use Rattle.std.specs.Prelude.{slice_get}
use Rattle.std.specs.List.{AllByRecursion, flat_map}
use Rattle.std.proofs.lemmas.Option.{same_Some, none-some}

module _ {A : Type 0} (P : A → Type 0) where
  pub rec-append : (xs ys : List A) → AllByRecursion P xs → AllByRecursion P ys → AllByRecursion P (xs ++ ys)
  rec-append [] ys a b = b
  rec-append (x ∷ xs) ys a b = (a.0, rec-append xs ys a.1 b)

  pub rec-split : (xs ys : List A) → AllByRecursion P (xs ++ ys) → AllByRecursion P xs × AllByRecursion P ys
  rec-split [] ys h = (tt, h)
  rec-split (x ∷ xs) ys h = let r = rec-split xs ys h.1 in ((h.0, r.0), r.1)

  pub rec-from : (xs : List A) → ((i : ℕ) (x : A) → slice_get xs i ≡ Some x → P x) → AllByRecursion P xs
  rec-from [] h = tt
  rec-from (x ∷ xs) h = (h 0 x refl, rec-from xs (λ i y e. h (suc i) y e))

  pub rec-at : (xs : List A) → AllByRecursion P xs → (i : ℕ) (x : A) → slice_get xs i ≡ Some x → P x
  rec-at [] r i x e = absurd (none-some x e)
  rec-at (y ∷ xs) r zero x e = subst P (same_Some y x e) r.0
  rec-at (y ∷ xs) r (suc i) x e = rec-at xs r.1 i x e

  module _ {X : Type 0} (f : X → List A) where
    pub rec-flat : (xs : List X) → ((i : ℕ) (x : X) → slice_get xs i ≡ Some x → AllByRecursion P (f x)) → AllByRecursion P (flat_map f xs)
    rec-flat [] h = tt
    rec-flat (x ∷ xs) h = rec-append (f x) (flat_map f xs) (h 0 x refl) (rec-flat xs (λ i y e. h (suc i) y e))

    pub rec-at_flat : (xs : List X) → AllByRecursion P (flat_map f xs) → (i : ℕ) (x : X) → slice_get xs i ≡ Some x → AllByRecursion P (f x)
    rec-at_flat [] r i x e = absurd (none-some x e)
    rec-at_flat (y ∷ xs) r zero x e = subst (λ z. AllByRecursion P (f z)) (same_Some y x e) (rec-split (f y) (flat_map f xs) r).0
    rec-at_flat (y ∷ xs) r (suc i) x e = rec-at_flat xs (rec-split (f y) (flat_map f xs) r).1 i x e

pub rec-map : {A : Type 0} (P Q : A → Type 0) → ((x : A) → P x → Q x) → (xs : List A) → AllByRecursion P xs → AllByRecursion Q xs
rec-map P Q h [] r = tt
rec-map P Q h (x ∷ xs) r = (h x r.0, rec-map P Q h xs r.1)
