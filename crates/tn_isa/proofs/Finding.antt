-- What the first element of a list that passes a test says of the list.
use Rattle.std.proofs.Common.{◌≡◌, ◌+◌, Bool, true, false, cond, List, [], ◌∷◌, Option, Some, None, Contains, IfSome, IfNone, refl, arith}
use Rattle.std.specs.List.{find, All}
use Rattle.std.proofs.lemmas.List.Elements.{All-nil, All-cons}
use Rattle.std.proofs.lemmas.Grind.{common_steps}

Contains-cons : {X : Type 0} (x : X) (xs : List X) (y : X) → Contains xs y → Contains (x ∷ xs) y
Contains-cons x xs y h = (h.0 + 1, omega arith, grind (arith, common_steps))

-- what find gives is in the list and passes the test
pub found-find : {X : Type 0} (p : X → Bool) (xs : List X) → IfSome (find p xs) (λ x. Contains xs x × (p x ≡ true))
found-find p [] = tt
found-find {X} p (x ∷ xs) = at (p x) refl (found-find p xs)
  where
    more : (o : Option X) → IfSome o (λ y. Contains xs y × (p y ≡ true)) → IfSome o (λ y. Contains (x ∷ xs) y × (p y ≡ true))
    more None h = tt
    more (Some y) h = (Contains-cons x xs y h.0, h.1)

    at : (b : Bool) → p x ≡ b → IfSome (find p xs) (λ y. Contains xs y × (p y ≡ true))
        → IfSome (cond b (Some x) (find p xs)) (λ y. Contains (x ∷ xs) y × (p y ≡ true))
    at true e h = ((0, omega arith, refl), e)
    at false e h = more (find p xs) h

-- where find gives nothing, no element passes
pub none-find : {X : Type 0} (p : X → Bool) (xs : List X) → IfNone (find p xs) (All (λ x. p x ≡ false) xs)
none-find p [] = All-nil (λ x. p x ≡ false)
none-find {X} p (x ∷ xs) = at (p x) refl (none-find p xs)
  where
    more : (o : Option X) → p x ≡ false → IfNone o (All (λ y. p y ≡ false) xs) → IfNone o (All (λ y. p y ≡ false) (x ∷ xs))
    more None e h = All-cons (λ y. p y ≡ false) x xs e h
    more (Some y) e h = tt

    at : (b : Bool) → p x ≡ b → IfNone (find p xs) (All (λ y. p y ≡ false) xs)
        → IfNone (cond b (Some x) (find p xs)) (All (λ y. p y ≡ false) (x ∷ xs))
    at true e h = tt
    at false e h = more (find p xs) e h
