-- One more element of a list of which something is collected.
use Rattle.std.proofs.Common.{◌≡◌, ◌+◌, ◌≤◌, true, false, List, [], ◌∷◌, ◌++◌, length, Option, Some, None, refl, sym, ap, ◌∙◌}
use Rattle.std.proofs.Common.{append-nil, length-append, arith, is_some, is_none}
use Rattle.std.specs.List.{filter_map, cons_option}
use Rattle.std.proofs.lemmas.List.Elements.{filter_map-append}
use Rattle.tn_config.specs.SoFar.{newer, latest, append_option}

-- nothing is the latest of an empty list alone
some_newer : {A : Type 0} (x : A) (o : Option A) → is_none (newer (Some x) o) ≡ false
some_newer x None = refl
some_newer x (Some y) = refl

pub latest_none : {A : Type 0} (xs : List A) → is_none (latest xs) ≡ true → xs ≡ []
latest_none [] e = refl
latest_none (x ∷ xs) e = let f : is_none (newer (Some x) (latest xs)) ≡ false = some_newer x (latest xs) in absurd cc

newer_assoc : {A : Type 0} (a b c : Option A) → newer a (newer b c) ≡ newer (newer a b) c
newer_assoc a b None = refl
newer_assoc a b (Some c) = refl

newer-none : {A : Type 0} (a : Option A) → newer None a ≡ a
newer-none None = refl
newer-none (Some x) = refl

latest-append : {A : Type 0} (xs ys : List A) → latest (xs ++ ys) ≡ newer (latest xs) (latest ys)
latest-append [] ys = sym (newer-none (latest ys))
latest-append (x ∷ xs) ys = ap (newer (Some x)) (latest-append xs ys) ∙ newer_assoc (Some x) (latest xs) (latest ys)

latest-option : {A : Type 0} (o : Option A) → latest (cons_option o []) ≡ o
latest-option None = refl
latest-option (Some x) = refl

module _ {X Y : Type 0} (f : X → Option Y) (xs : List X) (x : X) where
  alone : (o : Option Y) → filter_map f xs ++ cons_option o [] ≡ append_option (filter_map f xs) o
  alone None = append-nil (filter_map f xs)
  alone (Some y) = refl

  pub collected-more : filter_map f (xs ++ x ∷ []) ≡ append_option (filter_map f xs) (f x)
  collected-more = filter_map-append f xs (x ∷ []) ∙ alone (f x)

  pub latest-more : latest (filter_map f (xs ++ x ∷ [])) ≡ newer (latest (filter_map f xs)) (f x)
  latest-more =
      ap latest (filter_map-append f xs (x ∷ [])) ∙ (latest-append (filter_map f xs) (cons_option (f x) [])
      ∙ ap (newer (latest (filter_map f xs))) (latest-option (f x)))

  -- one at most, where the new one is the first
  pub once_more : (is_some (f x) ≡ true → is_none (latest (filter_map f xs)) ≡ true) → length (filter_map f xs) ≤ 1
      → length (filter_map f (xs ++ x ∷ [])) ≤ 1
  once_more free once = at (f x) refl
    where
      at : (o : Option Y) → f x ≡ o → length (filter_map f (xs ++ x ∷ [])) ≤ 1
      at None e =
          let same : filter_map f (xs ++ x ∷ []) ≡ filter_map f xs = collected-more ∙ ap (append_option (filter_map f xs)) e in
          rw same once
      at (Some y) e =
          let some : is_some (f x) ≡ true = rw e refl in
          let none : filter_map f xs ≡ [] = latest_none (filter_map f xs) (free some) in
          let same : filter_map f (xs ++ x ∷ []) ≡ y ∷ [] =
          collected-more ∙ (ap (append_option (filter_map f xs)) e ∙ ap (λ u. u ++ y ∷ []) none) in
          rw same (omega arith)

  none_left : (ys : List Y) → length ys ≤ 0 → is_none (latest ys) ≡ true
  none_left [] h = refl
  none_left (y ∷ ys) h = absurd (omega arith)

  -- where one at most is collected, nothing is collected before it
  pub free_before : (zs : List X) → is_some (f x) ≡ true → length (filter_map f (xs ++ x ∷ zs)) ≤ 1
      → is_none (latest (filter_map f xs)) ≡ true
  free_before zs some once = at (f x) refl some
    where
      at : (o : Option Y) → f x ≡ o → is_some o ≡ true → is_none (latest (filter_map f xs)) ≡ true
      at None e s = absurd cc
      at (Some y) e s =
          let split : filter_map f (xs ++ x ∷ zs) ≡ filter_map f xs ++ y ∷ filter_map f zs =
          filter_map-append f xs (x ∷ zs) ∙ ap (λ o. filter_map f xs ++ cons_option o (filter_map f zs)) e in
          let long : length (filter_map f (xs ++ x ∷ zs)) ≡ length (filter_map f xs) + length (y ∷ filter_map f zs) =
          ap length split ∙ length-append (filter_map f xs) (y ∷ filter_map f zs) in
          none_left (filter_map f xs) (omega arith)
