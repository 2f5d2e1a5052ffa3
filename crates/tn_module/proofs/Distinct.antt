-- Names are distinct exactly where none is among those before it.
use Rattle.std.proofs.Common.{◌≡◌, ℕ, zero, suc, false, ◌||◌, List, [], ◌∷◌, ◌++◌, take, Option, None, Some, refl, sym, ap, ◌∙◌, subst}
use Rattle.std.proofs.Common.{append_assoc, append-nil}
use Rattle.std.specs.Prelude.{slice_get}
use Rattle.std.specs.List.{IsDistinct, cons_option}
use Rattle.std.specs.Cmp.Lexicographic.{nat_list_eq_equiv}
use Rattle.std.proofs.lemmas.Option.{same_Some, none-some}
use Rattle.std.proofs.lemmas.Map.Keys.{IsDistinct-head, IsDistinct-tail, IsDistinct-cons, IsDistinct-push}
use Rattle.tn_module.specs.Names.{same_name, is_among}
use Rattle.tn_module.proofs.Recursion.{rec-split}

pub distinct-none : IsDistinct same_name []
unfolding IsDistinct
distinct-none = tt

pub distinct-front : (xs ys : List (List ℕ)) → IsDistinct same_name (xs ++ ys) → IsDistinct same_name xs
distinct-front [] ys d = distinct-none
distinct-front (x ∷ xs) ys d =
    IsDistinct-cons same_name x xs (rec-split (λ y. same_name x y ≡ false) xs ys (IsDistinct-head same_name x (xs ++ ys) d)).0
    (distinct-front xs ys (IsDistinct-tail same_name x (xs ++ ys) d))

distinct-before : (before : List (List ℕ)) (n : List ℕ) (after : List (List ℕ)) → IsDistinct same_name (before ++ n ∷ after)
    → is_among before n ≡ false
distinct-before [] n after d = refl
distinct-before (b ∷ bs) n after d =
    ap (λ t. t || is_among bs n) (nat_list_eq_equiv.symm n b
    ∙ (rec-split (λ y. same_name b y ≡ false) bs (n ∷ after) (IsDistinct-head same_name b (bs ++ n ∷ after) d)).1.0)
    ∙ distinct-before bs n after (IsDistinct-tail same_name b (bs ++ n ∷ after) d)

shift : (o : Option (List ℕ)) (xs ys : List (List ℕ)) → cons_option o (xs ++ ys) ≡ cons_option o xs ++ ys
shift None xs ys = refl
shift (Some n) xs ys = refl

-- the names of the elements of a list that have one
module _ {X : Type 0} (name : X → Option (List ℕ)) (names : List X → List (List ℕ)) (nil : names [] ≡ [])
    (cons : (x : X) (xs : List X) → names (x ∷ xs) ≡ cons_option (name x) (names xs)) where
  more : (x : X) (o : Option (List ℕ)) → name x ≡ o → (xs : List X) → names (x ∷ xs) ≡ cons_option o (names xs)
  more x o e xs = cons x xs ∙ ap (λ o. cons_option o (names xs)) e

  pub distinct-grown : (outer : List (List ℕ)) (xs : List X) → IsDistinct same_name outer
      → ((i : ℕ) (x : X) (n : List ℕ) → slice_get xs i ≡ Some x → name x ≡ Some n → is_among (outer ++ names (take i xs)) n ≡ false)
      → IsDistinct same_name (outer ++ names xs)
  distinct-grown outer [] d f = subst (IsDistinct same_name) (sym (append-nil outer) ∙ ap (λ l. outer ++ l) (sym nil)) d
  distinct-grown outer (x ∷ xs) d f = by (λ o. distinct-grown o xs) (name x) refl
    where
      by : ((o : List (List ℕ)) → IsDistinct same_name o
          → ((i : ℕ) (y : X) (n : List ℕ) → slice_get xs i ≡ Some y → name y ≡ Some n → is_among (o ++ names (take i xs)) n ≡ false)
          → IsDistinct same_name (o ++ names xs)) → (o : Option (List ℕ)) → name x ≡ o → IsDistinct same_name (outer ++ names (x ∷ xs))
      by rest None e =
          subst (λ l. IsDistinct same_name (outer ++ l)) (sym (more x None e xs))
          (rest outer d (λ i y n g a. subst (λ l. is_among (outer ++ l) n ≡ false) (more x None e (take i xs)) (f (suc i) y n g a)))
      by rest (Some m) e =
          let first : is_among outer m ≡ false = subst (λ l. is_among l m ≡ false) (ap (λ l. outer ++ l) nil ∙ append-nil outer)
          (f 0 x m refl e) in
          subst (IsDistinct same_name) (append_assoc outer (m ∷ []) (names xs) ∙ ap (λ l. outer ++ l) (sym (more x (Some m) e xs)))
          (rest (outer ++ m ∷ []) (IsDistinct-push nat_list_eq_equiv outer m d first)
          (λ i y n g a. subst (λ l. is_among l n ≡ false)
          (ap (λ l. outer ++ l) (more x (Some m) e (take i xs)) ∙ sym (append_assoc outer (m ∷ []) (names (take i xs))))
          (f (suc i) y n g a)))

  cut : (xs : List X) (i : ℕ) (x : X) (n : List ℕ) → slice_get xs i ≡ Some x → name x ≡ Some n
      → (rest : List (List ℕ)) × (names xs ≡ names (take i xs) ++ n ∷ rest)
  cut [] i x n g e = absurd (none-some x g)
  cut (y ∷ xs) zero x n g e = (names xs, more y (Some n) (ap name (same_Some y x g) ∙ e) xs ∙ sym (ap (λ l. l ++ n ∷ names xs) nil))
  cut (y ∷ xs) (suc i) x n g e =
      let r = cut xs i x n g e in (
        r.0,
        cons y xs ∙ ap (cons_option (name y)) r.1 ∙ shift (name y) (names (take i xs)) (n ∷ r.0)
            ∙ ap (λ l. l ++ n ∷ r.0) (sym (cons y (take i xs))),
      )

  pub distinct-at : (outer : List (List ℕ)) (xs : List X) (i : ℕ) (x : X) (n : List ℕ) → IsDistinct same_name (outer ++ names xs)
      → slice_get xs i ≡ Some x → name x ≡ Some n → is_among (outer ++ names (take i xs)) n ≡ false
  distinct-at outer xs i x n d g e =
      let r = cut xs i x n g e in
      distinct-before (outer ++ names (take i xs)) n r.0
      (subst (IsDistinct same_name) (ap (λ l. outer ++ l) r.1 ∙ sym (append_assoc outer (names (take i xs)) (n ∷ r.0))) d)
