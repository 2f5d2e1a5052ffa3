-- Lists of names, and what is among them.
use Rattle.std.proofs.Common.{◌≡◌, ℕ, ◌+◌, ◌<◌, ◌⊎◌, inl, inr, Bool, true, false, ◌||◌, ◌&&◌, cond, nat_eq, List, [], ◌∷◌, ◌++◌, length}
use Rattle.std.proofs.Common.{get_or, take, refl, sym, ap, ◌∙◌, append_assoc}
use Rattle.std.proofs.lemmas.Bool.{eqb-true}
use Rattle.std.proofs.lemmas.List.{take_more}
use Rattle.std.proofs.lemmas.List.Folds.{list_any_more}
use Rattle.std.specs.Cmp.Lexicographic.{nat_list_eq_equiv}
use Rattle.tn_module.specs.Names.{same_name, is_among}
use Rattle.tn_module.specs.Inner.Sets.{HaveSameNames}
use Rattle.tn_module.proofs.NameLists.{among-append, entered, same-then}

pub either : (a b : Bool) → (a || b) ≡ true → (a ≡ true) ⊎ (b ≡ true)
either true b h = inl refl
either false b h = inr h

pub or-left : (a b : Bool) → a ≡ true → (a || b) ≡ true
or-left a b h = ap (λ c. c || b) h

pub or-right : (a b : Bool) → b ≡ true → (a || b) ≡ true
or-right true b h = refl
or-right false b h = h

pub neither : (a b : Bool) → (a || b) ≡ false → (a ≡ false) × (b ≡ false)
neither true b h = absurd cc
neither false b h = (refl, h)

pub not-both : {P : Type 0} (b : Bool) → b ≡ true → b ≡ false → P
not-both true h k = absurd cc
not-both false h k = absurd cc

both : (a b : Bool) → (a && b) ≡ true → (a ≡ true) × (b ≡ true)
both true b h = (refl, h)
both false b h = absurd cc

-- names that are found equal are equal
pub same-names : (a b : List ℕ) → same_name a b ≡ true → a ≡ b
same-names [] [] h = refl
same-names [] (y ∷ ys) h = absurd cc
same-names (x ∷ xs) [] h = absurd cc
same-names (x ∷ xs) (y ∷ ys) h =
    let b = both (nat_eq x y) (same_name xs ys) h in
    let first : x ≡ y = eqb-true x y b.0 in
    let rest : xs ≡ ys = same-names xs ys b.1 in
    λ j. first j ∷ rest j

pub same-itself : (a : List ℕ) → same_name a a ≡ true
same-itself a = nat_list_eq_equiv.refl a

-- one more name
pub among-more : (names : List (List ℕ)) (i : ℕ) (x q : List ℕ) → i < length names → x ≡ get_or names i x
    → is_among (take (i + 1) names) q ≡ (is_among (take i names) q || same_name q x)
among-more names i x q h is = list_any_more (same_name q) names i x h ∙ ap (λ y. is_among (take i names) q || same_name q y) (sym is)

pub among-push : (names : List (List ℕ)) (x q : List ℕ) → is_among (names ++ x ∷ []) q ≡ (is_among names q || same_name q x)
among-push names x q = among-append names (x ∷ []) q ∙ ap (λ b. is_among names q || b) (or-false (same_name q x))
  where
    or-false : (b : Bool) → (b || false) ≡ b
    or-false true = refl
    or-false false = refl

-- one more name in a set
pub names-grown : (initial old new names : List (List ℕ)) (i : ℕ) (x : List ℕ) → i < length names → x ≡ get_or names i x
    → HaveSameNames old (initial ++ take i names) → ((q : List ℕ) → is_among new q ≡ cond (same_name x q) true (is_among old q))
    → HaveSameNames new (initial ++ take (i + 1) names)
names-grown initial old new names i x h is so_far add =
    record {
      same = λ q. (same-then old (initial ++ take i names) new (x ∷ []) so_far (entered old new x add)).same q
          ∙ ap (λ l. is_among l q) (append_assoc initial (take i names) (x ∷ []) ∙ ap (λ l. initial ++ l) (sym (grown q)));
    }
  where
    grown : List ℕ → take (i + 1) names ≡ take i names ++ x ∷ []
    grown q = take_more names i x h ∙ ap (λ y. take i names ++ y ∷ []) (sym is)
