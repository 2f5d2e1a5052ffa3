-- Lists with the same names.
use Rattle.std.proofs.Common.{◌≡◌, ℕ, Bool, true, false, cond, ◌||◌, List, [], ◌∷◌, ◌++◌, refl, sym, ap, ◌∙◌, subst, Result, IfOk}
use Rattle.std.proofs.lemmas.Result.{IfOk-weaker}
use Rattle.std.proofs.lemmas.List.Folds.{list_any-append}
use Rattle.std.specs.Cmp.Lexicographic.{nat_list_eq_equiv}
use Rattle.tn_module.specs.Names.{same_name, is_among}
use Rattle.tn_module.specs.Faults.{Known}
use Rattle.tn_module.specs.Inner.Sets.{HaveSameNames, known_by}
use Rattle.tn_module.specs.declared.name_sets.NameSets.{NameSets}

-- what is among the names of two lists
pub among-append : (xs ys : List (List ℕ)) (n : List ℕ) → is_among (xs ++ ys) n ≡ (is_among xs n || is_among ys n)
among-append xs ys n = list_any-append (same_name n) xs ys

-- a set that a name entered
pub entered : (old new : List (List ℕ)) (n : List ℕ) → ((q : List ℕ) → is_among new q ≡ cond (same_name n q) true (is_among old q))
    → HaveSameNames new (old ++ n ∷ [])
entered old new n h =
    record {
      same = λ q. h q ∙ ap (λ b. cond b true (is_among old q)) (nat_list_eq_equiv.symm n q)
          ∙ swapped (same_name q n) (is_among old q) ∙ sym (among-append old (n ∷ []) q);
    }
  where
    swapped : (a b : Bool) → cond a true b ≡ (b || (a || false))
    swapped true true = refl
    swapped true false = refl
    swapped false true = refl
    swapped false false = refl

pub same-refl : (xs : List (List ℕ)) → HaveSameNames xs xs
same-refl xs = record { same = λ q. refl }

pub same-trans : (xs ys zs : List (List ℕ)) → HaveSameNames xs ys → HaveSameNames ys zs → HaveSameNames xs zs
same-trans xs ys zs a b = record { same = λ q. a.same q ∙ b.same q }

pub same-append : (xs ys zs : List (List ℕ)) → HaveSameNames xs ys → HaveSameNames (xs ++ zs) (ys ++ zs)
same-append xs ys zs a = record { same = λ q. among-append xs zs q ∙ ap (λ b. b || is_among zs q) (a.same q) ∙ sym (among-append ys zs q) }

-- a list with more names behind a list with the same names
pub same-then : (xs ys new more : List (List ℕ)) → HaveSameNames xs ys → HaveSameNames new (xs ++ more) → HaveSameNames new (ys ++ more)
same-then xs ys new more a b = same-trans new (xs ++ more) (ys ++ more) b (same-append xs ys more a)

-- a list with more names behind no name
pub same-from_none : (none xs ys : List (List ℕ)) → none ≡ [] → HaveSameNames xs (none ++ ys) → HaveSameNames xs ys
same-from_none none xs ys e h = subst (λ l. HaveSameNames xs (l ++ ys)) e h

-- sets that have a module's names know what the module says
pub known-same : (sets : NameSets) (k : Known) → ((n : List ℕ) → (known_by sets).defined n ≡ k.defined n)
    → ((n : List ℕ) → (known_by sets).code n ≡ k.code n) → ((n : List ℕ) → (known_by sets).cell n ≡ k.cell n)
    → ((n : List ℕ) → (known_by sets).label n ≡ k.label n) → ((n : List ℕ) → (known_by sets).misaligned n ≡ k.misaligned n)
    → known_by sets ≡ k
known-same sets k d c e l a =
    λ j. record { defined = λ n. d n j; code = λ n. c n j; cell = λ n. e n j; label = λ n. l n j; misaligned = λ n. a n j }

-- a result that has more names behind those of a set
pub joined : {A E : Type 0} (r : Result A E) (keys : A → List (List ℕ)) (set first now second : List (List ℕ)) → HaveSameNames set first
    → now ≡ second → IfOk r (λ all. HaveSameNames (keys all) (set ++ now)) → IfOk r (λ all. HaveSameNames (keys all) (first ++ second))
joined r keys set first now second a e h =
    IfOk-weaker r (λ all. HaveSameNames (keys all) (set ++ now)) (λ all. HaveSameNames (keys all) (first ++ second))
    (λ all k. same-then set first (keys all) second a (subst (λ l. HaveSameNames (keys all) (set ++ l)) e k)) h
