-- Places that are wanted, one name after the other.
use Rattle.std.proofs.Common.{◌≡◌, ℕ, ◌+◌, ◌<◌, ◌⊎◌, inl, inr, Bool, true, false, ◌||◌, cond, List, [], ◌∷◌, ◌++◌, length, get_or, take}
use Rattle.std.proofs.Common.{Option, Some, None, refl, sym, ap, ◌∙◌, subst, arith}
use Rattle.std.specs.List.{list_any}
use Rattle.std.specs.Ordering.{nat_cmp, eq_by_cmp}
use Rattle.std.specs.BTreeSet.{BTreeSet, contains}
use Rattle.std.specs.BTreeMap.{is_at}
use Rattle.std.proofs.lemmas.List.{map_more}
use Rattle.std.proofs.lemmas.Option.{none-some, same_Some}
use Rattle.std.proofs.lemmas.Map.Lookups.{exact_unsigned}
use Rattle.std.proofs.lemmas.Map.Views.{tells_apart}
use Rattle.tn_module.specs.declared.modules.Import.{Import}
use Rattle.tn_module.specs.Names.{same_name, is_among, import_names}
use Rattle.tn_module.proofs.NameLists.{among-append}
use Rattle.tn_symbols.specs.Inner.Tables.{Wants, AreWanted, WantsMore}
use Rattle.tn_symbols.proofs.NameLists.{either, or-left, or-right, same-names, same-itself}

module _ (found : List ℕ → Option ℕ) where
  -- among more names
  pub wants-left : (names more : List (List ℕ)) (p : ℕ) → Wants found names p → Wants found (names ++ more) p
  wants-left names more p w =
      record {
        name = w.name;
        among = among-append names more w.name
            ∙ or-left (is_among names w.name) (is_among more w.name) w.among;
        at = w.at;
      }

  pub wants-right : (names more : List (List ℕ)) (p : ℕ) → Wants found more p → Wants found (names ++ more) p
  wants-right names more p w =
      record {
        name = w.name;
        among = among-append names more w.name
            ∙ or-right (is_among names w.name) (is_among more w.name) w.among;
        at = w.at;
      }

  pub wants-either : (names more : List (List ℕ)) (p : ℕ) → Wants found (names ++ more) p → Wants found names p ⊎ Wants found more p
  wants-either names more p w = elim (either (is_among names w.name) (is_among more w.name)
      (sym (among-append names more w.name) ∙ w.among)) [
        | inl h ↦ inl (record { name = w.name; among = h; at = w.at })
        | inr h ↦ inr (record { name = w.name; among = h; at = w.at })
      ]

  pub wants-one : (x : List ℕ) (p : ℕ) → found x ≡ Some p → Wants found (x ∷ []) p
  wants-one x p h = record { name = x; among = or-left (same_name x x) false (same-itself x); at = h }

  pub one-wants : (x : List ℕ) (p : ℕ) → Wants found (x ∷ []) p → found x ≡ Some p
  one-wants x p w = subst (λ n. found n ≡ Some p) (same-names w.name x (only (same_name w.name x) w.among)) w.at
    where
      only : (b : Bool) → (b || false) ≡ true → b ≡ true
      only true h = refl
      only false h = h

  no-names : {P : Type 0} (p : ℕ) → Wants found [] p → P
  no-names p w = let h : false ≡ true = w.among in absurd cc

  -- a set that had places has those of no name
  pub wants-none : (old : ℕ → Bool) → WantsMore old old found []
  wants-none old = record { kept = λ p h. h; all = λ p w. no-names p w; only = λ p h. inl h }

  -- a name that is not found
  pub wants-skipped : (old cur : ℕ → Bool) (names : List (List ℕ)) (x : List ℕ) → found x ≡ None → WantsMore old cur found names
      → WantsMore old cur found (names ++ x ∷ [])
  wants-skipped old cur names x none m =
      record {
        kept = m.kept;
        all = λ p w. elim (wants-either names (x ∷ []) p w) [
          | inl l ↦ m.all p l
          | inr r ↦ absurd (none-some p (sym none ∙ one-wants x p r))
        ];
        only = λ p h. elim (m.only p h) [ inl o ↦ inl o | inr w ↦ inr (wants-left names (x ∷ []) p w) ];
      }

  -- a name that is found
  pub wants-added : (old cur new : ℕ → Bool) (names : List (List ℕ)) (x : List ℕ) (k : ℕ) → found x ≡ Some k
      → ((q : ℕ) → new q ≡ cond (eq_by_cmp nat_cmp k q) true (cur q)) → new k ≡ true → WantsMore old cur found names
      → WantsMore old new found (names ++ x ∷ [])
  wants-added old cur new names x k at updates here m = record { kept = λ p h. stays p (m.kept p h); all = all; only = only }
    where
      raised : (b c : Bool) → c ≡ true → cond b true c ≡ true
      raised true c h = refl
      raised false c h = h

      stays : (p : ℕ) → cur p ≡ true → new p ≡ true
      stays p h = updates p ∙ raised (eq_by_cmp nat_cmp k p) (cur p) h

      all : (p : ℕ) → Wants found (names ++ x ∷ []) p → new p ≡ true
      all p w = elim (wants-either names (x ∷ []) p w) [
        | inl l ↦ stays p (m.all p l)
        | inr r ↦ subst (λ q. new q ≡ true) (same_Some k p (sym at ∙ one-wants x p r)) here
      ]

      by : (p : ℕ) (b : Bool) → eq_by_cmp nat_cmp k p ≡ b → new p ≡ true → (old p ≡ true) ⊎ Wants found (names ++ x ∷ []) p
      by p true e h = inr (wants-right names (x ∷ []) p (subst (λ q. Wants found (x ∷ []) q) (tells_apart exact_unsigned k p e)
          (wants-one x k at)))
      by p false e h = elim (m.only p (sym (updates p ∙ ap (λ b. cond b true (cur p)) e) ∙ h)) [
        | inl o ↦ inl o
        | inr w ↦ inr (wants-left names (x ∷ []) p w)
      ]

      only : (p : ℕ) → new p ≡ true → (old p ≡ true) ⊎ Wants found (names ++ x ∷ []) p
      only p h = by p (eq_by_cmp nat_cmp k p) refl h

  -- all places of more names
  pub wanted-more : (old new : ℕ → Bool) (names more : List (List ℕ)) → AreWanted old found names → WantsMore old new found more
      → AreWanted new found (names ++ more)
  wanted-more old new names more a m =
      record {
        all = λ p w. elim (wants-either names more p w) [ inl l ↦ m.kept p (a.all p l) | inr r ↦ m.all p r ];
        only = λ p h. elim (m.only p h) [ inl o ↦ wants-left names more p (a.only p o) | inr w ↦ wants-right names more p w ];
      }

  -- an empty set has the places of no name
  pub wanted-none : (has : ℕ → Bool) → ((p : ℕ) → has p ≡ false) → AreWanted has found []
  wanted-none has none = record { all = λ p w. no-names p w; only = λ p h. (let e : true ≡ false = sym h ∙ none p in absurd cc) }

-- one more import
pub imports-more : (imports : List Import) (i : ℕ) (x : Import) → i < length imports → x ≡ get_or imports i x
    → import_names (take (i + 1) imports) ≡ import_names (take i imports) ++ x.name ∷ []
imports-more imports i x h is =
    map_more (λ (import : Import). import.name) imports i x h ∙ ap (λ (y : Import). import_names (take i imports) ++ y.name ∷ []) (sym is)

-- a set with no key has no place
pub empty-set : (s : BTreeSet ℕ) → (0 < length s.keys → ⊥) → (p : ℕ) → contains nat_cmp s p ≡ false
empty-set s none p = by s.keys none
  where
    by : (ks : List ℕ) → (0 < length ks → ⊥) → list_any (is_at (nat_cmp p)) ks ≡ false
    by [] h = refl
    by (k ∷ ks) h = absurd (h (omega arith))
