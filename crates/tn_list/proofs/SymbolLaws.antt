-- The nearest label is the last one that lies at the address or below.
use Rattle.std.proofs.Common.{◌≡◌, ℕ, ◌-◌, ◌<◌, ◌≤◌, ◌⊎◌, inl, inr, Bool, true, false, cond, List, [], ◌∷◌, ◌++◌, Option, Some, None, All}
use Rattle.std.proofs.Common.{refl, sym, ap, ◌∙◌, subst, arith}
use Rattle.std.specs.Prelude.{nat_le, MatchOption}
use Rattle.std.proofs.lemmas.Bool.{leb-true, leb-false}
use Rattle.std.proofs.lemmas.List.Elements.{All-nil, All-cons}
use Rattle.tn_module.specs.Modules.{Parts}
use Rattle.tn_link.specs.declared.linking.Linked.{Linked}
use Rattle.tn_link.specs.declared.linking.Placed.{Placed}
use Rattle.tn_list.specs.Symbols.{label_placed, IsPast, IsSymbol, IsSymbolOf, HasNoSymbol, is_in_code, or_kept, nearer, nearest}

module _ (modules : List Parts) (address : ℕ) where
  -- what was found stays where nothing behind is nearer
  pub data Nearest (found : Option (List ℕ × ℕ)) (ps : List Placed) : Type 0 where
    behind : (s : List ℕ × ℕ) → nearest modules address found ps ≡ Some s → IsSymbol modules ps address s → Nearest found ps
    kept : nearest modules address found ps ≡ found → All (IsPast modules address) ps → Nearest found ps

  -- an element before others
  pub one_before : (p : Placed) (ps : List Placed) (s : List ℕ × ℕ) → IsSymbol modules ps address s → IsSymbol modules (p ∷ ps) address s
  one_before p ps s h =
      record {
        before = p ∷ h.before;
        at = h.at;
        after = h.after;
        are = ap (λ ps. p ∷ ps) h.are;
        label = h.label;
        reached = h.reached;
        offset = h.offset;
        last = h.last;
      }

  pub nearest_of : (found : Option (List ℕ × ℕ)) (ps : List Placed) → Nearest found ps
  unfolding nearest nearer
  nearest_of found [] = kept refl (All-nil (IsPast modules address))
  nearest_of found (p ∷ ps) = at (nat_le p.address address) refl (label_placed modules p) refl (λ f. nearest_of f ps)
    where
      passed : nearer modules address found p ≡ found → IsPast modules address p → ((f : Option (List ℕ × ℕ)) → Nearest f ps)
          → Nearest found (p ∷ ps)
      passed same past more = by (more found)
        where
          goes : nearest modules address found (p ∷ ps) ≡ nearest modules address found ps
          goes = ap (λ f. nearest modules address f ps) same

          by : Nearest found ps → Nearest found (p ∷ ps)
          by (behind s e h) = behind s (goes ∙ e) (one_before p ps s h)
          by (kept e h) = kept (goes ∙ e) (All-cons (IsPast modules address) p ps past h)

      taken : (name : List ℕ) → nearer modules address found p ≡ Some (name, address - p.address) → label_placed modules p ≡ Some name
          → p.address ≤ address → ((f : Option (List ℕ × ℕ)) → Nearest f ps) → Nearest found (p ∷ ps)
      taken name is label reached more = by (more (Some (name, address - p.address)))
        where
          goes : nearest modules address found (p ∷ ps) ≡ nearest modules address (Some (name, address - p.address)) ps
          goes = ap (λ f. nearest modules address f ps) is

          by : Nearest (Some (name, address - p.address)) ps → Nearest found (p ∷ ps)
          by (behind s e h) = behind s (goes ∙ e) (one_before p ps s h)
          by (kept e h) =
              behind (name, address - p.address) (goes ∙ e) (record {
                before = [];
                at = p;
                after = ps;
                are = refl;
                label = label;
                reached = reached;
                offset = refl;
                last = h;
              })

      at : (b : Bool) → nat_le p.address address ≡ b → (o : Option (List ℕ)) → label_placed modules p ≡ o
          → ((f : Option (List ℕ × ℕ)) → Nearest f ps) → Nearest found (p ∷ ps)
      at false e o f more = passed (rw e refl) (λ name is. leb-false p.address address e) more
      at true e None f more = passed (rw (e, f) refl) (λ name is. absurd cc) more
      at true e (Some name) f more = taken name (rw (e, f) refl) f (leb-true p.address address e) more

-- what is found behind nothing
pub nearest_told : (modules : List Parts) (address : ℕ) (ps : List Placed) (result : Option (List ℕ × ℕ))
    → result ≡ nearest modules address None ps
    → MatchOption result (All (IsPast modules address) ps) (λ found. IsSymbol modules ps address found)
nearest_told modules address ps None e = at (nearest_of modules address None ps)
  where
    at : Nearest modules address None ps → All (IsPast modules address) ps
    at (behind s f h) = absurd cc
    at (kept f h) = h
nearest_told modules address ps (Some s) e = at (nearest_of modules address None ps)
  where
    at : Nearest modules address None ps → IsSymbol modules ps address s
    at (behind t f h) = let one : Some s ≡ Some t = e ∙ f in let same : s ≡ t = cc in subst (IsSymbol modules ps address) (sym same) h
    at (kept f h) = absurd cc

-- the same of an address in the code
pub symbol_told : (modules : List Parts) (linked : Linked) (address : ℕ) (result : Option (List ℕ × ℕ))
    → is_in_code linked address ≡ true → result ≡ nearest modules address None linked.placed.items
    → MatchOption result (HasNoSymbol modules linked address) (λ found. IsSymbolOf modules linked address found)
symbol_told modules linked address None inside e = λ here. nearest_told modules address linked.placed.items None e
symbol_told modules linked address (Some s) inside e = (inside, nearest_told modules address linked.placed.items (Some s) e)
