-- Picks, one after the other.
use Rattle.std.proofs.Common.{◌≡◌, ℕ, ◌+◌, ◌<◌, ◌≤◌, Bool, true, false, not, ◌&&◌, ◌||◌, cond, nat_eq, List, [], ◌∷◌, ◌++◌, length, map}
use Rattle.std.proofs.Common.{Option, Some, None, refl, sym, ap, ◌∙◌, subst, arith, append_assoc, if◌then◌else◌}
use Rattle.std.specs.List.{list_any}
use Rattle.std.specs.Ordering.{nat_cmp, eq_by_cmp, is_gt}
use Rattle.std.proofs.lemmas.Map.Keys.{le_from_not_gt}
use Rattle.std.proofs.lemmas.List.{append-nil, map-append, length_push}
use Rattle.std.proofs.lemmas.Option.{none-some, same_Some}
use Rattle.std.proofs.lemmas.Cmp.{eq_by_cmp_equiv, nat_cmp_total}
use Rattle.std.proofs.lemmas.Map.Lookups.{exact_unsigned}
use Rattle.std.proofs.lemmas.Map.Views.{tells_apart}
use Rattle.tn_module.specs.Modules.{Parts}
use Rattle.tn_module.specs.Names.{is_among, import_names}
use Rattle.tn_module.specs.Inner.Sets.{HaveSameNames}
use Rattle.tn_module.proofs.NameLists.{among-append, same-then}
use Rattle.tn_symbols.specs.Choices.{imported, exported, module_at, is_lacking, is_wanted, with_picks, IsCandidate, IsNext, IsChosen}
use Rattle.tn_symbols.specs.Definitions.{first_exporter}
use Rattle.tn_symbols.specs.Inner.Tables.{missing, Wants, AreWanted, WantsMore}
use Rattle.tn_symbols.proofs.NameLists.{or-right, neither, not-both}
use Rattle.tn_symbols.proofs.OneChoice.{Grows, grown, few, none_picked}
use Rattle.tn_symbols.proofs.Wanting.{wanted-more}
use Rattle.tn_symbols.proofs.Exporting.{exporter-upto, exporter-is, any-name, any-from_name, exported-more, imported-more}
use Rattle.tn_symbols.proofs.Exporting.{exported-picked, exported-append}

-- the modules that are picked so far, the names that they and the named ones export, and the places
-- where what they lack is found
pub record IsPicking (named stock : List Parts) (picks : List ℕ) (first : List ℕ → Option ℕ) (names : List (List ℕ)) (has : ℕ → Bool)
    : Type 0 where
  pub grows : Grows named stock picks
  pub exported : HaveSameNames names (exported (with_picks named stock picks))
  pub wanted : AreWanted has (missing first names) (imported (with_picks named stock picks))

-- what a name that is missing says
pub missing-is : (first : List ℕ → Option ℕ) (names : List (List ℕ)) (name : List ℕ) (p : ℕ) → missing first names name ≡ Some p
    → (is_among names name ≡ false) × (first name ≡ Some p)
missing-is first names name p h = by (is_among names name) h
  where
    by : (b : Bool) → (if b then None else first name) ≡ Some p → (b ≡ false) × (first name ≡ Some p)
    by true h = absurd (none-some p h)
    by false h = (refl, h)

pub missing-from : (first : List ℕ → Option ℕ) (names : List (List ℕ)) (name : List ℕ) (p : ℕ) → is_among names name ≡ false → first name
    ≡ Some p
    → missing first names name ≡ Some p
missing-from first names name p h e = ap (λ b. if b then None else first name) h ∙ e

lacks : (a b : Bool) → a && not b ≡ true → (a ≡ true) × (b ≡ false)
lacks true true h = absurd cc
lacks true false h = (refl, refl)
lacks false b h = absurd cc

lacking : (a b : Bool) → a ≡ true → b ≡ false → a && not b ≡ true
lacking true true h k = absurd cc
lacking true false h k = refl
lacking false b h k = absurd cc

module _ (named stock : List Parts) (first : List ℕ → Option ℕ) (is_first : (name : List ℕ) → first name ≡ first_exporter stock name) where
  module _ (picks : List ℕ) (names : List (List ℕ)) (has : ℕ → Bool) (s : IsPicking named stock picks first names has) where
    abbrev so_far : List Parts
    so_far = with_picks named stock picks

    -- a candidate's place, or an earlier one, is wanted
    candidate-wanted : (j : ℕ) → IsCandidate named stock picks j → (p : ℕ) × (p ≤ j) × (has p ≡ true)
    candidate-wanted j c =
        let f = any-name (is_lacking so_far) (module_at stock j).exports c.wanted in
        let l = lacks (is_among (imported so_far) f.0) (is_among (exported so_far) f.0) f.1 in
        let e = exporter-upto stock f.0 j c.here f.2 in (
          e.0,
          e.1,
          s.wanted.all e.0 (record {
            name = f.0;
            among = l.0;
            at = missing-from first names f.0 e.0 (s.exported.same f.0 ∙ l.1) (is_first f.0 ∙ e.2);
          }),
        )

    -- a picked module's names are exported
    picked-exported : (k : ℕ) (name : List ℕ) → list_any (nat_eq k) picks ≡ true → is_among (module_at stock k).exports name ≡ true
        → is_among (exported so_far) name ≡ true
    picked-exported k name p h =
        ap (λ l. is_among l name) (exported-append named (map (module_at stock) picks))
        ∙ among-append (exported named) (exported (map (module_at stock) picks)) name
        ∙ or-right (is_among (exported named) name) (is_among (exported (map (module_at stock) picks)) name)
        (exported-picked stock picks k name p h)

    -- a wanted place is one of the stock
    pub wanted-here : (k : ℕ) → has k ≡ true → k < length stock
    wanted-here k h =
        let w = s.wanted.only k h in
        (exporter-is stock w.name k (sym (is_first w.name) ∙ (missing-is first names w.name k w.at).1)).0

    -- the first of the wanted places is next
    pub wanted-next : (k : ℕ) → has k ≡ true → ((p : ℕ) → has p ≡ true → k ≤ p) → IsNext named stock picks k
    wanted-next k h least =
        record {
          candidate = record { here = e.0; new = new (list_any (nat_eq k) picks) refl; wanted = wanted };
          first = λ j l c. (let f = candidate-wanted j c in omega (arith, l, f.1, least f.0 f.2));
        }
      where
        is : (is_among names (s.wanted.only k h).name ≡ false) × (first (s.wanted.only k h).name ≡ Some k)
        is = missing-is first names (s.wanted.only k h).name k (s.wanted.only k h).at

        e : (k < length stock) × (is_among (module_at stock k).exports (s.wanted.only k h).name ≡ true)
        e = exporter-is stock (s.wanted.only k h).name k (sym (is_first (s.wanted.only k h).name) ∙ is.1)

        lacked : is_among (exported so_far) (s.wanted.only k h).name ≡ false
        lacked = sym (s.exported.same (s.wanted.only k h).name) ∙ is.0

        wanted : is_wanted so_far (module_at stock k) ≡ true
        wanted =
            any-from_name (is_lacking so_far) (module_at stock k).exports (s.wanted.only k h).name
            (lacking (is_among (imported so_far) (s.wanted.only k h).name) (is_among (exported so_far) (s.wanted.only k h).name)
            (s.wanted.only k h).among lacked) e.1

        new : (b : Bool) → list_any (nat_eq k) picks ≡ b → b ≡ false
        new true p = not-both (is_among (exported so_far) (s.wanted.only k h).name) (picked-exported k (s.wanted.only k h).name p e.1)
            lacked
        new false p = refl

    -- where no place is wanted the choice is complete
    pub none-wanted : ((p : ℕ) → has p ≡ false) → IsChosen named stock picks
    none-wanted none =
        record {
          each = s.grows.each;
          last = λ k c. (let f = candidate-wanted k c in not-both (has f.0) f.2 (none f.0));
        }

    module _ (k : ℕ) (here : has k ≡ true) (bound : (p : ℕ) → has p ≡ true → is_gt (nat_cmp k p) ≡ false) (left : ℕ → Bool)
        (popped : (p : ℕ) → left p ≡ cond (eq_by_cmp nat_cmp k p) false (has p)) (names' : List (List ℕ))
        (added : HaveSameNames names' (names ++ (module_at stock k).exports)) where
      least : (p : ℕ) → has p ≡ true → k ≤ p
      least p h = le_from_not_gt k p (bound p h)

      abbrev m : Parts
      m = module_at stock k

      abbrev picks' : List ℕ
      picks' = picks ++ k ∷ []

      more : with_picks named stock picks' ≡ so_far ++ m ∷ []
      more = ap (λ l. named ++ l) (map-append (module_at stock) picks (k ∷ []))
          ∙ sym (append_assoc named (map (module_at stock) picks) (m ∷ []))

      unnamed : (name : List ℕ) → is_among names' name ≡ false → (is_among names name ≡ false) × (is_among m.exports name ≡ false)
      unnamed name h = neither (is_among names name) (is_among m.exports name)
          (sym (among-append names m.exports name) ∙ sym (added.same name) ∙ h)

      -- the places that are left are those where the names before are found
      still : AreWanted left (missing first names') (imported so_far)
      still = record { all = all; only = only }
        where
          all : (p : ℕ) → Wants (missing first names') (imported so_far) p → left p ≡ true
          all p w = popped p ∙ ap (λ b. cond b false (has p)) (apart (eq_by_cmp nat_cmp k p) refl) ∙ s.wanted.all p before
            where
              is : (is_among names' w.name ≡ false) × (first w.name ≡ Some p)
              is = missing-is first names' w.name p w.at

              before : Wants (missing first names) (imported so_far) p
              before = record { name = w.name; among = w.among; at = missing-from first names w.name p (unnamed w.name is.0).0 is.1 }

              apart : (b : Bool) → eq_by_cmp nat_cmp k p ≡ b → b ≡ false
              apart true e =
                  let there : is_among (module_at stock p).exports w.name
                  ≡ true = (exporter-is stock w.name p (sym (is_first w.name) ∙ is.1)).1 in
                  not-both (is_among m.exports w.name)
                  (subst (λ q. is_among (module_at stock q).exports w.name ≡ true) (sym (tells_apart exact_unsigned k p e)) there)
                  (unnamed w.name is.0).1
              apart false e = refl

          kept : (b c : Bool) → cond b false c ≡ true → (b ≡ false) × (c ≡ true)
          kept true c h = absurd cc
          kept false c h = (refl, h)

          only : (p : ℕ) → left p ≡ true → Wants (missing first names') (imported so_far) p
          only p h = record {
            name = (s.wanted.only p both.1).name;
            among = (s.wanted.only p both.1).among;
            at = missing-from first names'
                (s.wanted.only p both.1).name p (free (is_among m.exports (s.wanted.only p both.1).name) refl) is.1;
          }
            where
              both : (eq_by_cmp nat_cmp k p ≡ false) × (has p ≡ true)
              both = kept (eq_by_cmp nat_cmp k p) (has p) (sym (popped p) ∙ h)

              is : (is_among names (s.wanted.only p both.1).name ≡ false) × (first (s.wanted.only p both.1).name ≡ Some p)
              is = missing-is first names (s.wanted.only p both.1).name p (s.wanted.only p both.1).at

              free : (b : Bool) → is_among m.exports (s.wanted.only p both.1).name ≡ b → is_among names' (s.wanted.only p both.1).name
                  ≡ false
              free true e =
                  let f = exporter-upto stock (s.wanted.only p both.1).name k (wanted-here k here) e in
                  let same : f.0 ≡ p = same_Some f.0 p (sym f.2 ∙ sym (is_first (s.wanted.only p both.1).name) ∙ is.1) in
                  let equal : k ≡ p = omega (arith, f.1, same, least p both.1) in
                  not-both (eq_by_cmp nat_cmp k p) (alike k p equal) both.0
                where
                  alike : (a b : ℕ) → a ≡ b → eq_by_cmp nat_cmp a b ≡ true
                  alike a b e = subst (λ c. eq_by_cmp nat_cmp a c ≡ true) e ((eq_by_cmp_equiv nat_cmp_total).refl a)
              free false e =
                  added.same (s.wanted.only p both.1).name ∙ among-append names m.exports (s.wanted.only p both.1).name
                  ∙ ap (λ b. b || is_among m.exports (s.wanted.only p both.1).name) is.0 ∙ e

      -- one more is picked
      pub picked : (new : ℕ → Bool) → WantsMore left new (missing first names') (import_names m.imports)
          → IsPicking named stock picks' first names' new
      picked new more_wanted =
          record {
            grows = grown named stock picks k s.grows (wanted-next k here least);
            exported = record {
              same = λ q. (same-then names (exported so_far) names' m.exports s.exported added).same q
                  ∙ ap (λ l. is_among l q) (sym (ap exported more ∙ exported-more so_far m));
            };
            wanted =
                subst (AreWanted new (missing first names')) (sym (ap imported more ∙ imported-more so_far m))
                (wanted-more (missing first names') left new (imported so_far) (import_names m.imports) still more_wanted);
          }

      pub one-more : length picks + 1 ≤ length stock
      one-more = let f = few named stock picks' (grown named stock picks k s.grows (wanted-next k here least)) in omega
          (arith, f, length_push picks k)

  -- nothing is picked at first
  pub none-picked : (picks : List ℕ) (names : List (List ℕ)) (has : ℕ → Bool) → picks ≡ [] → HaveSameNames names (exported named)
      → AreWanted has (missing first names) (imported named) → IsPicking named stock picks first names has
  none-picked picks names has e same wanted = subst (λ picks. IsPicking named stock picks first names has) (sym e) (record {
    grows = record { each = λ i h. absurd (omega arith); distinct = none_picked };
    exported = record { same = λ q. same.same q ∙ ap (λ l. is_among (exported l) q) (sym (append-nil named)) };
    wanted = subst (λ l. AreWanted has (missing first names) (imported l)) (sym (append-nil named)) wanted;
  })
