-- One step more in load order.
use Rattle.std.proofs.Common.{◌≡◌, ℕ, ◌+◌, ◌-◌, ◌<◌, ◌≤◌, ◌⊎◌, inl, inr, List, [], ◌∷◌, ◌++◌, length, refl, sym, ◌∙◌, ap, subst, arith}
use Rattle.std.specs.List.{insert}
use Rattle.std.proofs.lemmas.List.{length_push}
use Rattle.std.proofs.lemmas.List.Edits.{length-insert, get_or-insert_below, get_or-insert_at, get_or-insert_above}
use Rattle.tn_net.specs.declared.paths.Reached.{Reached}
use Rattle.tn_net.specs.Paths.{IsLess, path_at}
use Rattle.tn_net.specs.Inner.Walks.{step_at}
use Rattle.tn_net.specs.Trees.{PrecedesInDictionary}
use Rattle.tn_net.specs.Inner.Loads.{ArePaths, place_at, HasEachPlace, AreRising, IsInLoadOrder, IsFamily, EndsAt}
use Rattle.tn_net.proofs.Dictionary.{stands_trans, more_after, sibling_before, less_links, less_self, less_length, without_last, beyond}

cases_at : (x y : ℕ) → (x < y) ⊎ ((x ≡ y) ⊎ (y < x))
cases_at x y = grind arith

cases_below : (x y : ℕ) → x < y + 1 → (x < y) ⊎ (x ≡ y)
cases_below x y h = grind arith

-- a path is at one place
pub path_once : (order : List Reached) (paths : List (List ℕ)) → ArePaths order paths → (a b : ℕ) → a < length order → b < length order
    → path_at paths a ≡ path_at paths b → a ≡ b
path_once order paths v a b ha hb e =
    elim (cases_at a b) [
      | inl less ↦ absurd (less_self (path_at paths b)
          (subst (λ p. IsLess p (path_at paths b)) e (v.rising a b less hb)))
      | inr rest ↦ elim rest [
        | inl same ↦ same
        | inr more ↦ absurd
            (less_self (path_at paths a) (subst (λ p. IsLess p (path_at paths a)) (sym e) (v.rising b a more ha)))
      ]
    ]

module _ (order : List Reached) (load : List ℕ) (k : ℕ) (hk : 0 < k) (h : k < length order) (w : HasEachPlace load k)
    (parent_before : (step_at order k).parent < k) (end : ℕ) (ends : EndsAt order load (step_at order k).parent (length load) end) where
  abbrev parent : ℕ
  parent = (step_at order k).parent

  abbrev grown : List ℕ
  grown = insert load end k

  stands : (t : ℕ) × (t < length load) × (place_at load t ≡ parent)
  stands = w.all parent parent_before

  cases_from : (x y : ℕ) → (x < y) ⊎ (y ≤ x)
  cases_from x y = grind arith

  parent_first : stands.0 < end
  parent_first = elim (cases_from stands.0 end) [ inl less ↦ less | inr rest ↦ absurd (ends.rest stands.0 rest stands.1 (inl stands.2)) ]

  count : length grown ≡ length load + 1
  count = length-insert load end k ends.bound

  read_below : (t : ℕ) → t < end → place_at grown t ≡ place_at load t
  read_below t ht = get_or-insert_below load end k 0 t ht ends.bound

  read_at : (t : ℕ) → t ≡ end → place_at grown t ≡ k
  read_at t e = ap (λ x. place_at grown x) e ∙ get_or-insert_at load end k 0 ends.bound

  read_above : (t : ℕ) → end < t → place_at grown t ≡ place_at load (t - 1)
  read_above t ht =
      let e : t ≡ (t - 1) + 1 = omega (arith, ht) in
      ap (λ x. place_at grown x) e ∙ get_or-insert_above load end k 0 (t - 1) (omega (arith, ht)) ends.bound

  pub grown_whole : HasEachPlace grown (k + 1)
  grown_whole = record {
    room = omega (arith, count, w.room);
    places = places;
    all = all;
    first = read_below 0 (omega (arith, parent_first)) ∙ w.first;
  }
    where
      places : (t : ℕ) → t < length grown → place_at grown t < k + 1
      places t ht =
          elim (cases_at t end) [
            | inl less ↦ omega (arith, read_below t less, w.places t (omega (arith, less, ends.bound)))
            | inr rest ↦ elim rest [
              | inl same ↦ omega (arith, read_at t same)
              | inr more ↦ omega (arith, read_above t more, w.places (t - 1) (omega (arith, ht, count, more)))
            ]
          ]

      old : (j : ℕ) → (t : ℕ) → t < length load → place_at load t ≡ j → (s : ℕ) × (s < length grown) × (place_at grown s ≡ j)
      old j t ht is =
          elim (cases_from t end) [
            | inl less ↦ (t, omega (arith, ht, count), read_below t less ∙ is)
            | inr rest ↦ (t + 1, omega (arith, ht, count), get_or-insert_above load end k 0 t rest ends.bound ∙ is)
          ]

      all : (j : ℕ) → j < k + 1 → (t : ℕ) × (t < length grown) × (place_at grown t ≡ j)
      all j hj =
          elim (cases_below j k hj) [
            | inl less ↦ let t : (t : ℕ) × (t < length load) × (place_at load t ≡ j) = w.all j less in
                old j t.0 t.1 t.2
            | inr same ↦ (end, omega (arith, count, ends.bound), read_at end refl ∙ sym same)
          ]

  module _ (paths : List (List ℕ)) (v : ArePaths order paths) (r : AreRising paths load) where
    abbrev path : ℕ → List ℕ
    path j = path_at paths j

    abbrev link : ℕ
    link = (step_at order k).parent_link

    mine : path k ≡ path parent ++ link ∷ []
    mine = v.path k hk h

    last_place : place_at load (end - 1) < k
    last_place = w.places (end - 1) (omega (arith, parent_first, ends.bound))

    last_before : PrecedesInDictionary (path (place_at load (end - 1))) (path k)
    last_before =
        subst (λ p. PrecedesInDictionary (path (place_at load (end - 1))) p) (sym mine)
        (by (place_at load (end - 1)) last_place (ends.last (omega (arith, parent_first))))
      where
        by : (f : ℕ) → f < k → IsFamily order parent f → PrecedesInDictionary (path f) (path parent ++ link ∷ [])
        by f hf (inl same) =
            subst (λ x. PrecedesInDictionary (path x) (path parent ++ link ∷ [])) (sym same) (more_after (path parent) link)
        by f hf (inr child) =
            let e : path f ≡ path parent ++ (step_at order f).parent_link ∷ [] = v.path f child.0 (omega (arith, hf, h))
            ∙ ap (λ x. path x ++ (step_at order f).parent_link ∷ []) child.1 in
            let less : IsLess (path parent ++ (step_at order f).parent_link ∷ []) (path parent ++ link ∷ []) = subst
            (λ p. IsLess p (path parent ++ link ∷ [])) e (subst (λ p. IsLess (path f) p) mine (v.rising f k hf h)) in
            subst (λ p. PrecedesInDictionary p (path parent ++ link ∷ [])) (sym e)
            (sibling_before (path parent) (step_at order f).parent_link link
            (less_links (path parent) (step_at order f).parent_link link less))

    before : (t : ℕ) → t < end → PrecedesInDictionary (path (place_at load t)) (path k)
    before t ht =
        elim (cases_at t (end - 1)) [
          | inl less ↦ stands_trans (path (place_at load t)) (path (place_at load (end - 1))) (path k)
              (r t (end - 1) less (omega (arith, ends.bound, parent_first))) last_before
          | inr rest ↦ elim rest [
            | inl same ↦ subst (λ x. PrecedesInDictionary (path (place_at load x)) (path k)) (sym same) last_before
            | inr more ↦ absurd (omega (arith, more, ht))
          ]
        ]

    after : (t : ℕ) → end ≤ t → t < length load → PrecedesInDictionary (path k) (path (place_at load t))
    after t from ht =
        subst (λ p. PrecedesInDictionary p (path (place_at load t))) (sym mine)
        (beyond (path parent) (path (place_at load t)) link behind few (none (place_at load t) place refl))
      where
        place : place_at load t < k
        place = w.places t ht

        behind : PrecedesInDictionary (path parent) (path (place_at load t))
        behind =
            subst (λ x. PrecedesInDictionary (path x) (path (place_at load t))) stands.2
            (r stands.0 t (omega (arith, parent_first, from)) ht)

        few : length (path (place_at load t)) ≤ length (path parent) + 1
        few =
            omega (
              arith,
              less_length (path (place_at load t)) (path k) (v.rising (place_at load t) k place h),
              ap length mine,
              length_push (path parent) link,
            )

        none : (j : ℕ) → j < k → place_at load t ≡ j → (m : ℕ) → path j ≡ path parent ++ m ∷ [] → ⊥
        none j hj is m e =
            elim (cases_at 0 j) [
              | inl more ↦ child more
              | inr rest ↦ elim rest [ inl zero_is ↦ root zero_is | inr bad ↦ omega (arith, bad) ]
            ]
          where
            root : 0 ≡ j → ⊥
            root z = omega (arith, ap length (sym v.begins ∙ ap path z ∙ e), length_push (path parent) m)

            child : 0 < j → ⊥
            child more =
                let hj2 : j < length order = omega (arith, hj, h) in
                let same : path (step_at order j).parent ≡ path parent = without_last (path (step_at order j).parent) (path parent)
                (step_at order j).parent_link m (sym (v.path j more hj2) ∙ e) in
                let once : (step_at order j).parent ≡ parent = path_once order paths v (step_at order j).parent parent
                (omega (arith, v.before j more hj2, hj2)) (omega (arith, parent_before, h)) same in
                ends.rest t from ht (subst (λ x. IsFamily order parent x) (sym is) (inr (more, once)))

    pub grown_rising : AreRising paths grown
    grown_rising s t less ht =
        elim (cases_at t end) [
          | inl below ↦ both s t (place_at load s) (place_at load t) (read_below s (omega (arith, less, below)))
              (read_below t below) (r s t less (omega (arith, below, ends.bound)))
          | inr rest ↦ elim rest [ inl same ↦ at_end same | inr above ↦ beyond_end above ]
        ]
      where
        both : (s t a b : ℕ) → place_at grown s ≡ a → place_at grown t ≡ b → PrecedesInDictionary (path a) (path b)
            → PrecedesInDictionary (path (place_at grown s)) (path (place_at grown t))
        both s t a b e f g =
            subst (λ x. PrecedesInDictionary (path x) (path (place_at grown t))) (sym e)
            (subst (λ x. PrecedesInDictionary (path a) (path x)) (sym f) g)

        at_end : t ≡ end → PrecedesInDictionary (path (place_at grown s)) (path (place_at grown t))
        at_end same =
            both s t (place_at load s) k (read_below s (omega (arith, less, same))) (read_at t same) (before s (omega (arith, less, same)))

        beyond_end : end < t → PrecedesInDictionary (path (place_at grown s)) (path (place_at grown t))
        beyond_end above =
            elim (cases_at s end) [
              | inl below ↦ both s t (place_at load s) (place_at load (t - 1)) (read_below s below)
                  (read_above t above) (r s (t - 1) (omega (arith, below, above)) inside)
              | inr rest ↦ elim rest [
                | inl same ↦ both s t k (place_at load (t - 1)) (read_at s same) (read_above t above)
                    (after (t - 1) (omega (arith, above)) inside)
                | inr more ↦ both s t (place_at load (s - 1)) (place_at load (t - 1))
                    (read_above s more) (read_above t above) (r (s - 1) (t - 1) (omega (arith, more, less)) inside)
              ]
            ]
          where
            inside : t - 1 < length load
            inside = omega (arith, ht, count, above)

-- one step more
pub one_more : (order : List Reached) (load : List ℕ) (k : ℕ) → 0 < k → k < length order → IsInLoadOrder order load k
    → (step_at order k).parent < k → (end : ℕ) → EndsAt order load (step_at order k).parent (length load) end
    → IsInLoadOrder order (insert load end k) (k + 1)
one_more order load k hk h l parent_before end ends = record {
  whole = grown_whole order load k hk h l.whole parent_before end ends;
  rising = λ paths v. grown_rising order load k hk h l.whole parent_before end ends paths v (l.rising paths v);
}

-- the first alone
pub alone : (order : List Reached) → IsInLoadOrder order (0 ∷ []) 1
alone order = record {
  whole =
      record {
        room = refl;
        places = λ t h. subst (λ x. place_at (0 ∷ []) x < 1) (none t h) (omega arith);
        all = λ j h. (0, omega arith, none j h);
        first = refl;
      };
  rising = λ paths v s t less h. absurd (omega (arith, less, h));
}
  where
    none : (t : ℕ) → t < 1 → 0 ≡ t
    none t h = omega (arith, h)
