-- Exactly one list of modules is chosen.
use Rattle.std.proofs.Common.{◌≡◌, ℕ, zero, suc, ◌+◌, ◌<◌, ◌≤◌, ◌⊎◌, inl, inr, Bool, true, false, not, ◌&&◌, ◌||◌, List, [], ◌∷◌, ◌++◌}
use Rattle.std.proofs.Common.{length, get_or, take, refl, sym, ap, ◌∙◌, subst, arith}
use Rattle.std.specs.Prelude.{nat_eq, slice_index}
use Rattle.std.specs.List.{IsDistinct, list_any}
use Rattle.std.specs.Cmp.{nat_eq_equiv}
use Rattle.std.proofs.lemmas.Bool.{cases_lt, eqb-true}
use Rattle.std.proofs.lemmas.List.{get_or_append_left, get_or_push, length_push, take-append-le, take_at, take_all, take_more}
use Rattle.std.proofs.lemmas.List.{take_more_same}
use Rattle.std.proofs.lemmas.Map.Keys.{IsDistinct-push}
use Rattle.std.proofs.lemmas.Map.Steps.{length-le_from_distinct_below}
use Rattle.tn_module.specs.Modules.{Parts}
use Rattle.tn_symbols.specs.Choices.{is_wanted, module_at, with_picks, IsCandidate, IsNext, IsChosen, OneIsChosen}

pub none_picked : IsDistinct nat_eq []
unfolding IsDistinct
none_picked = tt

picked_at : (q : ℕ) (xs : List ℕ) → list_any (nat_eq q) xs ≡ true → (k : ℕ) × (k < length xs) × (slice_index xs k ≡ q)
picked_at q [] h = absurd cc
picked_at q (x ∷ xs) h = by (λ g. picked_at q xs g) (nat_eq q x) refl
  where
    by : (list_any (nat_eq q) xs ≡ true → (k : ℕ) × (k < length xs) × (slice_index xs k ≡ q)) → (b : Bool) → nat_eq q x ≡ b → (k : ℕ)
        × (k < length (x ∷ xs)) × (slice_index (x ∷ xs) k ≡ q)
    by later true is = (0, omega arith, sym (eqb-true q x is))
    by later false is =
        let rest : (k : ℕ) × (k < length xs) × (slice_index xs k ≡ q) = later (sym (ap (λ b. b || list_any (nat_eq q) xs) is) ∙ h) in
        (suc rest.0, omega (arith, rest.1), rest.2)

both : (b w : Bool) → not b && w ≡ true → (b ≡ false) × (w ≡ true)
both false w h = (refl, h)
both true w h = absurd cc

neither : (b w : Bool) → not b && w ≡ false → b ≡ false → w ≡ true → ⊥
neither false w h e f = let c : true ≡ false = sym f ∙ h in cc
neither true w h e f = cc

-- the first number below a bound that passes a test

first_below : (t : ℕ → Bool) (n : ℕ) → ((k : ℕ) × (k < n) × (t k ≡ true) × ((j : ℕ) → j < k → t j ≡ false))
    ⊎ ((k : ℕ) → k < n → t k ≡ false)
first_below t zero = inr (λ k h. absurd (omega arith))
first_below t (suc n) = elim (first_below t n) [ inl f ↦ inl (f.0, omega (arith, f.1), f.2, f.3) | inr none ↦ here none (t n) refl ]
  where
    here : ((k : ℕ) → k < n → t k ≡ false) → (b : Bool) → t n ≡ b
        → ((k : ℕ) × (k < suc n) × (t k ≡ true) × ((j : ℕ) → j < k → t j ≡ false)) ⊎ ((k : ℕ) → k < suc n → t k ≡ false)
    here none true e = inl (n, omega arith, e, none)
    here none false e = inr (λ k h. elim (cases_lt k n) [ inl l ↦ none k l | inr over ↦ (let is : k ≡ n = omega arith in ap t is ∙ e) ])

module _ (named stock : List Parts) where
  -- one module at most is next
  next_same : (picks : List ℕ) (j k : ℕ) → IsNext named stock picks j → IsNext named stock picks k → j ≡ k
  next_same picks j k a b =
      let x : j < k → ⊥ = λ h. b.first j h a.candidate in
      let y : k < j → ⊥ = λ h. a.first k h b.candidate in
      omega (arith, x, y)

  -- two chosen lists have the same beginnings
  fronts : (p q : List ℕ) → IsChosen named stock p → IsChosen named stock q → (n : ℕ) → n ≤ length p → n ≤ length q → take n p ≡ take n q
  fronts p q a b zero h k = refl
  fronts p q a b (suc n) h k =
      let so_far : take n p ≡ take n q = fronts p q a b n (omega arith) (omega arith) in
      let mine : IsNext named stock (take n q) (get_or p n 0) = subst (λ t. IsNext named stock t (get_or p n 0)) so_far
      (a.each n (omega arith)) in
      let e : get_or p n 0 ≡ get_or q n 0 = next_same (take n q) (get_or p n 0) (get_or q n 0) mine (b.each n (omega arith)) in
      let is : n + 1 ≡ suc n = omega arith in
      subst (λ m. take m p ≡ take m q) is (take_more_same p q n 0 (omega arith) (omega arith) so_far e)

  no_longer : (p q : List ℕ) → IsChosen named stock p → IsChosen named stock q → length p < length q → ⊥
  no_longer p q a b h =
      let whole : p ≡ take (length p) q = sym (take_all (length p) p (omega arith))
      ∙ fronts p q a b (length p) (omega arith) (omega arith) in
      a.last (get_or q (length p) 0) (subst (λ t. IsCandidate named stock t (get_or q (length p) 0)) (sym whole)
      (b.each (length p) h).candidate)

  same_chosen : (p q : List ℕ) → IsChosen named stock p → IsChosen named stock q → p ≡ q
  same_chosen p q a b =
      let x : length p < length q → ⊥ = no_longer p q a b in
      let y : length q < length p → ⊥ = no_longer q p b a in
      sym (take_all (length p) p (omega arith)) ∙ fronts p q a b (length p) (omega arith) (omega (arith, x, y))
      ∙ take_all (length p) q (omega (arith, x, y))

  -- what is kept while modules are picked
  pub record Grows (picks : List ℕ) : Type 0 where
    pub each : (i : ℕ) → i < length picks → IsNext named stock (take i picks) (slice_index picks i)
    pub distinct : IsDistinct nat_eq picks

  -- no more are picked than there are
  pub few : (picks : List ℕ) → Grows picks → length picks ≤ length stock
  few picks g = length-le_from_distinct_below picks (length stock) g.distinct
      (λ q h. let f : (k : ℕ) × (k < length picks) × (slice_index picks k ≡ q) = picked_at q picks h in subst (λ p. p < length stock) f.2
      (g.each f.0 f.1).candidate.here)

  pub grown : (picks : List ℕ) (k : ℕ) → Grows picks → IsNext named stock picks k → Grows (picks ++ k ∷ [])
  grown picks k g next = record { each = each; distinct = IsDistinct-push nat_eq_equiv picks k g.distinct next.candidate.new }
    where
      each : (i : ℕ) → i < length (picks ++ k ∷ []) → IsNext named stock (take i (picks ++ k ∷ [])) (get_or (picks ++ k ∷ []) i 0)
      each i h = elim (cases_lt i (length picks)) [
        | inl l ↦
            (let t : take i (picks ++ k ∷ []) ≡ take i picks = take-append-le i picks (k ∷ []) (omega arith) in
            let e : get_or (picks ++ k ∷ []) i 0 ≡ get_or picks i 0 = get_or_append_left picks (k ∷ []) 0 i l in
            subst (λ s. IsNext named stock s (get_or (picks ++ k ∷ []) i 0)) (sym t)
            (subst (λ j. IsNext named stock (take i picks) j) (sym e) (g.each i l)))
        | inr over ↦
            (let is : length picks ≡ i = omega (arith, length_push picks k) in
            let t : take i (picks ++ k ∷ []) ≡ picks = take_at picks (k ∷ []) i is in
            let e : get_or (picks ++ k ∷ []) i 0 ≡ k = get_or_push picks k 0 i is in
            subst (λ s. IsNext named stock s (get_or (picks ++ k ∷ []) i 0)) (sym t) (subst (λ j. IsNext named stock picks j) (sym e) next))
      ]

  passed : (picks : List ℕ) (k : ℕ) → k < length stock → not (list_any (nat_eq k) picks) && is_wanted (with_picks named stock picks)
      (module_at stock k) ≡ true → IsCandidate named stock picks k
  passed picks k h e = let b = both (list_any (nat_eq k) picks) (is_wanted (with_picks named stock picks) (module_at stock k)) e in record
      { here = h; new = b.0; wanted = b.1 }

  failed : (picks : List ℕ) (k : ℕ) → not (list_any (nat_eq k) picks) && is_wanted (with_picks named stock picks) (module_at stock k)
      ≡ false → IsCandidate named stock picks k → ⊥
  failed picks k e c = neither (list_any (nat_eq k) picks) (is_wanted (with_picks named stock picks) (module_at stock k)) e c.new c.wanted

  -- picking ends
  pick_all : (fuel : ℕ) (picks : List ℕ) → Grows picks → length stock < length picks + fuel → (all : List ℕ) × IsChosen named stock all
  pick_all zero picks g h = absurd (omega (arith, few picks g))
  pick_all (suc fuel) picks g h = elim (first_below (λ k. not (list_any (nat_eq k) picks) && is_wanted (with_picks named stock picks)
      (module_at stock k)) (length stock)) [
        | inl f ↦ pick_all fuel (picks ++ f.0 ∷ []) (grown picks f.0 g
            (record { candidate = passed picks f.0 f.1 f.2; first = λ j l c. failed picks j (f.3 j l) c }))
            (omega (arith, length_push picks f.0))
        | inr none ↦ (picks, record { each = g.each; last = λ k c. failed picks k (none k c.here) c })
      ]

  pub one_is_chosen : OneIsChosen named stock
  one_is_chosen =
      let made : (all : List ℕ) × IsChosen named stock all = pick_all (length stock + 1) []
      (record { each = λ i h. absurd (omega arith); distinct = none_picked }) (omega arith) in
      record { picks = made.0; chosen = made.1; only = λ others c. same_chosen others made.0 c made.1 }

  -- the picks of a choice are as few
  pub chosen-few : (picks : List ℕ) → IsChosen named stock picks → length picks ≤ length stock
  chosen-few picks c =
      few picks (record {
        each = c.each;
        distinct = subst (IsDistinct nat_eq) (take_all (length picks) picks (omega arith))
            (distinct (length picks) (omega arith));
      })
    where
      distinct : (n : ℕ) → n ≤ length picks → IsDistinct nat_eq (take n picks)
      distinct zero h = none_picked
      distinct (suc n) h =
          let is : n + 1 ≡ suc n = omega arith in
          subst (λ m. IsDistinct nat_eq (take m picks)) is
          (subst (IsDistinct nat_eq) (sym (take_more picks n 0 (omega arith)))
          (IsDistinct-push nat_eq_equiv (take n picks) (get_or picks n 0) (distinct n (omega arith))
          (c.each n (omega arith)).candidate.new))
