-- Going on over a link, to the next processor, and to the end.
use Rattle.std.proofs.Common.{◌≡◌, ℕ, zero, suc, ◌+◌, ◌*◌, ◌<◌, ◌≤◌, ◌⊎◌, inl, inr, Bool, true, false, List, [], ◌∷◌, ◌++◌, map, length}
use Rattle.std.proofs.Common.{get_or, refl, sym, ◌∙◌, ap, subst, arith}
use Rattle.std.specs.Prelude.{nat_eq, ◌||◌}
use Rattle.std.specs.List.{IsDistinct, list_any}
use Rattle.std.specs.Cmp.{nat_eq_equiv}
use Rattle.std.proofs.lemmas.Bool.{eqb-true, eq-eqb}
use Rattle.std.proofs.lemmas.List.{get_or_append_left, get_or_push, length_push, map-append, length-map}
use Rattle.std.proofs.lemmas.Map.Keys.{IsDistinct-push, apart_from_distinct}
use Rattle.std.proofs.lemmas.Map.Steps.{length-le_from_distinct_below}
use Rattle.tn_net.specs.declared.networks.Far.TheVariants.{Link}
use Rattle.tn_net.specs.declared.paths.Reached.{Reached}
use Rattle.tn_net.specs.Networks.{NetworkState, far_at, IsEnd, IsPairing}
use Rattle.tn_net.specs.Paths.{Leads, IsLess, path_at}
use Rattle.tn_net.specs.Inner.Walks.{step_at, Extends, AreReached}
use Rattle.tn_net.specs.Inner.Visits.{rank_from, rank_at, IsFound, IsVisited}
use Rattle.tn_net.proofs.Ranks.{leads_links, leads_more, rank_more, rank_above, ranked}

-- ---- the processors that were found

pub any_found : (q : ℕ) (order : List Reached) → list_any (λ reached. nat_eq q reached.processor) order ≡ true
    → (k : ℕ) × (k < length order) × ((step_at order k).processor ≡ q)
any_found q [] h = cc
any_found q (x ∷ xs) h = by (λ g. any_found q xs g) (nat_eq q x.processor) refl
  where
    by : (list_any (λ reached. nat_eq q reached.processor) xs ≡ true → (k : ℕ) × (k < length xs) × ((step_at xs k).processor ≡ q))
        → (b : Bool) → nat_eq q x.processor ≡ b → (k : ℕ) × (k < length (x ∷ xs)) × ((step_at (x ∷ xs) k).processor ≡ q)
    by rest_found true is = (0, omega arith, sym (eqb-true q x.processor is))
    by rest_found false is =
        let rest : (k : ℕ) × (k < length xs) × ((step_at xs k).processor ≡ q) = rest_found
        (sym (ap (λ b. b || list_any (λ reached. nat_eq q reached.processor) xs) is) ∙ h) in
        (suc rest.0, omega (arith, rest.1), rest.2)

pub any_processors : (q : ℕ) (order : List Reached) → list_any (nat_eq q) (map (λ reached. reached.processor) order) ≡ list_any
    (λ reached. nat_eq q reached.processor) order
any_processors q [] = refl
any_processors q (x ∷ xs) = ap (λ b. nat_eq q x.processor || b) (any_processors q xs)

pub processor_read : (order : List Reached) (k : ℕ) → get_or (map (λ reached. reached.processor) order) k 0 ≡ (step_at order k).processor
processor_read [] k = refl
processor_read (x ∷ xs) zero = refl
processor_read (x ∷ xs) (suc k) = processor_read xs k

-- a processor was found at one place
pub found_once : (order : List Reached) (j k : ℕ) → IsDistinct nat_eq (map (λ reached. reached.processor) order) → j < length order
    → k < length order → (step_at order j).processor ≡ (step_at order k).processor → j ≡ k
found_once order j k distinct hj hk same =
    let a : j < k → ⊥ = λ h. differ j k h hk same in
    let b : k < j → ⊥ = λ h. differ k j h hj (sym same) in
    omega (arith, a, b)
  where
    differ : (a b : ℕ) → a < b → b < length order → (step_at order a).processor ≡ (step_at order b).processor → ⊥
    differ a b h hb e =
        let apart : nat_eq (get_or (map (λ (reached : Reached). reached.processor) order) a 0)
        (get_or (map (λ (reached : Reached). reached.processor) order) b 0) ≡ false = apart_from_distinct nat_eq
        (map (λ (reached : Reached). reached.processor) order) a b 0 distinct h
        (omega (arith, hb, length-map order (λ (reached : Reached). reached.processor))) in
        let equal : nat_eq (get_or (map (λ (reached : Reached). reached.processor) order) a 0)
        (get_or (map (λ (reached : Reached). reached.processor) order) b 0) ≡ true = eq-eqb _ _
        (processor_read order a ∙ e ∙ sym (processor_read order b)) in
        cc

-- no more were found than there are
pub few_found : (n : NetworkState) (order : List Reached) (i l : ℕ) → IsVisited n order i l → length order ≤ length n.sizes
few_found n order i l v =
    subst (λ c. c ≤ length n.sizes) (length-map order (λ (reached : Reached). reached.processor))
    (length-le_from_distinct_below (map (λ (reached : Reached). reached.processor) order) (length n.sizes) v.distinct below)
  where
    below : (q : ℕ) → list_any (nat_eq q) (map (λ (reached : Reached). reached.processor) order) ≡ true → q < length n.sizes
    below q h =
        let k : (k : ℕ) × (k < length order) × ((step_at order k).processor ≡ q) = any_found q order (sym (any_processors q order) ∙ h) in
        subst (λ p. p < length n.sizes) k.2 (v.processors k.0 k.1)

-- ---- over a link

-- a link was followed that leads to a processor found before, or to none
pub passed : (n : NetworkState) (order : List Reached) (i l : ℕ) (v : IsVisited n order i l) → i < length order
    → ((q b : ℕ) → far_at n (step_at order i).processor l ≡ Link q b → IsFound order v.paths (4 * rank_at v.paths i + l) q)
    → IsVisited n order i (l + 1)
passed n order i l v hi next = record {
  paths = v.paths;
  room = v.room;
  distinct = v.distinct;
  processors = v.processors;
  leads = v.leads;
  rising = v.rising;
  below = λ h k hk. omega (arith, v.below h k hk);
  done = λ j m q b hj hm when is. by j m q b hj hm (split j m when) is;
  root = v.root;
  begins = v.begins;
  first = v.first;
  boot = v.boot;
  no_link = v.no_link;
  extends = v.extends;
}
  where
    split : (j m : ℕ) → (j < i) ⊎ ((j ≡ i) × (m < l + 1)) → ((j < i) ⊎ ((j ≡ i) × (m < l))) ⊎ ((j ≡ i) × (m ≡ l))
    split j m (inl h) = inl (inl h)
    split j m (inr h) = elim (cases m l h.1) [ inl less ↦ inl (inr (h.0, less)) | inr same ↦ inr (h.0, same) ]
      where
        cases : (x y : ℕ) → x < y + 1 → (x < y) ⊎ (x ≡ y)
        cases x y h = grind arith

    by : (j m q b : ℕ) → j < length order → m < 4 → ((j < i) ⊎ ((j ≡ i) × (m < l))) ⊎ ((j ≡ i) × (m ≡ l))
        → far_at n (step_at order j).processor m ≡ Link q b → IsFound order v.paths (4 * rank_at v.paths j + m) q
    by j m q b hj hm (inl before) is = v.done j m q b hj hm before is
    by j m q b hj hm (inr here) is =
        subst (λ x. IsFound order v.paths (4 * rank_at v.paths x + m) q) (sym here.0)
        (subst (λ y. IsFound order v.paths (4 * rank_at v.paths i + y) q) (sym here.1)
        (next q b (ap (λ y. far_at n (step_at order i).processor y) (sym here.1)
        ∙ ap (λ x. far_at n (step_at order x).processor m) (sym here.0) ∙ is)))

-- a link leads to a processor found before
pub passed_found : (n : NetworkState) (order : List Reached) (i l q b : ℕ) → IsVisited n order i l → i < length order
    → far_at n (step_at order i).processor l ≡ Link q b → list_any (λ reached. nat_eq q reached.processor) order ≡ true
    → IsVisited n order i (l + 1)
passed_found n order i l q b v hi is any =
    passed n order i l v hi (λ r c also. let same : r ≡ q = cc in
    subst (λ x. IsFound order v.paths (4 * rank_at v.paths i + l) x) (sym same) found)
  where
    found : IsFound order v.paths (4 * rank_at v.paths i + l) q
    found =
        let k : (k : ℕ) × (k < length order) × ((step_at order k).processor ≡ q) = any_found q order any in
        record { place = k.0; here = k.1; is = k.2; soon = omega (arith, v.below hi k.0 k.1) }

-- ---- one processor more

module _ (n : NetworkState) (order : List Reached) (i l q b : ℕ) (pairing : IsPairing n) (v : IsVisited n order i l)
    (hi : i < length order) (hl : l < 4) (wire : far_at n (step_at order i).processor l ≡ Link q b)
    (new : list_any (λ reached. nat_eq q reached.processor) order ≡ false) where
  abbrev step : Reached
  step = record { processor = q; parent = i; parent_link = l; boot_link = b }

  abbrev path : List ℕ
  path = path_at v.paths i ++ l ∷ []

  abbrev steps : List Reached
  steps = order ++ step ∷ []

  abbrev ways : List (List ℕ)
  ways = v.paths ++ path ∷ []

  old_step : (k : ℕ) → k < length order → step_at steps k ≡ step_at order k
  old_step k h = get_or_append_left order (step ∷ []) _ k h

  old_path : (k : ℕ) → k < length order → path_at ways k ≡ path_at v.paths k
  old_path k h = get_or_append_left v.paths (path ∷ []) [] k (omega (arith, h, v.room))

  new_step : step_at steps (length order) ≡ step
  new_step = get_or_push order step _ (length order) refl

  new_path : path_at ways (length order) ≡ path
  new_path = get_or_push v.paths path [] (length order) v.room

  old_rank : (k : ℕ) → k < length order → rank_at ways k ≡ rank_at v.paths k
  old_rank k h = ap (λ p. rank_from 1 p) (old_path k h)

  new_rank : rank_at ways (length order) ≡ 4 * rank_at v.paths i + l
  new_rank = ap (λ p. rank_from 1 p) new_path ∙ rank_more 1 (path_at v.paths i) l

  count : length steps ≡ length order + 1
  count = length_push order step

  still_found : (r p : ℕ) → IsFound order v.paths r p → IsFound steps ways r p
  still_found r p f =
      record {
        place = f.place;
        here = omega (arith, f.here, count);
        is = ap (λ (s : Reached). s.processor) (old_step f.place f.here)
            ∙ f.is;
        soon = omega (arith, f.soon, old_rank f.place f.here);
      }

  end : IsEnd n q b
  end = pairing.ends (step_at order i).processor l q b (record { processor = v.processors i hi; link = hl }) wire

  old_or_new : (k : ℕ) → k < length steps → (k < length order) ⊎ (k ≡ length order)
  old_or_new k h = cases k (length order) (omega (arith, h, count))
    where
      cases : (x y : ℕ) → x < y + 1 → (x < y) ⊎ (x ≡ y)
      cases x y h = grind arith

  each : (P : ℕ → Type 0) → ((k : ℕ) → k < length order → P k) → P (length order) → (k : ℕ) → k < length steps → P k
  each P olds last k h = elim (old_or_new k h) [ inl old ↦ olds k old | inr same ↦ subst P (sym same) last ]

  is_distinct : IsDistinct nat_eq (map (λ reached. reached.processor) steps)
  is_distinct =
      subst (λ ps. IsDistinct nat_eq ps) (sym (map-append (λ (reached : Reached). reached.processor) order (step ∷ [])))
      (IsDistinct-push nat_eq_equiv (map (λ (reached : Reached). reached.processor) order) q v.distinct (any_processors q order ∙ new))

  are_processors : (k : ℕ) → k < length steps → (step_at steps k).processor < length n.sizes
  are_processors =
      each (λ k. (step_at steps k).processor < length n.sizes)
      (λ k h. subst (λ (s : Reached). s.processor < length n.sizes) (sym (old_step k h)) (v.processors k h))
      (subst (λ (s : Reached). s.processor < length n.sizes) (sym new_step) end.processor)

  all_lead : (k : ℕ) → k < length steps → Leads n n.root (path_at ways k) (step_at steps k).processor
  all_lead = each (λ k. Leads n n.root (path_at ways k) (step_at steps k).processor)
      (λ k h. subst (λ p. Leads n n.root p (step_at steps k).processor) (sym (old_path k h))
      (subst (λ (s : Reached). Leads n n.root (path_at v.paths k) s.processor) (sym (old_step k h)) (v.leads k h)))
      (subst (λ p. Leads n n.root p (step_at steps (length order)).processor) (sym new_path)
      (subst (λ (s : Reached). Leads n n.root path s.processor) (sym new_step)
      (leads_more n n.root (path_at v.paths i) (step_at order i).processor l q b (v.leads i hi) hl wire)))

  all_rise : (j k : ℕ) → j < k → k < length steps → rank_at ways j < rank_at ways k
  all_rise j k h hk = elim (old_or_new k hk) [ inl old ↦ olds old | inr same ↦ last same ]
    where
      olds : k < length order → rank_at ways j < rank_at ways k
      olds old =
          let before : j < length order = omega (arith, h, old) in
          omega (arith, v.rising j k h old, old_rank j before, old_rank k old)

      last : k ≡ length order → rank_at ways j < rank_at ways k
      last same =
          let before : j < length order = omega (arith, h, same) in
          let e : rank_at ways k ≡ rank_at ways (length order) = ap (λ x. rank_at ways x) same in
          omega (arith, v.below hi j before, old_rank j before, new_rank, e)

  all_below : (k : ℕ) → k < length steps → rank_at ways k < 4 * rank_at ways i + (l + 1)
  all_below =
      each (λ k. rank_at ways k < 4 * rank_at ways i + (l + 1)) (λ k h. omega (arith, v.below hi k h, old_rank k h, old_rank i hi))
      (omega (arith, new_rank, old_rank i hi))

  found_new : IsFound steps ways (4 * rank_at v.paths i + l) q
  found_new =
      record {
        place = length order;
        here = omega (arith, count);
        is = ap (λ (s : Reached). s.processor) new_step;
        soon = omega (arith, new_rank);
      }

  all_done : (j m p c : ℕ) → j < length steps → m < 4 → (j < i) ⊎ ((j ≡ i) × (m < l + 1))
      → far_at n (step_at steps j).processor m ≡ Link p c → IsFound steps ways (4 * rank_at ways j + m) p
  all_done j m p c hj hm when is = subst (λ r. IsFound steps ways (4 * r + m) p) (sym (old_rank j before)) (by (split when))
    where
      before : j < length order
      before = early when
        where
          early : (j < i) ⊎ ((j ≡ i) × (m < l + 1)) → j < length order
          early (inl h) = omega (arith, h, hi)
          early (inr h) = omega (arith, h.0, hi)

      was : far_at n (step_at order j).processor m ≡ Link p c
      was = ap (λ (s : Reached). far_at n s.processor m) (sym (old_step j before)) ∙ is

      split : (j < i) ⊎ ((j ≡ i) × (m < l + 1)) → ((j < i) ⊎ ((j ≡ i) × (m < l))) ⊎ ((j ≡ i) × (m ≡ l))
      split (inl h) = inl (inl h)
      split (inr h) = elim (cases m l h.1) [ inl less ↦ inl (inr (h.0, less)) | inr same ↦ inr (h.0, same) ]
        where
          cases : (x y : ℕ) → x < y + 1 → (x < y) ⊎ (x ≡ y)
          cases x y h = grind arith

      by : ((j < i) ⊎ ((j ≡ i) × (m < l))) ⊎ ((j ≡ i) × (m ≡ l)) → IsFound steps ways (4 * rank_at v.paths j + m) p
      by (inl old) = still_found (4 * rank_at v.paths j + m) p (v.done j m p c before hm old was)
      by (inr here) =
          let also : far_at n (step_at order i).processor l ≡ Link p c = ap (λ y. far_at n (step_at order i).processor y) (sym here.1)
          ∙ ap (λ x. far_at n (step_at order x).processor m) (sym here.0) ∙ was in
          let same : q ≡ p = cc in
          subst (λ x. IsFound steps ways (4 * rank_at v.paths x + m) p) (sym here.0)
          (subst (λ y. IsFound steps ways (4 * rank_at v.paths i + y) p) (sym here.1)
          (subst (λ x. IsFound steps ways (4 * rank_at v.paths i + l) x) same found_new))

  old_extends : (k : ℕ) → k < length order → Extends n order v.paths k (step_at order k) → Extends n steps ways k (step_at steps k)
  old_extends k h e = subst (λ s. Extends n steps ways k s) (sym (old_step k h)) (record {
    before = e.before;
    link = e.link;
    wire = ap (λ (s : Reached). far_at n s.processor (step_at order k).parent_link) (old_step (step_at order k).parent parent) ∙ e.wire;
    path = old_path k h ∙ e.path ∙ ap (λ p. p ++ (step_at order k).parent_link ∷ []) (sym (old_path (step_at order k).parent parent));
  })
    where
      parent : (step_at order k).parent < length order
      parent = omega (arith, e.before, h)

  new_extends : Extends n steps ways (length order) (step_at steps (length order))
  new_extends = subst (λ s. Extends n steps ways (length order) s) (sym new_step) (record {
    before = hi;
    link = hl;
    wire = ap (λ (s : Reached). far_at n s.processor l) (old_step i hi) ∙ wire;
    path = new_path ∙ ap (λ p. p ++ l ∷ []) (sym (old_path i hi));
  })

  pub pushed : IsVisited n (order ++ step ∷ []) i (l + 1)
  pushed = record {
    paths = ways;
    room = length_push v.paths path ∙ ap (λ c. c + 1) v.room ∙ sym count;
    distinct = is_distinct;
    processors = are_processors;
    leads = all_lead;
    rising = all_rise;
    below = λ h k hk. all_below k hk;
    done = all_done;
    root = omega (arith, count);
    begins = old_path 0 v.root ∙ v.begins;
    first = ap (λ (s : Reached). s.processor) (old_step 0 v.root) ∙ v.first;
    boot = ap (λ (s : Reached). s.boot_link) (old_step 0 v.root) ∙ v.boot;
    no_link = ap (λ (s : Reached). s.parent_link) (old_step 0 v.root) ∙ v.no_link;
    extends =
        λ k h hk. elim (old_or_new k hk) [
          | inl old ↦ old_extends k old (v.extends k h old)
          | inr same ↦ subst (λ x. Extends n steps ways x (step_at steps x)) (sym same) new_extends
        ];
  }

-- ---- to the next processor, and the end

-- all links of a processor were followed
pub next_processor : (n : NetworkState) (order : List Reached) (i : ℕ) → i < length order → IsVisited n order i 4
    → IsVisited n order (i + 1) 0
next_processor n order i hi v = record {
  paths = v.paths;
  room = v.room;
  distinct = v.distinct;
  processors = v.processors;
  leads = v.leads;
  rising = v.rising;
  below = λ h k hk. omega (arith, v.below hi k hk, v.rising i (i + 1) (omega arith) h);
  done = λ j m q b hj hm when is. v.done j m q b hj hm (split j m hm when) is;
  root = v.root;
  begins = v.begins;
  first = v.first;
  boot = v.boot;
  no_link = v.no_link;
  extends = v.extends;
}
  where
    split : (j m : ℕ) → m < 4 → (j < i + 1) ⊎ ((j ≡ i + 1) × (m < 0)) → (j < i) ⊎ ((j ≡ i) × (m < 4))
    split j m hm (inl h) = elim (cases j i h) [ inl less ↦ inl less | inr same ↦ inr (same, hm) ]
      where
        cases : (x y : ℕ) → x < y + 1 → (x < y) ⊎ (x ≡ y)
        cases x y h = grind arith
    split j m hm (inr h) = absurd (omega (arith, h.1))

pub no_keys : IsDistinct nat_eq []
unfolding IsDistinct
no_keys = tt

pub one_key : (q : ℕ) → IsDistinct nat_eq (q ∷ [])
one_key q = IsDistinct-push nat_eq_equiv [] q no_keys refl

-- the root alone
pub root_alone : (n : NetworkState) → IsPairing n → IsVisited n
    (record { processor = n.root; parent = 0; parent_link = 0; boot_link = n.root_link } ∷ []) 0 0
root_alone n pairing = record {
  paths = [] ∷ [];
  room = refl;
  distinct = one_key n.root;
  processors =
      λ k h. subst (λ x. (step_at (record { processor = n.root; parent = 0; parent_link = 0; boot_link = n.root_link } ∷ []) x).processor
      < length n.sizes) (none k h) pairing.root.processor;
  leads =
      λ k h. subst (λ x. Leads n n.root (path_at ([] ∷ []) x)
      (step_at (record { processor = n.root; parent = 0; parent_link = 0; boot_link = n.root_link } ∷ []) x).processor) (none k h) refl;
  rising = λ j k h hk. absurd (omega (arith, h, hk));
  below = λ h k hk. subst (λ x. rank_at ([] ∷ []) x < 4 * rank_at ([] ∷ []) 0 + 0) (none k hk) (omega arith);
  done = λ j m q b hj hm when is. absurd (never j m when);
  root = omega arith;
  begins = refl;
  first = refl;
  boot = refl;
  no_link = refl;
  extends = λ k h hk. absurd (omega (arith, h, hk));
}
  where
    none : (k : ℕ) → k < 1 → 0 ≡ k
    none k h = omega (arith, h)

    never : (j m : ℕ) → (j < 0) ⊎ ((j ≡ 0) × (m < 0)) → ⊥
    never j m (inl h) = omega (arith, h)
    never j m (inr h) = omega (arith, h.1)

-- a list of links leads to a processor that was found, by a path of at most its rank
pub found_from : (n : NetworkState) (order : List Reached) (i : ℕ) (v : IsVisited n order i 0) → length order ≤ i
    → (ls : List ℕ) (j q : ℕ) → j < length order → Leads n (step_at order j).processor ls q
    → IsFound order v.paths (rank_from (rank_at v.paths j) ls) q
found_from n order i v all [] j q hj h = record { place = j; here = hj; is = h; soon = omega arith }
found_from n order i v all (l ∷ ls) j q hj h =
    let first : IsFound order v.paths (4 * rank_at v.paths j + l) h.0 = v.done j l h.0 h.1 hj h.2 (inl (omega (arith, hj, all))) h.3 in
    let rest : IsFound order v.paths (rank_from
    (rank_at v.paths first.place) ls) q = found_from n order i v all ls first.place q first.here
    (subst (λ p. Leads n p ls q) (sym first.is) h.4) in
    record {
      place = rest.place;
      here = rest.here;
      is = rest.is;
      soon = omega (arith, rest.soon, rank_above (rank_at v.paths first.place) (4 * rank_at v.paths j + l) ls first.soon);
    }

-- a list of links from the root
pub found_by : (n : NetworkState) (order : List Reached) (i : ℕ) (v : IsVisited n order i 0) → length order ≤ i → (ls : List ℕ) (q : ℕ)
    → Leads n n.root ls q → IsFound order v.paths (rank_from 1 ls) q
found_by n order i v all ls q h =
    let found : IsFound order v.paths (rank_from (rank_at v.paths 0) ls) q = found_from n order i v all ls 0 q v.root
    (subst (λ p. Leads n p ls q) (sym v.first) h) in
    subst (λ c. IsFound order v.paths (rank_from c ls) q) (ap (λ p. rank_from 1 p) v.begins) found

-- all were followed
pub all_reached : (n : NetworkState) (order : List Reached) (i : ℕ) → IsVisited n order i 0 → length order ≤ i → AreReached n order
all_reached n order i v all = record {
  paths = v.paths;
  room = v.room;
  path = λ k h. record { leads = v.leads k h; least = least k h };
  rising = rising;
  all = λ q path h. let f : IsFound order v.paths (rank_from 1 path) q = found_by n order i v all path q h in (f.place, f.here, f.is);
  root = v.root;
  boot = v.boot;
  no_link = v.no_link;
  extends = v.extends;
}
  where
    least : (k : ℕ) → k < length order → (other : List ℕ) → Leads n n.root other (step_at order k).processor
        → IsLess (path_at v.paths k) other ⊎ (path_at v.paths k ≡ other)
    least k h other leads =
        let f : IsFound order v.paths (rank_from 1 other) (step_at order k).processor = found_by n order i v all other
        (step_at order k).processor leads in
        let same : f.place ≡ k = found_once order f.place k v.distinct f.here h f.is in
        ranked (path_at v.paths k) other (leads_links n n.root (path_at v.paths k) (step_at order k).processor (v.leads k h))
        (leads_links n n.root other (step_at order k).processor leads) (subst (λ x. rank_at v.paths x ≤ rank_from 1 other) same f.soon)

    rising : (j k : ℕ) → j < k → k < length order → IsLess (path_at v.paths j) (path_at v.paths k)
    rising j k h hk =
        elim (ranked (path_at v.paths j) (path_at v.paths k)
        (leads_links n n.root (path_at v.paths j) (step_at order j).processor (v.leads j hj))
        (leads_links n n.root (path_at v.paths k) (step_at order k).processor (v.leads k hk))
        (omega (arith, v.rising j k h hk))) [
          | inl less ↦ less
          | inr same ↦ absurd (omega (arith, v.rising j k h hk, ap (λ p. rank_from 1 p) same))
        ]
      where
        hj : j < length order
        hj = omega (arith, h, hk)
