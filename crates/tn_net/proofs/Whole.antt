-- A load tree is a whole tree.
use Rattle.std.proofs.Common.{◌≡◌, ℕ, ◌<◌, ◌≤◌, ◌⊎◌, inl, inr, List, [], ◌∷◌, ◌++◌, length, sym, ◌∙◌, ap, subst, arith, Some, None}
use Rattle.tn_net.specs.Networks.{NetworkState, IsEnd, IsPairing}
use Rattle.tn_net.specs.Paths.{Leads, path_at}
use Rattle.tn_net.specs.Trees.{LoadNode, node_at, PrecedesInDictionary, HangsBelow, IsLoadTree}
use Rattle.tn_net.specs.WholeTrees.{IsBelow, IsPlaced, IsWholeTree}
use Rattle.tn_net.proofs.Dictionary.{stands_trans, stands_self, more_after}
use Rattle.tn_net.proofs.Growing.{node_once}

-- a list that extends another doesn't stand between that one's extensions by a lower list and itself
no_crossing : (f a t : List ℕ) (l : ℕ) → PrecedesInDictionary f a → PrecedesInDictionary a (f ++ l ∷ [])
    → PrecedesInDictionary (f ++ l ∷ []) (a ++ t) → ⊥
no_crossing [] [] t l p q r = absurd p
no_crossing [] (x ∷ a) t l p (inl less) (inl more) = omega (arith, less, more)
no_crossing [] (x ∷ a) t l p (inl less) (inr same) = omega (arith, less, same.0)
no_crossing [] (x ∷ []) t l p (inr same) r = absurd same.1
no_crossing [] (x ∷ (y ∷ a)) t l p (inr same) r = absurd same.1
no_crossing (y ∷ f) [] t l p q r = absurd p
no_crossing (y ∷ f) (x ∷ a) t l (inl p) (inl q) r = omega (arith, p, q)
no_crossing (y ∷ f) (x ∷ a) t l (inl p) (inr q) r = omega (arith, p, q.0)
no_crossing (y ∷ f) (x ∷ a) t l (inr p) (inl q) r = omega (arith, p.0, q)
no_crossing (y ∷ f) (x ∷ a) t l (inr p) (inr q) (inl r) = omega (arith, p.0, r)
no_crossing (y ∷ f) (x ∷ a) t l (inr p) (inr q) (inr r) = no_crossing f a t l p.1 q.1 r.1

-- of two lists that extend one by a link, the first has the lower link
lower_link : (p : List ℕ) (m l : ℕ) → PrecedesInDictionary (p ++ m ∷ []) (p ++ l ∷ []) → m < l
lower_link [] m l (inl less) = less
lower_link [] m l (inr same) = absurd same.1
lower_link (x ∷ p) m l (inl less) = absurd (omega (arith, less))
lower_link (x ∷ p) m l (inr same) = lower_link p m l same.1

-- links lead to processors of the network alone
led_inside : (n : NetworkState) → IsPairing n → (p : ℕ) → p < length n.sizes → (ls : List ℕ) (q : ℕ) → Leads n p ls q → q < length n.sizes
led_inside n w p h [] q is = subst (λ x. x < length n.sizes) is h
led_inside n w p h (l ∷ ls) q leads =
    led_inside n w leads.0 (w.ends p l leads.0 leads.1 (record { processor = h; link = leads.2 }) leads.3).processor ls q leads.4

same_place : (a b : ℕ) → Some a ≡ Some b → a ≡ b
same_place a b e = cc

cases_at : (x y : ℕ) → (x < y) ⊎ ((x ≡ y) ⊎ (y < x))
cases_at x y = grind arith

cases_first : (x : ℕ) → (x ≡ 0) ⊎ (0 < x)
cases_first x = grind arith

module _ (n : NetworkState) (w : IsPairing n) (nodes : List LoadNode) (few : length nodes ≤ 64) (t : IsLoadTree n nodes) where
  abbrev path : ℕ → List ℕ
  path k = path_at t.paths k

  processor_inside : (k : ℕ) → k < length nodes → (node_at nodes k).processor < length n.sizes
  processor_inside k h = led_inside n w n.root w.root.processor (path k) (node_at nodes k).processor (t.path k h).leads

  -- a node other than the first, with its parent
  hung : (k q : ℕ) → k < length nodes → (node_at nodes k).parent ≡ Some q → HangsBelow n nodes t.paths k (node_at nodes k)
  hung k q h is = elim (cases_first k) [ inl first ↦ absurd (orphan first) | inr more ↦ t.below k more h ]
    where
      orphan : k ≡ 0 → ⊥
      orphan e = let none : (node_at nodes k).parent ≡ None = ap (λ x. (node_at nodes x).parent) e ∙ t.top in cc

  extended : (k q : ℕ) → k < length nodes → (node_at nodes k).parent ≡ Some q
      → (q < length nodes) × (path k ≡ path q ++ (node_at nodes k).parent_link ∷ [])
  extended k q h is =
      let x = hung k q h is in
      let same : x.place ≡ q = same_place x.place q (sym x.parent ∙ is) in
      (subst (λ p. p < length nodes) same x.here, x.path ∙ ap (λ p. path p ++ (node_at nodes k).parent_link ∷ []) same)

  parent_before : (k q : ℕ) → k < length nodes → (node_at nodes k).parent ≡ Some q → q < k
  parent_before k q h is =
      elim (cases_at q k) [
        | inl less ↦ less
        | inr rest ↦ elim rest [
          | inl same ↦ absurd
              (stands_self (path q) (subst (λ x. PrecedesInDictionary (path q) (path x)) (sym same) after))
          | inr more ↦ absurd (stands_self (path q) (stands_trans (path q) (path k) (path q) after (t.order k q more x.0)))
        ]
      ]
    where
      x : (q < length nodes) × (path k ≡ path q ++ (node_at nodes k).parent_link ∷ [])
      x = extended k q h is

      after : PrecedesInDictionary (path q) (path k)
      after = subst (λ p. PrecedesInDictionary (path q) p) (sym x.1) (more_after (path q) (node_at nodes k).parent_link)

  between : (k p : ℕ) → k < length nodes → (node_at nodes k).parent ≡ Some p → (j q : ℕ) → p < j → j < k
      → (node_at nodes j).parent ≡ Some q → p ≤ q
  between k p h is j q low high mine = elim (cases_at q p) [ inl less ↦ absurd (crossed less) | inr rest ↦ omega (arith, rest) ]
    where
      hj : j < length nodes
      hj = omega (arith, high, h)

      x : (p < length nodes) × (path k ≡ path p ++ (node_at nodes k).parent_link ∷ [])
      x = extended k p h is

      y : (q < length nodes) × (path j ≡ path q ++ (node_at nodes j).parent_link ∷ [])
      y = extended j q hj mine

      crossed : q < p → ⊥
      crossed less =
          no_crossing (path q) (path p) ((node_at nodes k).parent_link ∷ []) (node_at nodes j).parent_link (t.order q p less x.0)
          (subst (λ a. PrecedesInDictionary (path p) a) y.1 (t.order p j low hj))
          (subst (λ a. PrecedesInDictionary a (path p ++ (node_at nodes k).parent_link ∷ [])) y.1
          (subst (λ a. PrecedesInDictionary (path j) a) x.1 (t.order j k high h)))

  below : (k : ℕ) → 0 < k → k < length nodes → IsBelow nodes k
  below k more h =
      let x = t.below k more h in
      record { parent = x.place; is = x.parent; before = parent_before k x.place h x.parent; between = between k x.place h x.parent }

  rising : (j k p : ℕ) → j < k → k < length nodes → (node_at nodes j).parent ≡ Some p → (node_at nodes k).parent ≡ Some p
      → (node_at nodes j).parent_link < (node_at nodes k).parent_link
  rising j k p less h mine other =
      let x = extended j p (omega (arith, less, h)) mine in
      let y = extended k p h other in
      lower_link (path p) (node_at nodes j).parent_link (node_at nodes k).parent_link
      (subst (λ a. PrecedesInDictionary a (path p ++ (node_at nodes k).parent_link ∷ [])) x.1
      (subst (λ a. PrecedesInDictionary (path j) a) y.1 (t.order j k less h)))

  placed : (k : ℕ) → k < length nodes → IsPlaced (node_at nodes k) (length n.sizes)
  placed k h =
      elim (cases_first k) [ inl first ↦ subst (λ x. IsPlaced (node_at nodes x) (length n.sizes)) (sym first) root | inr more ↦ other more ]
    where
      root : IsPlaced (node_at nodes 0) (length n.sizes)
      root = record {
        processor = processor_inside 0 t.root;
        parent_link = subst (λ l. l < 4) (sym t.no_link) (omega arith);
        boot_link = subst (λ l. l < 4) (sym t.boot) w.root.link;
      }

      other : 0 < k → IsPlaced (node_at nodes k) (length n.sizes)
      other more =
          let x = t.below k more h in
          let end : IsEnd n (node_at nodes x.place).processor
          (node_at nodes k).parent_link = record { processor = processor_inside x.place x.here; link = x.link } in
          record {
            processor = processor_inside k h;
            parent_link = x.link;
            boot_link =
                (w.ends (node_at nodes x.place).processor (node_at nodes k).parent_link (node_at nodes k).processor
                (node_at nodes k).boot_link end x.wire).link;
          }

  pub load_tree_whole : IsWholeTree nodes (length n.sizes)
  load_tree_whole = record {
    some = t.root;
    few = few;
    top = t.top;
    no_link = t.no_link;
    below = below;
    children = t.children;
    rising = rising;
    placed = placed;
    distinct = λ j k less h. node_once n nodes t j k less h;
  }
