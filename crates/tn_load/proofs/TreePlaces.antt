-- The places of the processors of a load tree, the links that they boot by, and what hangs at each of their links.
use Rattle.std.proofs.Common.{◌≡◌, ◌≢◌, ◌⊎◌, inl, inr, ℕ, zero, suc, ◌==◌, ◌<◌, Bool, true, false, List, [], ◌∷◌, length}
use Rattle.std.proofs.Common.{Some, refl, sym, ap, ◌∙◌, subst, arith}
use Rattle.std.specs.Prelude.{nat_lt, if◌then◌else◌}
use Rattle.std.proofs.lemmas.Bool.Decides.{nat_tests}
use Rattle.tn_net.specs.declared.networks.Far.TheVariants.{Link}
use Rattle.tn_net.specs.Networks.{NetworkState, IsEnd, IsPairing, far_at}
use Rattle.tn_net.specs.Paths.{IsPath, IsLess, path_at}
use Rattle.tn_net.specs.Trees.{LoadNode, node_at, IsLoadTree, PrecedesInDictionary}
use Rattle.tn_net.specs.WholeTrees.{IsWholeTree}
use Rattle.tn_stream.specs.Images.{ImageBytes}
use Rattle.tn_load.specs.LoneRuns.{sends_of}
use Rattle.tn_load.specs.Inner.Lives.{acts_at}
use Rattle.tn_load.specs.Inner.Loadings.{place_of}
use Rattle.tn_load.proofs.TreeActs.{sends-none, child-or-none}

-- ---- places

pub record IsPlaceOf (nodes : List LoadNode) (p k : ℕ) : Type 0 where
  pub within : k < length nodes
  pub processor : (node_at nodes k).processor ≡ p

pub place-found : (nodes : List LoadNode) (k p : ℕ) → k < length nodes → (node_at nodes k).processor ≡ p
    → IsPlaceOf nodes p (place_of nodes p)
unfolding place_of
place-found [] k p inside is = absurd (omega arith)
place-found (node ∷ nodes) k p inside is = go k inside is (node.processor == p) refl (λ j below at. place-found nodes j p below at)
  where
    go : (k : ℕ) → k < length (node ∷ nodes) → (node_at (node ∷ nodes) k).processor ≡ p → (test : Bool) → node.processor == p ≡ test
        → ((j : ℕ) → j < length nodes → (node_at nodes j).processor ≡ p → IsPlaceOf nodes p (place_of nodes p))
        → IsPlaceOf (node ∷ nodes) p (if test then 0 else suc (place_of nodes p))
    go k inside is true t rest = record { within = omega arith; processor = grind (arith, nat_tests) }
    go zero inside is false t rest = absurd (clash is)
      where
        clash : node.processor ≡ p → ⊥
        clash e = grind (arith, nat_tests)
    go (suc j) inside is false t rest =
        let at : IsPlaceOf nodes p (place_of nodes p) = rest j (omega arith) is in
        record { within = omega (arith, at.within); processor = at.processor }

module _ (network : NetworkState) (nodes : List LoadNode) (pairing : IsPairing network) (tree : IsLoadTree network nodes)
    (whole : IsWholeTree nodes (length network.sizes)) where
  abbrev place : ℕ → ℕ
  place p = place_of nodes p

  -- the place of each processor
  pub placed : (p : ℕ) → p < length network.sizes → IsPlaceOf nodes p (place p)
  placed p inside = let at = tree.all p inside in place-found nodes at.0 p at.1 at.2

  pub one-place : (j k : ℕ) → j < length nodes → k < length nodes → (node_at nodes j).processor ≡ (node_at nodes k).processor → j ≡ k
  one-place j k within inside same = go (nat_lt j k) refl (nat_lt k j) refl
    where
      go : (a : Bool) → nat_lt j k ≡ a → (b : Bool) → nat_lt k j ≡ b → j ≡ k
      go true s b t = absurd (whole.distinct j k (grind (arith, nat_tests)) inside same)
      go false s true t = absurd (whole.distinct k j (grind (arith, nat_tests)) within (sym same))
      go false s false t = grind (arith, nat_tests)

  pub processor-inside : (k : ℕ) → k < length nodes → (node_at nodes k).processor < length network.sizes
  processor-inside k inside = (whole.placed k inside).processor

  pub place-is : (k : ℕ) → k < length nodes → place (node_at nodes k).processor ≡ k
  place-is k inside =
      let at = placed (node_at nodes k).processor (processor-inside k inside) in
      one-place (place (node_at nodes k).processor) k at.within inside at.processor

  -- ---- the root

  root-empty : (path : List ℕ) → IsPath network path network.root → path ≡ []
  root-empty path is = elim (is.least [] refl) [
    | inl less ↦ absurd (never path less)
    | inr same ↦ same
  ]
    where
      never : (path : List ℕ) → IsLess path [] → ⊥
      never [] (inl less) = omega arith
      never [] (inr both) = both.1
      never (l ∷ ls) (inl less) = omega arith
      never (l ∷ ls) (inr both) = both.1

  first_is : (k : ℕ) → k < length nodes → path_at tree.paths k ≡ [] → k ≡ 0
  first_is zero inside empty = refl
  first_is (suc k) inside empty =
      absurd (before (path_at tree.paths 0) (subst (λ path. PrecedesInDictionary (path_at tree.paths 0) path) empty
      (tree.order 0 (suc k) (omega arith) inside)))
    where
      before : (path : List ℕ) → PrecedesInDictionary path [] → ⊥
      before [] h = h
      before (l ∷ ls) h = h

  pub root-place : place network.root ≡ 0
  root-place =
      let at = placed network.root pairing.root.processor in
      first_is (place network.root) at.within
      (root-empty (path_at tree.paths (place network.root))
      (subst (λ q. IsPath network (path_at tree.paths (place network.root)) q) at.processor (tree.path (place network.root) at.within)))

  pub root-processor : (node_at nodes 0).processor ≡ network.root
  root-processor = ap (λ k. (node_at nodes k).processor) (sym root-place) ∙ (placed network.root pairing.root.processor).processor

  -- ---- the links of a place

  -- the link that a place boots by leads to its parent
  pub record IsUnder (k : ℕ) : Type 0 where
    pub parent : ℕ
    pub within : parent < length nodes
    pub is : (node_at nodes k).parent ≡ Some parent
    pub far : far_at network (node_at nodes k).processor (node_at nodes k).boot_link ≡ Link (node_at nodes parent).processor
        (node_at nodes k).parent_link
    pub there : far_at network (node_at nodes parent).processor (node_at nodes k).parent_link ≡ Link (node_at nodes k).processor
        (node_at nodes k).boot_link

  pub under : (k : ℕ) → 0 < k → k < length nodes → IsUnder k
  under k some inside =
      let below = tree.below k some inside in
      let end : IsEnd network (node_at nodes below.place).processor (node_at nodes k).parent_link =
      record { processor = processor-inside below.place below.here; link = below.link } in
      record {
        parent = below.place;
        within = below.here;
        is = below.parent;
        far = pairing.ways (node_at nodes below.place).processor (node_at nodes k).parent_link (node_at nodes k).processor
            (node_at nodes k).boot_link end below.wire;
        there = below.wire;
      }

  pub boot-low : (k : ℕ) → k < length nodes → (node_at nodes k).boot_link < 4
  boot-low k inside = (whole.placed k inside).boot_link

  pub some_same : {A : Type 0} (a b : A) → Some a ≡ Some b → a ≡ b
  some_same a b e = cc

  -- a child hangs at a link of a place, at the far end of that link, or nothing is sent by it
  pub record HangsAt (k l : ℕ) : Type 0 where
    pub child : ℕ
    pub some : 0 < child
    pub within : child < length nodes
    pub parent : (node_at nodes child).parent ≡ Some k
    pub link : (node_at nodes child).parent_link ≡ l
    pub far : far_at network (node_at nodes k).processor l ≡ Link (node_at nodes child).processor (node_at nodes child).boot_link

  pub hangs-or-none : (images : List ImageBytes) (k l : ℕ) → k < length nodes → HangsAt k l ⊎ (sends_of l (acts_at images nodes k) ≡ [])
  hangs-or-none images k l inside = elim (child-or-none nodes k l (length nodes)) [
    | inl found ↦ inl (hung found.0 found.1 found.2 found.3)
    | inr free ↦ inr (sends-none images nodes (length network.sizes) whole k l inside free)
  ]
    where
      not_first : (c : ℕ) → (node_at nodes c).parent ≡ Some k → 0 < c
      not_first zero is = let top = whole.top in absurd cc
      not_first (suc c) is = omega arith

      hung : (c : ℕ) → c < length nodes → (node_at nodes c).parent ≡ Some k → (node_at nodes c).parent_link ≡ l → HangsAt k l
      hung c within is at =
          let up = under c (not_first c is) within in
          let same : up.parent ≡ k = some_same up.parent k (sym up.is ∙ is) in
          record {
            child = c;
            some = not_first c is;
            within = within;
            parent = is;
            link = at;
            far = ap (λ x. far_at network (node_at nodes x).processor l) (sym same)
                ∙ (ap (λ x. far_at network (node_at nodes up.parent).processor x) (sym at) ∙ up.there);
          }

  -- by a link that leads to no child nothing is sent
  pub silent : (images : List ImageBytes) (k l : ℕ) → k < length nodes
      → ((c : ℕ) → c < length nodes → far_at network (node_at nodes k).processor l ≢ Link (node_at nodes c).processor
      (node_at nodes c).boot_link)
      → sends_of l (acts_at images nodes k) ≡ []
  silent images k l inside apart = elim (hangs-or-none images k l inside) [
    | inl at ↦ absurd (apart at.child at.within at.far)
    | inr nothing_sent ↦ nothing_sent
  ]
