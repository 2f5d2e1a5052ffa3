-- The branch of a node of a whole tree is made of those of its children, and so is what it gets.
use Rattle.std.proofs.Common.{◌≡◌, ℕ, zero, suc, ◌+◌, ◌-◌, ◌<◌, ◌≤◌, Bool, true, false, cond, List, [], ◌∷◌, ◌++◌, length, map, All}
use Rattle.std.proofs.Common.{Option, Some, None}
use Rattle.std.proofs.Common.{refl, sym, ap, ◌∙◌, subst, arith, length-append}
use Rattle.std.specs.Prelude.{slice_index_or}
use Rattle.std.specs.List.{flat_map, AllByRecursion}
use Rattle.std.proofs.lemmas.Bool.Decides.{nat_tests}
use Rattle.std.proofs.lemmas.List.Elements.{All-nil, All-push, All-weaker, recursion_from_All}
use Rattle.std.proofs.lemmas.List.Folds.{flat_map-map}
use Rattle.tn_net.specs.Trees.{LoadNode, node_at, children_below, is_parent}
use Rattle.tn_net.specs.WholeTrees.{IsWholeTree}
use Rattle.tn_stream.specs.declared.waves.Wave.{Wave}
use Rattle.tn_stream.specs.Images.{ImageBytes}
use Rattle.tn_stream.specs.Branches.{Branch}
use Rattle.tn_stream.specs.Streams.{Site, forwarded, wave, wave_below}
use Rattle.tn_stream.specs.LoadBranches.{no_branch, site_of, hung, branches_from, branches, branch_at}
use Rattle.tn_stream.specs.Waves.{first_of, last_of, part_of}

-- ---- children stand behind their parent

pub record IsBehind (nodes : List LoadNode) (k c : ℕ) : Type 0 where
  pub behind : k < c
  pub within : c < length nodes

parent_is : (o : Option ℕ) (k : ℕ) → is_parent o k ≡ true → o ≡ Some k
parent_is None k e = absurd cc
parent_is (Some p) k e = let same : p ≡ k = grind (arith, nat_tests) in ap Some same

pub parent-before : (nodes : List LoadNode) (count : ℕ) → IsWholeTree nodes count → (c p : ℕ) → c < length nodes
    → (node_at nodes c).parent ≡ Some p → p < c
parent-before nodes count whole zero p inside is = let top = whole.top in absurd cc
parent-before nodes count whole (suc c) p inside is =
    let below = whole.below (suc c) (omega arith) inside in
    let both : Some below.parent ≡ Some p = sym below.is ∙ is in
    let same : below.parent ≡ p = cc in
    let before = below.before in
    omega (arith, same, before)

behind_parent : (nodes : List LoadNode) (count : ℕ) → IsWholeTree nodes count → (k n : ℕ) → n ≤ length nodes
    → All (IsBehind nodes k) (children_below (λ c. (node_at nodes c).parent) k n)
behind_parent nodes count whole k zero h = All-nil (IsBehind nodes k)
behind_parent nodes count whole k (suc c) h = at (is_parent (node_at nodes c).parent k) refl
    (behind_parent nodes count whole k c (omega arith))
  where
    at : (b : Bool) → is_parent (node_at nodes c).parent k ≡ b → All (IsBehind nodes k) (children_below (λ c. (node_at nodes c).parent) k c)
        → All (IsBehind nodes k) (cond b (children_below (λ c. (node_at nodes c).parent) k c ++ c ∷ [])
        (children_below (λ c. (node_at nodes c).parent) k c))
    at true test all =
        let inside : c < length nodes = omega arith in
        let before = parent-before nodes count whole c k inside (parent_is (node_at nodes c).parent k test) in
        All-push (IsBehind nodes k) (children_below (λ c. (node_at nodes c).parent) k c) c all (record { behind = before; within = inside })
    at false test all = all

pub children-behind : (nodes : List LoadNode) (count k : ℕ) → IsWholeTree nodes count → k < length nodes
    → All (IsBehind nodes k) (node_at nodes k).children
children-behind nodes count k whole inside =
    subst (All (IsBehind nodes k)) (sym (whole.children k inside)) (behind_parent nodes count whole k (length nodes) (omega arith))

-- there are not more of them than nodes
few_below : (parent : ℕ → Option ℕ) (k n : ℕ) → length (children_below parent k n) ≤ n
few_below parent k zero = omega arith
few_below parent k (suc c) = at (is_parent (parent c) k) (few_below parent k c)
  where
    at : (b : Bool) → length (children_below parent k c) ≤ c
        → length (cond b (children_below parent k c ++ c ∷ []) (children_below parent k c)) ≤ suc c
    at true h = omega (arith, length-append (children_below parent k c) (c ∷ []))
    at false h = omega arith

pub few-children : (nodes : List LoadNode) (count k : ℕ) → IsWholeTree nodes count → k < length nodes
    → length (node_at nodes k).children ≤ length nodes
few-children nodes count k whole inside =
    let same = ap length (whole.children k inside) in
    omega (arith, same, few_below (λ c. (node_at nodes c).parent) k (length nodes))

-- ---- the branch of a node

map-same : {A B : Type 0} (f g : A → B) (xs : List A) → AllByRecursion (λ x. f x ≡ g x) xs → map f xs ≡ map g xs
map-same f g [] h = refl
map-same f g (x ∷ xs) (e, h) = ap (λ y. y ∷ map f xs) e ∙ ap (λ ys. g x ∷ ys) (map-same f g xs h)

map-same-All : {A B : Type 0} (P : A → Type 0) (f g : A → B) (xs : List A) → ((x : A) → P x → f x ≡ g x) → All P xs → map f xs ≡ map g xs
map-same-All P f g xs same all = map-same f g xs (recursion_from_All (λ x. f x ≡ g x) xs (All-weaker P (λ x. f x ≡ g x) same xs all))

module _ (images : List ImageBytes) where
  -- the entry of a node, whose children's branches are read from the entries of the nodes from place k on
  abbrev entry : List (ℕ × Branch Site) → ℕ → LoadNode → ℕ × Branch Site
  entry all k node = (
    node.parent_link,
    record { root = site_of images node; below = hung (map (λ c. slice_index_or all (c - k) no_branch) node.children) },
  )

  shifted : (x : ℕ × Branch Site) (rest : List (ℕ × Branch Site)) (k c : ℕ) → k < c
      → slice_index_or rest (c - (k + 1)) no_branch ≡ slice_index_or (x ∷ rest) (c - k) no_branch
  shifted x rest k c h =
      let e : c - k ≡ suc (c - (k + 1)) = omega arith in
      sym (ap (λ m. slice_index_or (x ∷ rest) m no_branch) e)

  entry-shifted : (x : ℕ × Branch Site) (rest : List (ℕ × Branch Site)) (k : ℕ) (node : LoadNode) → All (λ c. k < c) node.children
      → entry rest (k + 1) node ≡ entry (x ∷ rest) k node
  entry-shifted x rest k node all =
      ap (λ bs. (node.parent_link, record { root = site_of images node; below = hung bs }))
      (map-same-All (λ c. k < c) (λ c. slice_index_or rest (c - (k + 1)) no_branch) (λ c. slice_index_or (x ∷ rest) (c - k) no_branch)
      node.children (shifted x rest k) all)

  entry-at : (ns : List LoadNode) (k i : ℕ) → i < length ns → All (λ c. k + i < c) (node_at ns i).children
      → slice_index_or (branches_from images k ns) i no_branch ≡ entry (branches_from images k ns) k (node_at ns i)
  unfolding branches_from
  entry-at [] k i h all = absurd (omega arith)
  entry-at (n ∷ ns) k zero h all =
      entry-shifted (entry (branches_from images (k + 1) ns) (k + 1) n) (branches_from images (k + 1) ns) k n
      (All-weaker (λ c. k + zero < c) (λ c. k < c) (λ c less. omega arith) n.children all)
  entry-at (n ∷ ns) k (suc i) h all =
      entry-at ns (k + 1) i (omega arith)
      (All-weaker (λ c. k + suc i < c) (λ c. k + 1 + i < c) (λ c less. omega arith) (node_at ns i).children all)
      ∙ entry-shifted (entry (branches_from images (k + 1) ns) (k + 1) n) (branches_from images (k + 1) ns) k (node_at ns i)
      (All-weaker (λ c. k + suc i < c) (λ c. k < c) (λ c less. omega arith) (node_at ns i).children all)

  module _ (nodes : List LoadNode) (count : ℕ) (whole : IsWholeTree nodes count) where
    -- a child with the link that leads to it
    abbrev pub linked : ℕ → ℕ × Branch Site
    linked c = ((node_at nodes c).parent_link, branch_at images nodes c)

    from_start : (k : ℕ) → k < length nodes → slice_index_or (branches images nodes) k no_branch
        ≡ entry (branches images nodes) 0 (node_at nodes k)
    from_start k inside =
        entry-at nodes 0 k inside (All-weaker (IsBehind nodes k) (λ c. 0 + k < c) (λ c b. let less = b.behind in omega (arith, less))
        (node_at nodes k).children (children-behind nodes count k whole inside))

    linked-is : (c : ℕ) → c < length nodes → slice_index_or (branches images nodes) c no_branch ≡ linked c
    linked-is c inside = ap (λ link. (link, branch_at images nodes c)) (ap (λ x. x.0) (from_start c inside))

    pub branch-is : (k : ℕ) → k < length nodes → branch_at images nodes k
        ≡ record { root = site_of images (node_at nodes k); below = hung (map linked (node_at nodes k).children) }
    branch-is k inside =
        ap (λ x. x.1) (from_start k inside) ∙ ap (λ bs. record { root = site_of images (node_at nodes k); below = hung bs })
        (map-same-All (IsBehind nodes k) (λ c. slice_index_or (branches images nodes) (c - 0) no_branch)
        linked (node_at nodes k).children here
        (children-behind nodes count k whole inside))
      where
        here : (c : ℕ) → IsBehind nodes k c → slice_index_or (branches images nodes) (c - 0) no_branch ≡ linked c
        here c b =
            let e : c - 0 ≡ c = omega arith in
            ap (λ m. slice_index_or (branches images nodes) m no_branch) e ∙ linked-is c b.within

    -- ---- what a branch gets

    -- what a child gets by its parent
    abbrev pub child_part : Wave → ℕ → List ℕ
    child_part w c = forwarded (node_at nodes c).parent_link (part_of w (branch_at images nodes c))

    wave_hung : (first last : Site → List ℕ) (xs : List (ℕ × Branch Site))
        → wave_below first last (hung xs) ≡ flat_map (λ x. forwarded x.0 (wave first last x.1)) xs
    unfolding hung wave wave_below
    wave_hung first last [] = refl
    wave_hung first last (x ∷ xs) =
        ap (λ rest. forwarded x.0 (first x.1.root ++ wave_below first last x.1.below ++ last x.1.root) ++ rest) (wave_hung first last xs)

    pub part-is : (w : Wave) (k : ℕ) → k < length nodes → part_of w (branch_at images nodes k)
        ≡ first_of w (site_of images (node_at nodes k)) ++ flat_map (child_part w) (node_at nodes k).children
        ++ last_of w (site_of images (node_at nodes k))
    unfolding wave
    part-is w k inside =
        ap (part_of w) (branch-is k inside)
        ∙ ap (λ bytes. first_of w (site_of images (node_at nodes k)) ++ bytes ++ last_of w (site_of images (node_at nodes k)))
        (wave_hung (first_of w) (last_of w) (map linked (node_at nodes k).children)
        ∙ flat_map-map (λ x. forwarded x.0 (wave (first_of w) (last_of w) x.1)) linked (node_at nodes k).children)
