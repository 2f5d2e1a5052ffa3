-- A network has one load tree.
use Rattle.std.proofs.Common.{◌≡◌, ◌⊎◌, inl, inr, ℕ, zero, suc, ◌<◌, List, [], ◌∷◌, ◌++◌, length, Option, Some, None}
use Rattle.std.proofs.Common.{refl, sym, ap, ◌∙◌, subst, arith, if◌then◌else◌}
use Rattle.std.specs.Prelude.{⊤}
use Rattle.std.proofs.lemmas.Bool.{cases_lt}
use Rattle.std.proofs.lemmas.List.{ext_get_or}
use Rattle.tn_net.specs.declared.networks.Far.TheVariants.{Link}
use Rattle.tn_net.specs.Networks.{NetworkState, far_at}
use Rattle.tn_net.specs.Paths.{Leads, IsLess, IsPath, path_at}
use Rattle.tn_net.specs.Trees.{LoadNode, node_at, PrecedesInDictionary, is_parent, children_below, HangsBelow, IsLoadTree}
use Rattle.tn_net.specs.WholeTrees.{IsWholeTree}
use Rattle.tn_net.proofs.Dictionary.{stands_trans, stands_self, less_twice, without_last}

link-same : (q m r l : ℕ) → Link q m ≡ Link r l → (q ≡ r) × (m ≡ l)
link-same q m r l e = (cc, cc)

-- ---- paths

-- links lead to one processor
leads-one : (n : NetworkState) (ls : List ℕ) (p q r : ℕ) → Leads n p ls q → Leads n p ls r → q ≡ r
leads-one n [] p q r a b = sym a ∙ b
leads-one n (l ∷ ls) p q r (x, m, lt, far, a) (y, k, also, far_too, b) =
    let same = link-same x m y k (sym far ∙ far_too) in
    leads-one n ls y q r (subst (λ x. Leads n x ls q) same.0 a) b

-- a processor has one path
path-one : (n : NetworkState) (p : ℕ) (a b : List ℕ) → IsPath n a p → IsPath n b p → a ≡ b
path-one n p a b x y = by (x.least b y.leads) (y.least a x.leads)
  where
    by : IsLess a b ⊎ (a ≡ b) → IsLess b a ⊎ (b ≡ a) → a ≡ b
    by (inr same) f = same
    by (inl less) (inr same) = sym same
    by (inl less) (inl more) = absurd (less_twice a b less more)

last-same : (a b : List ℕ) (m l : ℕ) → a ++ m ∷ [] ≡ b ++ l ∷ [] → m ≡ l
last-same [] [] m l e = cc
last-same [] (y ∷ ys) m l e = absurd (none ys (let rest : [] ≡ ys ++ l ∷ [] = cc in rest))
  where
    none : (ys : List ℕ) → [] ≡ ys ++ l ∷ [] → ⊥
    none [] e = cc
    none (z ∷ zs) e = cc
last-same (x ∷ xs) [] m l e = absurd (none xs (let rest : xs ++ m ∷ [] ≡ [] = cc in rest))
  where
    none : (xs : List ℕ) → xs ++ m ∷ [] ≡ [] → ⊥
    none [] e = cc
    none (z ∷ zs) e = cc
last-same (x ∷ xs) (y ∷ ys) m l e = last-same xs ys m l (let rest : xs ++ m ∷ [] ≡ ys ++ l ∷ [] = cc in rest)

-- ---- lists in the order of a dictionary

abbrev IsAmong : List ℕ → List (List ℕ) → Type 0
IsAmong p [] = ⊥
IsAmong p (x ∷ xs) = (p ≡ x) ⊎ IsAmong p xs

abbrev Precedes : List ℕ → List (List ℕ) → Type 0
Precedes x ys = (y : List ℕ) → IsAmong y ys → PrecedesInDictionary x y

abbrev AreSorted : List (List ℕ) → Type 0
AreSorted [] = ⊤
AreSorted (x ∷ xs) = Precedes x xs × AreSorted xs

sorted-same : (xs ys : List (List ℕ)) → AreSorted xs → AreSorted ys → ((p : List ℕ) → IsAmong p xs → IsAmong p ys)
    → ((p : List ℕ) → IsAmong p ys → IsAmong p xs) → xs ≡ ys
sorted-same [] [] s t f g = refl
sorted-same [] (y ∷ ys) s t f g = absurd (g y (inl refl))
sorted-same (x ∷ xs) [] s t f g = absurd (f x (inl refl))
sorted-same (x ∷ xs) (y ∷ ys) s t f g =
    let first : x ≡ y = heads (f x (inl refl)) (g y (inl refl)) in
    let rest : xs ≡ ys = sorted-same xs ys s.1 t.1
    (λ p h. below p ys (λ e. stands_self x (subst (PrecedesInDictionary x) (e ∙ sym first) (s.0 p h))) (f p (inr h)))
    (λ p h. above p xs (λ e. stands_self y (subst (PrecedesInDictionary y) (e ∙ first) (t.0 p h))) (g p (inr h))) in
    λ j. first j ∷ rest j
  where
    heads : IsAmong x (y ∷ ys) → IsAmong y (x ∷ xs) → x ≡ y
    heads (inl e) h = e
    heads (inr h) (inl e) = sym e
    heads (inr h) (inr k) = absurd (stands_self x (stands_trans x y x (s.0 y k) (t.0 x h)))

    below : (p : List ℕ) (zs : List (List ℕ)) → (p ≡ y → ⊥) → (p ≡ y) ⊎ IsAmong p zs → IsAmong p zs
    below p zs other (inl e) = absurd (other e)
    below p zs other (inr h) = h

    above : (p : List ℕ) (zs : List (List ℕ)) → (p ≡ x → ⊥) → (p ≡ x) ⊎ IsAmong p zs → IsAmong p zs
    above p zs other (inl e) = absurd (other e)
    above p zs other (inr h) = h

-- by places
among-at : (xs : List (List ℕ)) (k : ℕ) → k < length xs → IsAmong (path_at xs k) xs
among-at [] k l = absurd (omega arith)
among-at (x ∷ xs) zero l = inl refl
among-at (x ∷ xs) (suc k) l = inr (among-at xs k (omega (arith, l)))

place-among : (xs : List (List ℕ)) (p : List ℕ) → IsAmong p xs → (k : ℕ) × (k < length xs) × (path_at xs k ≡ p)
place-among [] p h = absurd h
place-among (x ∷ xs) p (inl e) = (0, omega arith, sym e)
place-among (x ∷ xs) p (inr h) = let at = place-among xs p h in (suc at.0, omega (arith, at.1), at.2)

sorted-from : (xs : List (List ℕ)) → ((j k : ℕ) → j < k → k < length xs → PrecedesInDictionary (path_at xs j) (path_at xs k)) → AreSorted xs
sorted-from [] h = tt
sorted-from (x ∷ xs) h = (
  λ y a. (let at = place-among xs y a in subst (PrecedesInDictionary x) at.2 (h 0 (suc at.0) (omega arith) (omega (arith, at.1)))),
  sorted-from xs (λ j k jk kl. h (suc j) (suc k) (omega (arith, jk)) (omega (arith, kl))),
)

-- ---- children

children-same : (f g : ℕ → Option ℕ) (k n : ℕ) → ((c : ℕ) → c < n → f c ≡ g c) → children_below f k n ≡ children_below g k n
children-same f g k zero h = refl
children-same f g k (suc n) h =
    let rest : children_below f k n ≡ children_below g k n = children-same f g k n (λ c l. h c (omega (arith, l))) in
    let here : f n ≡ g n = h n (omega arith) in
    λ j. if is_parent (here j) k then rest j ++ n ∷ [] else rest j

-- ---- trees

-- the paths of one tree are among those of another
paths-among : (n : NetworkState) (nodes others : List LoadNode) (count : ℕ) → length n.sizes ≡ count → (t : IsLoadTree n nodes)
    → IsWholeTree nodes count → (u : IsLoadTree n others) → (p : List ℕ) → IsAmong p t.paths → IsAmong p u.paths
paths-among n nodes others count sizes t whole u p h =
    let at = place-among t.paths p h in
    let here : at.0 < length nodes = omega (arith, at.1, t.room) in
    let q : ℕ = (node_at nodes at.0).processor in
    let there = u.all q (omega (arith, sizes, (whole.placed at.0 here).processor)) in
    let same : path_at u.paths there.0 ≡ p =
    path-one n q (path_at u.paths there.0) p (subst (IsPath n (path_at u.paths there.0)) there.2 (u.path there.0 there.1))
    (subst (λ p. IsPath n p q) at.2 (t.path at.0 here)) in
    subst (λ p. IsAmong p u.paths) same (among-at u.paths there.0 (omega (arith, there.1, u.room)))

module _ (n : NetworkState) (nodes others : List LoadNode) (count : ℕ) (sizes : length n.sizes ≡ count) (t : IsLoadTree n nodes)
    (whole : IsWholeTree nodes count) (u : IsLoadTree n others) (whole_too : IsWholeTree others count) where
  paths-same : t.paths ≡ u.paths
  paths-same =
      sorted-same t.paths u.paths (sorted-from t.paths (λ j k jk kl. t.order j k jk (omega (arith, kl, t.room))))
      (sorted-from u.paths (λ j k jk kl. u.order j k jk (omega (arith, kl, u.room))))
      (paths-among n nodes others count sizes t whole u) (paths-among n others nodes count sizes u whole_too t)

  long : length nodes ≡ length others
  long = sym t.room ∙ ap length paths-same ∙ u.room

  path-same : (k : ℕ) → path_at t.paths k ≡ path_at u.paths k
  path-same k = ap (λ l. path_at l k) paths-same

  processor-same : (k : ℕ) → k < length nodes → (node_at nodes k).processor ≡ (node_at others k).processor
  processor-same k l =
      leads-one n (path_at u.paths k) n.root (node_at nodes k).processor (node_at others k).processor
      (subst (λ p. Leads n n.root p (node_at nodes k).processor) (path-same k) (t.path k l).leads)
      (u.path k (omega (arith, l, long))).leads

  -- different places have different paths
  place-same : (j k : ℕ) → j < length nodes → k < length nodes → path_at t.paths j ≡ path_at t.paths k → j ≡ k
  place-same j k jl kl e =
      let x : j < k → ⊥ = λ h. stands_self (path_at t.paths j) (subst (PrecedesInDictionary (path_at t.paths j)) (sym e)
      (t.order j k h kl)) in
      let y : k < j → ⊥ = λ h. stands_self (path_at t.paths k) (subst (PrecedesInDictionary (path_at t.paths k)) e (t.order k j h jl)) in
      omega (arith, x, y)

  record AreSame (a b : LoadNode) : Type 0 where
    pub parent : a.parent ≡ b.parent
    pub link : a.parent_link ≡ b.parent_link
    pub boot : a.boot_link ≡ b.boot_link

  hang-same : (k : ℕ) → k < length nodes → HangsBelow n nodes t.paths k (node_at nodes k) → HangsBelow n others u.paths k (node_at others k)
      → AreSame (node_at nodes k) (node_at others k)
  hang-same k l h g =
      let joined : path_at u.paths h.place ++ (node_at nodes k).parent_link ∷ []
      ≡ path_at u.paths g.place ++ (node_at others k).parent_link ∷ [] =
      ap (λ p. p ++ (node_at nodes k).parent_link ∷ []) (sym (path-same h.place)) ∙ sym h.path ∙ path-same k ∙ g.path in
      let link : (node_at nodes k).parent_link ≡ (node_at others k).parent_link =
      last-same (path_at u.paths h.place) (path_at u.paths g.place) (node_at nodes k).parent_link (node_at others k).parent_link joined in
      let place : h.place ≡ g.place = place-same h.place g.place h.here (omega (arith, g.here, long))
      (path-same h.place
      ∙ without_last (path_at u.paths h.place) (path_at u.paths g.place) (node_at nodes k).parent_link (node_at others k).parent_link joined
      ∙ sym (path-same g.place)) in
      let from : (node_at nodes h.place).processor ≡ (node_at others g.place).processor =
      processor-same h.place h.here ∙ ap (λ p. (node_at others p).processor) place in
      let far : Link (node_at nodes k).processor (node_at nodes k).boot_link ≡ Link (node_at others k).processor
      (node_at others k).boot_link =
      sym h.wire ∙ (λ j. far_at n (from j) (link j)) ∙ g.wire in
      record { parent = h.parent ∙ ap Some place ∙ sym g.parent; link = link; boot = (link-same _ _ _ _ far).1 }

  all-same : (k : ℕ) → k < length nodes → AreSame (node_at nodes k) (node_at others k)
  all-same k l = elim (cases_lt 0 k) [
    | inl some ↦ hang-same k l (t.below k some l) (u.below k some (omega (arith, l, long)))
    | inr none ↦ (let zero_is : 0 ≡ k = omega (arith, none) in
        subst (λ k. AreSame (node_at nodes k) (node_at others k)) zero_is
        (record { parent = t.top ∙ sym u.top; link = t.no_link ∙ sym u.no_link; boot = t.boot ∙ sym u.boot }))
  ]

  children-are : (k : ℕ) → k < length nodes → (node_at nodes k).children ≡ (node_at others k).children
  children-are k l =
      t.children k l
      ∙ children-same (λ c. (node_at nodes c).parent) (λ c. (node_at others c).parent) k (length nodes) (λ c cl. (all-same c cl).parent)
      ∙ ap (children_below (λ c. (node_at others c).parent) k) long
      ∙ sym (u.children k (omega (arith, l, long)))

  pub one-tree : nodes ≡ others
  one-tree = ext_get_or (record { processor = 0; parent = None; parent_link = 0; boot_link = 0; children = [] }) nodes others long
      (λ k l. (let same = all-same k l in λ j. record {
        processor = processor-same k l j;
        parent = same.parent j;
        parent_link = same.link j;
        boot_link = same.boot j;
        children = children-are k l j;
      }))
