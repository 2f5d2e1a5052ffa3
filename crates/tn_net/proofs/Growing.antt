-- From the steps of a walk to the nodes.
use Rattle.std.proofs.Common.{◌≡◌, ℕ, zero, suc, ◌+◌, ◌<◌, ◌⊎◌, inl, inr, Bool, true, false, List, [], ◌∷◌, ◌++◌, map, length, refl, sym}
use Rattle.std.proofs.Common.{◌∙◌, ap, subst, arith, Option, Some, None}
use Rattle.std.specs.Prelude.{nat_eq, ◌||◌, if◌then◌else◌, Result, Ok, Err, IfOk}
use Rattle.std.specs.List.{list_any}
use Rattle.std.proofs.lemmas.Bool.{eq-eqb}
use Rattle.std.proofs.lemmas.List.{length-map}
use Rattle.tn_net.specs.declared.networks.Far.TheVariants.{Link}
use Rattle.tn_net.specs.declared.paths.Reached.{Reached}
use Rattle.tn_net.specs.Networks.{NetworkState, far_at}
use Rattle.tn_net.specs.Paths.{Leads, IsLess, IsPath, path_at}
use Rattle.tn_net.specs.Inner.Walks.{step_at, Extends, AreReached}
use Rattle.tn_net.specs.Trees.{LoadNode, node_at, PrecedesInDictionary, children_below, is_parent, HangsBelow, IsLoadTree}
use Rattle.tn_net.specs.Trees.{IsFirstUnreachable}
use Rattle.tn_net.specs.Inner.Loads.{IsThere, ArePaths, place_at, parent_at, IsInLoadOrder, IsParentAt, AreParents, AreNodes}
use Rattle.tn_net.proofs.Visiting.{any_found}
use Rattle.tn_net.proofs.Dictionary.{less_empty, less_twice, stands_self}

pub any_there : (q : ℕ) (order : List Reached) (k : ℕ) → k < length order → (step_at order k).processor ≡ q
    → list_any (λ reached. nat_eq q reached.processor) order ≡ true
any_there q [] k h is = absurd (omega (arith, h))
any_there q (x ∷ xs) zero h is =
    ap (λ b. b || list_any (λ (reached : Reached). nat_eq q reached.processor) xs) (eq-eqb q x.processor (sym is))
any_there q (x ∷ xs) (suc k) h is = orr (nat_eq q x.processor) (any_there q xs k (omega (arith, h)) is)
  where
    orr : (b : Bool) {c : Bool} → c ≡ true → (b || c) ≡ true
    orr true e = refl
    orr false e = e

pub ok_more : {T E : Type 0} (r : Result T E) (P Q : T → Type 0) → IfOk r P → ((x : T) → P x → Q x) → IfOk r Q
ok_more (Ok x) P Q p f = f x p
ok_more (Err e) P Q p f = tt

-- a step is to one processor more
pub there_more : (order : List Reached) (p : ℕ) → ((q : ℕ) → q < p → IsThere order q)
    → list_any (λ reached. nat_eq p reached.processor) order ≡ true → (q : ℕ) → q < p + 1 → IsThere order q
there_more order p all h q hq =
    elim (cases q p hq) [ inl less ↦ all q less | inr same ↦ subst (λ x. IsThere order x) (sym same) (any_found p order h) ]
  where
    cases : (x y : ℕ) → x < y + 1 → (x < y) ⊎ (x ≡ y)
    cases x y h = grind arith

pub not_there : (q : ℕ) (order : List Reached) → list_any (λ reached. nat_eq q reached.processor) order ≡ false → IsThere order q → ⊥
not_there q order h k =
    let there : list_any (λ (reached : Reached). nat_eq q reached.processor) order ≡ true = any_there q order k.0 k.1 k.2 in
    cc

-- the place of one child more, or of none
pub child_more : (f : ℕ → Option ℕ) (k c : ℕ) → is_parent (f c) k ≡ true → children_below f k (c + 1) ≡ children_below f k c ++ c ∷ []
child_more f k c e =
    let one : c + 1 ≡ suc c = omega arith in
    ap (λ x. children_below f k x) one ∙ ap (λ b. if b then children_below f k c ++ c ∷ [] else children_below f k c) e

pub no_child : (f : ℕ → Option ℕ) (k c : ℕ) → is_parent (f c) k ≡ false → children_below f k (c + 1) ≡ children_below f k c
no_child f k c e =
    let one : c + 1 ≡ suc c = omega arith in
    ap (λ x. children_below f k x) one ∙ ap (λ b. if b then children_below f k c ++ c ∷ [] else children_below f k c) e

-- the paths of a walk
pub are_paths : (n : NetworkState) (order : List Reached) (r : AreReached n order) → ArePaths order r.paths
are_paths n order r = record {
  rising = r.rising;
  root = r.root;
  begins = begins;
  before = λ k hk h. (r.extends k hk h).before;
  path = λ k hk h. (r.extends k hk h).path;
}
  where
    found : (k : ℕ) × (k < length order) × ((step_at order k).processor ≡ n.root)
    found = r.all n.root [] refl

    empty : path_at r.paths found.0 ≡ []
    empty =
        elim ((r.path found.0 found.1).least [] (sym found.2)) [
          | inl less ↦ absurd (less_empty (path_at r.paths found.0) less)
          | inr same ↦ same
        ]

    cases : (x : ℕ) → (0 ≡ x) ⊎ (0 < x)
    cases x = grind arith

    begins : path_at r.paths 0 ≡ []
    begins =
        elim (cases found.0) [
          | inl same ↦ ap (λ x. path_at r.paths x) same ∙ empty
          | inr more ↦ absurd (less_empty (path_at r.paths 0)
              (subst (λ p. IsLess (path_at r.paths 0) p) empty (r.rising 0 found.0 more found.1)))
        ]

pub unreachable : (n : NetworkState) (order : List Reached) (p : ℕ) → AreReached n order → p < length n.sizes → (IsThere order p → ⊥)
    → ((q : ℕ) → q < p → IsThere order q) → IsFirstUnreachable n p
unreachable n order p r h none all = record {
  processor = h;
  unreachable = λ path leads. none (r.all p path leads);
  earlier =
      λ q less. let k : IsThere order q = all q less in
      (path_at r.paths k.0, subst (λ x. Leads n n.root (path_at r.paths k.0) x) k.2 (r.path k.0 k.1).leads);
}

-- the same parents, the same children
pub children_same : (f g : ℕ → Option ℕ) (k c : ℕ) → ((t : ℕ) → t < c → f t ≡ g t) → children_below f k c ≡ children_below g k c
children_same f g k zero same = refl
children_same f g k (suc c) same =
    let rest : children_below f k c ≡ children_below g k c = children_same f g k c (λ t h. same t (omega (arith, h))) in
    ap (λ xs. if is_parent (f c) k then xs ++ c ∷ [] else xs) rest
    ∙ ap (λ p. if is_parent p k then children_below g k c ++ c ∷ [] else children_below g k c) (same c (omega arith))

pub path_read : (paths : List (List ℕ)) (load : List ℕ) (t : ℕ) → t < length load
    → path_at (map (λ j. path_at paths j) load) t ≡ path_at paths (place_at load t)
path_read paths [] t h = absurd (omega (arith, h))
path_read paths (x ∷ xs) zero h = refl
path_read paths (x ∷ xs) (suc t) h = path_read paths xs t (omega (arith, h))

-- the paths in load order
abbrev pub ways_of : List (List ℕ) → List ℕ → List (List ℕ)
ways_of paths load = map (λ j. path_at paths j) load

pub tree_made : (n : NetworkState) (order : List Reached) (load : List ℕ) (parents : List (Option ℕ)) (nodes : List LoadNode)
    → AreReached n order → ((q : ℕ) → q < length n.sizes → IsThere order q) → IsInLoadOrder order load (length order)
    → AreParents order load parents (length load) → AreNodes order load parents nodes (length load) → IsLoadTree n nodes
tree_made n order load parents nodes r there l ps ns = record {
  paths = (ways_of r.paths load);
  room = length-map load (λ j. path_at r.paths j) ∙ sym ns.room;
  path =
      λ k h. subst (λ p. IsPath n p (node_at nodes k).processor) (sym (way k (inside k h)))
      (subst (λ q. IsPath n (path_at r.paths (place_at load k)) q) (sym (ns.each k (inside k h)).processor)
      (r.path (place_at load k) (place k (inside k h))));
  order =
      λ j k less h. subst (λ p. PrecedesInDictionary p (path_at (ways_of r.paths load) k)) (sym (way j (omega (arith, less, inside k h))))
      (subst (λ p. PrecedesInDictionary (path_at r.paths (place_at load j)) p) (sym (way k (inside k h)))
      (l.rising r.paths v j k less (inside k h)));
  all = all;
  root = root;
  top = top;
  no_link = (ns.each 0 start).parent_link ∙ ap (λ x. (step_at order x).parent_link) l.whole.first ∙ r.no_link;
  boot = (ns.each 0 start).boot_link ∙ ap (λ x. (step_at order x).boot_link) l.whole.first ∙ r.boot;
  below = λ k hk h. below k hk (inside k h) (parent_at parents k) refl (ps.each k (inside k h));
  children =
      λ k h. (ns.each k (inside k h)).children ∙ ap (λ c. children_below (λ t. parent_at parents t) k c) (ps.room ∙ sym ns.room)
      ∙ children_same (λ t. parent_at parents t) (λ t. (node_at nodes t).parent) k (length nodes)
      (λ t ht. sym (ns.each t (inside t ht)).parent);
}
  where
    v : ArePaths order r.paths
    v = are_paths n order r

    way : (k : ℕ) → k < length load → path_at (ways_of r.paths load) k ≡ path_at r.paths (place_at load k)
    way k h = path_read r.paths load k h

    inside : (k : ℕ) → k < length nodes → k < length load
    inside k h = omega (arith, h, ns.room)

    place : (k : ℕ) → k < length load → place_at load k < length order
    place k h = l.whole.places k h

    root : 0 < length nodes
    root = omega (arith, ns.room, l.whole.room, r.root)

    start : 0 < length load
    start = omega (arith, l.whole.room, r.root)

    all : (q : ℕ) → q < length n.sizes → (k : ℕ) × (k < length nodes) × ((node_at nodes k).processor ≡ q)
    all q h =
        let j : IsThere order q = there q h in
        let t : (t : ℕ) × (t < length load) × (place_at load t ≡ j.0) = l.whole.all j.0 j.1 in
        (t.0, omega (arith, t.1, ns.room), (ns.each t.0 t.1).processor ∙ ap (λ x. (step_at order x).processor) t.2 ∙ j.2)

    top : (node_at nodes 0).parent ≡ None
    top = (ns.each 0 start).parent ∙ none (parent_at parents 0) (ps.each 0 start)
      where
        none : (p : Option ℕ) → IsParentAt order load (place_at load 0) p → p ≡ None
        none None h = refl
        none (Some t) h = absurd (omega (arith, h.0, l.whole.first))

    not_first : (k : ℕ) → 0 < k → k < length load → place_at load k ≡ 0 → ⊥
    not_first k hk h e =
        stands_self (path_at r.paths 0) (subst (λ x. PrecedesInDictionary (path_at r.paths 0) (path_at r.paths x)) e
        (subst (λ x. PrecedesInDictionary (path_at r.paths x) (path_at r.paths (place_at load k))) l.whole.first
        (l.rising r.paths v 0 k hk h)))

    below : (k : ℕ) → 0 < k → k < length load → (p : Option ℕ) → parent_at parents k ≡ p → IsParentAt order load (place_at load k) p
        → HangsBelow n nodes (ways_of r.paths load) k (node_at nodes k)
    below k hk h None is e = absurd (not_first k hk h e)
    below k hk h (Some t) is e =
        let x : Extends n order r.paths (place_at load k) (step_at order (place_at load k)) = r.extends (place_at load k) e.0 (place k h) in
        record {
          place = t;
          here = omega (arith, e.1, ns.room);
          parent = (ns.each k h).parent ∙ is;
          path =
              way k h ∙ x.path ∙ ap (λ j. path_at r.paths j ++ (step_at order (place_at load k)).parent_link ∷ []) (sym e.2)
              ∙ ap (λ p. p ++ (step_at order (place_at load k)).parent_link ∷ []) (sym (way t e.1))
              ∙ ap (λ m. path_at (ways_of r.paths load) t ++ m ∷ []) (sym (ns.each k h).parent_link);
          link = subst (λ m. m < 4) (sym (ns.each k h).parent_link) x.link;
          wire =
              ap (λ q. far_at n q (node_at nodes k).parent_link) ((ns.each t e.1).processor ∙ ap (λ j. (step_at order j).processor) e.2)
              ∙ ap (λ m. far_at n (step_at order (step_at order (place_at load k)).parent).processor m) (ns.each k h).parent_link ∙ x.wire
              ∙ ap (λ q. Link q (step_at order (place_at load k)).boot_link) (sym (ns.each k h).processor)
              ∙ ap (λ b. Link (node_at nodes k).processor b) (sym (ns.each k h).boot_link);
        }

-- a network with a load tree has no unreachable processor
pub tree_whole : (n : NetworkState) (nodes : List LoadNode) → IsLoadTree n nodes → (p : ℕ) → IsFirstUnreachable n p → ⊥
tree_whole n nodes t p u =
    let k : (k : ℕ) × (k < length nodes) × ((node_at nodes k).processor ≡ p) = t.all p u.processor in
    u.unreachable (path_at t.paths k.0) (subst (λ q. Leads n n.root (path_at t.paths k.0) q) k.2 (t.path k.0 k.1).leads)

-- a processor is that of one node
pub node_once : (n : NetworkState) (nodes : List LoadNode) → IsLoadTree n nodes → (j k : ℕ) → j < k → k < length nodes
    → (node_at nodes j).processor ≡ (node_at nodes k).processor → ⊥
node_once n nodes t j k less h same =
    elim (mine.least (path_at t.paths k) (subst (λ q. Leads n n.root (path_at t.paths k) q) (sym same) other.leads)) [
      | inl one ↦ elim
          (other.least (path_at t.paths j) (subst (λ q. Leads n n.root (path_at t.paths j) q) same mine.leads)) [
            | inl two ↦ less_twice
                (path_at t.paths j) (path_at t.paths k) one two
            | inr equal ↦ apart (sym equal)
          ]
      | inr equal ↦ apart equal
    ]
  where
    mine : IsPath n (path_at t.paths j) (node_at nodes j).processor
    mine = t.path j (omega (arith, less, h))

    other : IsPath n (path_at t.paths k) (node_at nodes k).processor
    other = t.path k h

    apart : path_at t.paths j ≡ path_at t.paths k → ⊥
    apart e = stands_self (path_at t.paths k) (subst (λ p. PrecedesInDictionary p (path_at t.paths k)) e (t.order j k less h))
