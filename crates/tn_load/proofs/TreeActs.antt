-- What the processors of a load tree take and send: each what its parent sends to it, and the root the stream.
use Rattle.std.proofs.Common.{◌≡◌, ◌≢◌, ◌⊎◌, inl, inr, ℕ, zero, suc, ◌<◌, Bool, true, false, cond, List, [], ◌∷◌, ◌++◌, length, map}
use Rattle.std.proofs.Common.{Option, Some, None, refl, sym, ap, ◌∙◌, subst, arith}
use Rattle.std.specs.Prelude.{nat_eq, nat_lt}
use Rattle.std.proofs.lemmas.Bool.Decides.{nat_tests}
use Rattle.tn_net.specs.Trees.{LoadNode, node_at, children_below, is_parent}
use Rattle.tn_net.specs.WholeTrees.{IsWholeTree}
use Rattle.tn_stream.specs.Images.{ImageBytes}
use Rattle.tn_stream.specs.Branches.{Children, Branch}
use Rattle.tn_stream.specs.Branches.Children.{none, child}
use Rattle.tn_stream.specs.Streams.{Site, stream}
use Rattle.tn_stream.specs.LoadBranches.{hung, branch_at, whole_branch}
use Rattle.tn_stream.proofs.LoadBranchLaws.{linked, branch-is}
use Rattle.tn_load.specs.LoneRuns.{takes_of, sends_of}
use Rattle.tn_load.specs.Inner.Lives.{part, part_at, acts_at}
use Rattle.tn_load.proofs.LoaderActs.{takes_of-life}
use Rattle.tn_load.proofs.Fits.{IsFree, AreApart, IsChild, part_at-child, child-fits, free-sends}
use Rattle.tn_load.proofs.Fits.IsChild.{first, later}

-- ---- one child more

unfoldable with_child : {A : Type 0} → Children A → ℕ → A → Children A → Children A
with_child none l at its = child l at its none
with_child (child m here below others) l at its = child m here below (with_child others l at its)

free-more : {A : Type 0} (cs : Children A) (l m : ℕ) (at : A) (its : Children A) → IsFree l cs → m ≢ l → IsFree l (with_child cs m at its)
unfolding with_child
free-more none l m at its free other = (other, tt)
free-more (child x here below others) l m at its free other = (free.0, free-more others l m at its free.1 other)

apart-more : {A : Type 0} (cs : Children A) (m : ℕ) (at : A) (its : Children A) → AreApart cs → IsFree m cs
    → AreApart (with_child cs m at its)
unfolding with_child
apart-more none m at its apart free = (tt, tt)
apart-more (child x here below others) m at its apart free =
    (free-more others x m at its apart.0 (λ e. free.0 (sym e)), apart-more others m at its apart.1 free.1)

child-last : {A : Type 0} (cs : Children A) (m : ℕ) (at : A) (its : Children A) → IsFree m cs → IsChild m at its (with_child cs m at its)
unfolding with_child
child-last none m at its free = first
child-last (child x here below others) m at its free = later free.0 (child-last others m at its free.1)

child-more : {A : Type 0} (l : ℕ) (here : A) (below cs : Children A) (m : ℕ) (at : A) (its : Children A) → IsChild l here below cs
    → IsChild l here below (with_child cs m at its)
unfolding with_child
child-more l here below none m at its h = elim h [ ]
child-more l here below (child x one its_own others) m at its first = first
child-more l here below (child x one its_own others) m at its (later e h) = later e (child-more l here below others m at its h)

hung-more : (xs : List (ℕ × Branch Site)) (y : ℕ × Branch Site) → hung (xs ++ y ∷ []) ≡ with_child (hung xs) y.0 y.1.root y.1.below
unfolding hung with_child
hung-more [] y = refl
hung-more (x ∷ xs) y = ap (λ others. child x.0 x.1.root x.1.below others) (hung-more xs y)

map-more : {A B : Type 0} (f : A → B) (xs : List A) (y : A) → map f (xs ++ y ∷ []) ≡ map f xs ++ f y ∷ []
map-more f [] y = refl
map-more f (x ∷ xs) y = ap (λ rest. f x ∷ rest) (map-more f xs y)

-- ---- the children of a place

is-parent : (o : Option ℕ) (k : ℕ) → is_parent o k ≡ true → o ≡ Some k
is-parent None k e = absurd cc
is-parent (Some p) k e = let same : p ≡ k = grind (arith, nat_tests) in ap Some same

no-parent : (o : Option ℕ) (k : ℕ) → is_parent o k ≡ false → o ≢ Some k
no-parent None k e is = cc
no-parent (Some p) k e is = let same : p ≡ k = cc in grind (arith, nat_tests)

module _ (parent_at : ℕ → Option ℕ) (entry : ℕ → ℕ × Branch Site) (k : ℕ) where
  abbrev hanging : ℕ → Children Site
  hanging n = hung (map entry (children_below parent_at k n))

  -- the first n places hang below this one where it is their parent
  record Hang (n : ℕ) : Type 0 where
    pub apart : AreApart (hanging n)
    pub free : (l : ℕ) → ((c : ℕ) → c < n → parent_at c ≡ Some k → (entry c).0 ≢ l) → IsFree l (hanging n)
    pub child : (c : ℕ) → c < n → parent_at c ≡ Some k → IsChild (entry c).0 (entry c).1.root (entry c).1.below (hanging n)

  -- links rise
  abbrev Rise : ℕ → Type 0
  Rise n = (i j : ℕ) → i < j → j < n → parent_at i ≡ Some k → parent_at j ≡ Some k → (entry i).0 < (entry j).0

  hung-last : (xs : List ℕ) (c : ℕ) → hung (map entry (xs ++ c ∷ [])) ≡ with_child (hung (map entry xs)) (entry c).0 (entry c).1.root
      (entry c).1.below
  hung-last xs c = ap hung (map-more entry xs c) ∙ hung-more (map entry xs) (entry c)

  hang-none : Hang zero
  unfolding hung
  hang-none = record { apart = tt; free = λ l no_child. tt; child = λ c inside is. absurd (omega arith) }

  hang-same : (c : ℕ) → Hang c → (parent_at c ≢ Some k) → Hang (suc c)
  hang-same c h other =
      let same : children_below parent_at k (suc c) ≡ children_below parent_at k c = go (is_parent (parent_at c) k) refl in
      let e : hanging c ≡ hanging (suc c) = ap (λ xs. hung (map entry xs)) (sym same) in
      record {
        apart = subst AreApart e h.apart;
        free = λ l no_child. subst (IsFree l) e (h.free l (λ d inside is. no_child d (omega arith) is));
        child =
            λ d inside is. subst (IsChild (entry d).0 (entry d).1.root (entry d).1.below) e
            (h.child d (earlier d inside is (nat_lt d c) refl) is);
      }
    where
      go : (test : Bool) → is_parent (parent_at c) k ≡ test
          → cond test (children_below parent_at k c ++ c ∷ []) (children_below parent_at k c) ≡ children_below parent_at k c
      go true e = absurd (other (is-parent (parent_at c) k e))
      go false e = refl

      earlier : (d : ℕ) → d < suc c → parent_at d ≡ Some k → (test : Bool) → nat_lt d c ≡ test → d < c
      earlier d inside is true t = grind (arith, nat_tests)
      earlier d inside is false t =
          let same : d ≡ c = grind (arith, nat_tests) in
          absurd (other (ap parent_at (sym same) ∙ is))

  hang-more : (c : ℕ) → Rise (suc c) → Hang c → is_parent (parent_at c) k ≡ true → Hang (suc c)
  hang-more c rise h test =
      let its = is-parent (parent_at c) k test in
      let more : children_below parent_at k (suc c) ≡ children_below parent_at k c ++ c ∷ [] = rw test refl in
      let e : with_child (hanging c) (entry c).0 (entry c).1.root (entry c).1.below ≡ hanging (suc c) =
      sym (ap (λ xs. hung (map entry xs)) more ∙ hung-last (children_below parent_at k c) c) in
      let free_link : IsFree (entry c).0 (hanging c) =
      h.free (entry c).0 (λ d inside is same. let less = rise d c inside (omega arith) is its in omega (arith, less, same)) in
      record {
        apart = subst AreApart e (apart-more (hanging c) (entry c).0 (entry c).1.root (entry c).1.below h.apart free_link);
        free =
            λ l no_child. subst (IsFree l) e
            (free-more (hanging c) l (entry c).0 (entry c).1.root (entry c).1.below (h.free l (λ d inside is. no_child d (omega arith) is))
            (no_child c (omega arith) its));
        child = λ d inside is. subst (IsChild (entry d).0 (entry d).1.root (entry d).1.below) e
            (one d inside is free_link (nat_lt d c) refl);
      }
    where
      one : (d : ℕ) → d < suc c → parent_at d ≡ Some k → IsFree (entry c).0 (hanging c) → (test : Bool) → nat_lt d c ≡ test
          → IsChild (entry d).0 (entry d).1.root (entry d).1.below
          (with_child (hanging c) (entry c).0 (entry c).1.root (entry c).1.below)
      one d inside is free_link true t =
          child-more (entry d).0 (entry d).1.root (entry d).1.below (hanging c) (entry c).0 (entry c).1.root (entry c).1.below
          (h.child d (grind (arith, nat_tests)) is)
      one d inside is free_link false t =
          let same : c ≡ d = grind (arith, nat_tests) in
          subst (λ x. IsChild (entry x).0 (entry x).1.root (entry x).1.below
          (with_child (hanging c) (entry c).0 (entry c).1.root (entry c).1.below)) same
          (child-last (hanging c) (entry c).0 (entry c).1.root (entry c).1.below free_link)

  hang : (n : ℕ) → Rise n → Hang n
  hang zero rise = hang-none
  hang (suc c) rise = go (hang c (λ i j less inside. rise i j less (omega arith))) (is_parent (parent_at c) k) refl
    where
      go : Hang c → (test : Bool) → is_parent (parent_at c) k ≡ test → Hang (suc c)
      go h true test = hang-more c rise h test
      go h false test = hang-same c h (no-parent (parent_at c) k test)

-- ---- places of a whole tree

-- a child hangs at a link of a place, or none does
pub child-or-none : (nodes : List LoadNode) (p l n : ℕ)
    → ((c : ℕ) × (c < n) × ((node_at nodes c).parent ≡ Some p) × ((node_at nodes c).parent_link ≡ l))
    ⊎ ((c : ℕ) → c < n → (node_at nodes c).parent ≡ Some p → (node_at nodes c).parent_link ≢ l)
child-or-none nodes p l zero = inr (λ c inside. absurd (omega arith))
child-or-none nodes p l (suc n) = elim (child-or-none nodes p l n) [
  | inl found ↦ inl (found.0, omega (arith, found.1), found.2, found.3)
  | inr free ↦ go free (is_parent (node_at nodes n).parent p) refl (nat_eq (node_at nodes n).parent_link l) refl
]
  where
    go : ((c : ℕ) → c < n → (node_at nodes c).parent ≡ Some p → (node_at nodes c).parent_link ≢ l)
        → (a : Bool) → is_parent (node_at nodes n).parent p ≡ a → (b : Bool) → nat_eq (node_at nodes n).parent_link l ≡ b
        → ((c : ℕ) × (c < suc n) × ((node_at nodes c).parent ≡ Some p) × ((node_at nodes c).parent_link ≡ l))
        ⊎ ((c : ℕ) → c < suc n → (node_at nodes c).parent ≡ Some p → (node_at nodes c).parent_link ≢ l)
    go free true s true t = inl (n, omega arith, is-parent (node_at nodes n).parent p s, grind (arith, nat_tests))
    go free false s b t = inr (λ c inside is. last c inside is (nat_lt c n) refl)
      where
        last : (c : ℕ) → c < suc n → (node_at nodes c).parent ≡ Some p → (test : Bool) → nat_lt c n ≡ test
            → (node_at nodes c).parent_link ≢ l
        last c inside is true u = free c (grind (arith, nat_tests)) is
        last c inside is false u =
            let same : c ≡ n = grind (arith, nat_tests) in
            absurd (no-parent (node_at nodes n).parent p s (ap (λ x. (node_at nodes x).parent) (sym same) ∙ is))
    go free a s false t = inr (λ c inside is. last c inside is (nat_lt c n) refl)
      where
        last : (c : ℕ) → c < suc n → (node_at nodes c).parent ≡ Some p → (test : Bool) → nat_lt c n ≡ test
            → (node_at nodes c).parent_link ≢ l
        last c inside is true u = free c (grind (arith, nat_tests)) is
        last c inside is false u =
            let same : c ≡ n = grind (arith, nat_tests) in
            λ at. let here : (node_at nodes n).parent_link ≡ l =
            ap (λ x. (node_at nodes x).parent_link) (sym same) ∙ at in grind (arith, nat_tests)

module _ (images : List ImageBytes) (nodes : List LoadNode) (count : ℕ) (whole : IsWholeTree nodes count) where
  -- how the children of a place hang below it
  hangs : (k : ℕ) → k < length nodes → Hang (λ c. (node_at nodes c).parent) (linked images nodes count whole) k (length nodes)
  hangs k inside = hang (λ c. (node_at nodes c).parent) (linked images nodes count whole) k (length nodes)
      (λ i j less within one other. whole.rising i j k less within one other)

  below-is : (k : ℕ) → k < length nodes
      → (branch_at images nodes k).below ≡ hanging (λ c. (node_at nodes c).parent) (linked images nodes count whole) k (length nodes)
  below-is k inside =
      ap (λ b. b.below) (branch-is images nodes count whole k inside)
      ∙ ap (λ cs. hung (map (linked images nodes count whole) cs)) (whole.children k inside)

  -- a processor takes what its parent sends by the link that leads to it
  pub takes-sent : (k p : ℕ) → k < length nodes → p < length nodes → (node_at nodes k).parent ≡ Some p
      → takes_of (acts_at images nodes k) ≡ sends_of (node_at nodes k).parent_link (acts_at images nodes p)
  takes-sent k p inside within is =
      let h = hangs p within in
      let e = below-is p within in
      let at : IsChild (node_at nodes k).parent_link (branch_at images nodes k).root (branch_at images nodes k).below
      (branch_at images nodes p).below =
      subst (IsChild (node_at nodes k).parent_link (branch_at images nodes k).root (branch_at images nodes k).below) (sym e)
      (h.child k inside is) in
      child-fits (branch_at images nodes p).root (branch_at images nodes p).below (node_at nodes k).parent_link
      (branch_at images nodes k).root (branch_at images nodes k).below at (subst AreApart (sym e) h.apart)

  -- by that link a wave sends what the child gets in it
  pub part-sent : (front back : Site → List ℕ) (k p : ℕ) → k < length nodes → p < length nodes → (node_at nodes k).parent ≡ Some p
      → part_at front back (node_at nodes k).parent_link (branch_at images nodes p).below
      ≡ part front back (branch_at images nodes k).root (branch_at images nodes k).below
  part-sent front back k p inside within is =
      let h = hangs p within in
      let e = below-is p within in
      let at : IsChild (node_at nodes k).parent_link (branch_at images nodes k).root (branch_at images nodes k).below
      (branch_at images nodes p).below =
      subst (IsChild (node_at nodes k).parent_link (branch_at images nodes k).root (branch_at images nodes k).below) (sym e)
      (h.child k inside is) in
      part_at-child front back (node_at nodes k).parent_link (branch_at images nodes k).root (branch_at images nodes k).below
      (branch_at images nodes p).below at (subst AreApart (sym e) h.apart)

  -- by a link where no child hangs it sends nothing
  pub sends-none : (p l : ℕ) → p < length nodes
      → ((c : ℕ) → c < length nodes → (node_at nodes c).parent ≡ Some p → (node_at nodes c).parent_link ≢ l)
      → sends_of l (acts_at images nodes p) ≡ []
  sends-none p l within no_child =
      free-sends (branch_at images nodes p).root (branch_at images nodes p).below l
      (subst (IsFree l) (sym (below-is p within)) ((hangs p within).free l no_child))

-- the root takes the whole stream
pub takes-stream : (images : List ImageBytes) (nodes : List LoadNode)
    → takes_of (acts_at images nodes 0) ≡ stream (whole_branch images nodes)
unfolding stream
takes-stream images nodes = takes_of-life (branch_at images nodes 0).root (branch_at images nodes 0).below
