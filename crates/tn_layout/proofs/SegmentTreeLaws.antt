-- Trees whose nodes are joined of their children: what a changed leaf leaves, sums of first leaves, and
-- where a number is not exceeded.
use Rattle.std.proofs.Common.{◌≡◌, ◌≢◌, ℕ, zero, suc, ◌+◌, ◌*◌, ◌/◌, ◌%◌, ◌^◌, ◌<◌, ◌≤◌, ◌==◌, ◌⊎◌, inl, inr, Bool, true, false, max}
use Rattle.std.proofs.Math.Nat.{pow-succ'}
use Rattle.std.proofs.Common.{◌-◌, List, length, get_or, set, refl, sym, ap, ap₂, ◌∙◌, arith, if◌then◌else◌}
use Rattle.std.proofs.lemmas.Bool.{cases_lt}
use Rattle.std.proofs.lemmas.Bool.Decides.{nat_tests}
use Rattle.std.proofs.lemmas.List.{get_or-set_same, get_or-set_other, get_or_past}
use Rattle.tn_layout.specs.Inner.SegmentTrees.{leaf, IsJoined, sum_from}

-- each node above the leaves but one is joined of its children
abbrev pub IsJoinedBut : (ℕ → ℕ → ℕ) → List ℕ → ℕ → ℕ → Type 0
IsJoinedBut join nodes width w =
    (v : ℕ) → 0 < v → v < width → v ≢ w → get_or nodes v 0 ≡ join (get_or nodes (2 * v) 0) (get_or nodes (2 * v + 1) 0)

-- another node than v / 2 has not v for a child
not-left : (u v : ℕ) → u ≢ v / 2 → 2 * u ≢ v
not-left u v other e = other (omega (arith, e))

not-right : (u v : ℕ) → u ≢ v / 2 → 2 * u + 1 ≢ v
not-right u v other e = other (omega (arith, e))

module _ (join : ℕ → ℕ → ℕ) (nodes : List ℕ) (width : ℕ) where
  -- a node that changes leaves all joined but its parent
  pub changed : (v x : ℕ) → width ≤ v → IsJoined join nodes width → IsJoinedBut join (set nodes v x) width (v / 2)
  changed v x low joined u some below other =
      get_or-set_other nodes v u x 0 (λ e. absurd (omega (arith, e)))
      ∙ joined u some below
      ∙ sym (ap₂ (λ a b. join a b) (get_or-set_other nodes v (2 * u) x 0 (not-left u v other))
      (get_or-set_other nodes v (2 * u + 1) x 0 (not-right u v other)))

  -- a node that is joined anew leaves all joined but its own parent
  pub renewed : (v : ℕ) → 0 < v → v < width → length nodes ≡ 2 * width → IsJoinedBut join nodes width v
      → IsJoinedBut join (set nodes v (join (get_or nodes (2 * v) 0) (get_or nodes (2 * v + 1) 0))) width (v / 2)
  renewed v some below long joined u up under other =
      by (u == v) refl
    where
      x : ℕ
      x = join (get_or nodes (2 * v) 0) (get_or nodes (2 * v + 1) 0)

      children : join (get_or nodes (2 * u) 0) (get_or nodes (2 * u + 1) 0)
          ≡ join (get_or (set nodes v x) (2 * u) 0) (get_or (set nodes v x) (2 * u + 1) 0)
      children = sym (ap₂ (λ a b. join a b) (get_or-set_other nodes v (2 * u) x 0 (not-left u v other))
          (get_or-set_other nodes v (2 * u + 1) x 0 (not-right u v other)))

      by : (t : Bool) → (u == v) ≡ t → get_or (set nodes v x) u 0
          ≡ join (get_or (set nodes v x) (2 * u) 0) (get_or (set nodes v x) (2 * u + 1) 0)
      by true e =
          let is : u ≡ v = grind (arith, nat_tests) in
          ap (λ w. get_or (set nodes v x) w 0) is ∙ get_or-set_same nodes v x 0 (omega (arith, long))
          ∙ ap (λ w. join (get_or nodes (2 * w) 0) (get_or nodes (2 * w + 1) 0)) (sym is) ∙ children
      by false e =
          let not : u ≢ v = grind (arith, nat_tests) in
          get_or-set_other nodes v u x 0 not ∙ joined u up under not ∙ children

  -- no node is the parent of the root
  pub all-joined : (w : ℕ) → w ≡ 0 → IsJoinedBut join nodes width w → IsJoined join nodes width
  all-joined w none joined v some below = joined v some below (λ e. absurd (omega (arith, e, none)))

  -- a node above the leaves is none of them
  pub leaf-kept : (v x k : ℕ) → v < width → leaf (set nodes v x) width k ≡ leaf nodes width k
  leaf-kept v x k below = get_or-set_other nodes v (width + k) x 0 (λ e. absurd (omega (arith, e)))

  -- a leaf that is set
  pub leaf-set : (i x k : ℕ) → i < width → length nodes ≡ 2 * width
      → leaf (set nodes (width + i) x) width k ≡ (if k == i then x else leaf nodes width k)
  leaf-set i x k here long = by (k == i) refl
    where
      by : (t : Bool) → (k == i) ≡ t → leaf (set nodes (width + i) x) width k ≡ (if k == i then x else leaf nodes width k)
      by true e = let is : k ≡ i = grind (arith, nat_tests) in
          rw (e) (ap (λ j. leaf (set nodes (width + i) x) width j) is ∙ get_or-set_same nodes (width + i) x 0 (omega (arith, long)))
      by false e = let not : k ≢ i = grind (arith, nat_tests) in
          rw (e) (get_or-set_other nodes (width + i) (width + k) x 0 (λ same. not (omega (arith, same))))

-- ---- sums of first leaves

-- the sum of two numbers modulo 2^32
abbrev pub wrapped_sum : ℕ → ℕ → ℕ
wrapped_sum a b = (a + b) % 2 ^ 32

-- twice as many nodes of the next level have the same sum
pub sum-level : (nodes : List ℕ) (width first n : ℕ) → IsJoined wrapped_sum nodes width → 0 < first → first + n ≤ width
    → sum_from nodes (2 * first) (2 * n) % 2 ^ 32 ≡ sum_from nodes first n % 2 ^ 32
unfolding sum_from
sum-level nodes width first zero joined some below = refl
sum-level nodes width first (suc n) joined some below =
    let two : 2 * suc n ≡ suc (suc (2 * n)) = omega arith in
    let left : 2 * first + 2 * n ≡ 2 * (first + n) = omega arith in
    let right : 2 * first + suc (2 * n) ≡ 2 * (first + n) + 1 = omega arith in
    let same = sum-level nodes width first n joined some (omega arith) in
    let node = joined (first + n) (omega arith) (omega arith) in
    rw (two, left, right) (omega (arith, same, node))

-- one node more of an odd number
pub sum-odd : (nodes : List ℕ) (first n : ℕ) → n % 2 ≡ 1
    → sum_from nodes first n ≡ sum_from nodes first (2 * (n / 2)) + get_or nodes (first + 2 * (n / 2)) 0
unfolding sum_from
sum-odd nodes first n odd = let is : n ≡ suc (2 * (n / 2)) = omega (arith, odd) in ap (λ m. sum_from nodes first m) is

pub sum-even : (nodes : List ℕ) (first n : ℕ) → n % 2 ≡ 0 → sum_from nodes first n ≡ sum_from nodes first (2 * (n / 2))
sum-even nodes first n even = let is : n ≡ 2 * (n / 2) = omega (arith, even) in ap (λ m. sum_from nodes first m) is

-- ---- where a number is not exceeded

-- no node before another on its level exceeds a number
abbrev pub NoneBefore : List ℕ → ℕ → ℕ → ℕ → Type 0
NoneBefore nodes number first v = (u : ℕ) → first ≤ u → u < v → get_or nodes u 0 ≤ number

greater : (a b number : ℕ) → max a b ≤ number → (a ≤ number) × (b ≤ number)
greater a b number h = (grind (arith, nat_tests), grind (arith, nat_tests))

-- the children of nodes that don't exceed it don't either
pub none-below : (nodes : List ℕ) (width number first v : ℕ) → IsJoined (λ a b. max a b) nodes width → 0 < first → v ≤ width
    → NoneBefore nodes number first v → NoneBefore nodes number (2 * first) (2 * v)
none-below nodes width number first v joined some below none u low under = by (cases_odd (u % 2) (omega arith))
  where
    cases_odd : (m : ℕ) → m < 2 → (m ≡ 0) ⊎ (m ≡ 1)
    cases_odd zero h = inl refl
    cases_odd (suc zero) h = inr refl
    cases_odd (suc (suc m)) h = absurd (omega arith)

    parent : max (get_or nodes (2 * (u / 2)) 0) (get_or nodes (2 * (u / 2) + 1) 0) ≤ number
    parent = omega (arith, sym (joined (u / 2) (omega arith) (omega arith)), none (u / 2) (omega arith) (omega arith))

    by : (u % 2 ≡ 0) ⊎ (u % 2 ≡ 1) → get_or nodes u 0 ≤ number
    by (inl even) = let is : u ≡ 2 * (u / 2) = omega (arith, even) in
        omega (
          arith,
          ap (λ w. get_or nodes w 0) is,
          (greater (get_or nodes (2 * (u / 2)) 0) (get_or nodes (2 * (u / 2) + 1) 0) number
              parent).0,
        )
    by (inr odd) = let is : u ≡ 2 * (u / 2) + 1 = omega (arith, odd) in
        omega (
          arith,
          ap (λ w. get_or nodes w 0) is,
          (greater (get_or nodes (2 * (u / 2)) 0) (get_or nodes (2 * (u / 2) + 1) 0) number
              parent).1,
        )

-- ---- levels

-- the width of the level above
pub halved : (first level : ℕ) → first ≡ 2 ^ level → 0 < level → (first / 2 ≡ 2 ^ (level - 1)) × (first ≡ 2 * (first / 2))
halved first zero is some = absurd (omega arith)
halved first (suc level) is some =
    let back : suc level - 1 ≡ level = omega arith in
    (rw (back) (omega (arith, is, pow-succ' 2 level)), omega (arith, is, pow-succ' 2 level))

module _ (nodes : List ℕ) (width first n sum whole : ℕ) (joined : IsJoined wrapped_sum nodes width) (even : first ≡ 2 * (first / 2))
    (some : 0 < first / 2) (below : n < first) (wide : first ≤ width)
    (sums : (sum + sum_from nodes first n) % 2 ^ 32 ≡ whole) where
  same-level : sum_from nodes first (2 * (n / 2)) % 2 ^ 32 ≡ sum_from nodes (first / 2) (n / 2) % 2 ^ 32
  same-level = ap (λ f. sum_from nodes f (2 * (n / 2)) % 2 ^ 32) even ∙ sum-level nodes width (first / 2) (n / 2) joined some (omega arith)

  pub step-even : n % 2 ≡ 0 → (sum + sum_from nodes (first / 2) (n / 2)) % 2 ^ 32 ≡ whole
  step-even e = omega (arith, sums, same-level, sum-even nodes first n e)

  pub step-odd : n % 2 ≡ 1 → ((sum + get_or nodes (first + n - 1) 0) % 2 ^ 32 + sum_from nodes (first / 2) (n / 2)) % 2 ^ 32 ≡ whole
  step-odd odd =
      let at : first + n - 1 ≡ first + 2 * (n / 2) = omega (arith, odd) in
      rw (at) (omega (arith, sums, same-level, sum-odd nodes first n odd))

-- ---- the way down to the first leaf above a number

-- at the right child of a node above it, where the left one is not
pub right-above : (nodes : List ℕ) (width number first v : ℕ) → IsJoined (λ a b. max a b) nodes width → 0 < first → 0 < v → v < width
    → number < get_or nodes v 0 → get_or nodes (2 * v) 0 ≤ number → NoneBefore nodes number first v
    → (number < get_or nodes (2 * v + 1) 0) × NoneBefore nodes number (2 * first) (2 * v + 1)
right-above nodes width number first v joined some up below above low none = (other, before)
  where
    other : number < get_or nodes (2 * v + 1) 0
    other =
        let is : get_or nodes v 0 ≡ max (get_or nodes (2 * v) 0) (get_or nodes (2 * v + 1) 0) = joined v up below in
        grind (arith, nat_tests)

    before : NoneBefore nodes number (2 * first) (2 * v + 1)
    before u l under = elim (cases_lt u (2 * v)) [
      | inl less ↦ none-below nodes width number first v joined some (omega arith) none u l less
      | inr over ↦ (let is : u ≡ 2 * v = omega arith in omega (arith, ap (λ w. get_or nodes w 0) is, low))
    ]

-- powers of two
pub some-power : (level : ℕ) → 0 < 2 ^ level
some-power zero = omega arith
some-power (suc level) = omega (arith, some-power level, pow-succ' 2 level)

more-power : (level more : ℕ) → 2 ^ level ≤ 2 ^ (more + level)
more-power level zero = let e : 0 + level ≡ level = omega arith in rw (e) (omega arith)
more-power level (suc more) = let e : suc more + level ≡ suc (more + level) = omega arith in
    rw (e) (omega (arith, more-power level more, pow-succ' 2 (more + level)))

pub power-most : (level depth : ℕ) → level ≤ depth → 2 ^ level ≤ 2 ^ depth
power-most level depth low = let is : (depth - level) + level ≡ depth = omega arith in
    omega (arith, ap (λ n. 2 ^ n) is, more-power level (depth - level))

-- no leaf is above a number that the root is not above
pub none-above : (nodes : List ℕ) (width number : ℕ) → IsJoined (λ a b. max a b) nodes width → get_or nodes 1 0 ≤ number
    → (depth level : ℕ) → width ≡ 2 ^ depth → level ≤ depth → NoneBefore nodes number (2 ^ level) (2 ^ level + 2 ^ level)
none-above nodes width number joined root depth zero wide low u first under =
    let is : u ≡ 1 = omega arith in omega (arith, ap (λ w. get_or nodes w 0) is, root)
none-above nodes width number joined root depth (suc level) wide low u first under =
    none-below nodes width number (2 ^ level) (2 ^ level + 2 ^ level) joined (some-power level)
    (omega (arith, wide, power-most (suc level) depth low, pow-succ' 2 level))
    (none-above nodes width number joined root depth level wide (omega arith)) u (omega (arith, pow-succ' 2 level))
    (omega (arith, pow-succ' 2 level))

-- no leaf, that is
pub no-leaf-above : (nodes : List ℕ) (width depth number : ℕ) → IsJoined (λ a b. max a b) nodes width → get_or nodes 1 0 ≤ number
    → width ≡ 2 ^ depth → length nodes ≡ 2 * width → (i : ℕ) → leaf nodes width i ≤ number
no-leaf-above nodes width depth number joined root wide long i = elim (cases_lt i width) [
  | inl here ↦ none-above nodes width number joined root depth depth wide (omega arith) (width + i) (omega (arith, wide))
      (omega (arith, wide))
  | inr past ↦ omega (arith, get_or_past nodes (width + i) 0 (omega (arith, long)))
]

-- the level below is twice as wide
pub wider : (level : ℕ) → 2 ^ (level + 1) ≡ 2 * 2 ^ level
wider level = let e : level + 1 ≡ suc level = omega arith in rw (e) (pow-succ' 2 level)
