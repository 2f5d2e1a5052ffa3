-- Each place of a load tree but the first is a child of one other.
use Rattle.std.proofs.Common.{◌≡◌, ◌≢◌, ℕ, zero, suc, ◌+◌, ◌<◌, ◌≤◌, Bool, true, false, Option, Some, None, [], ◌∷◌, ◌++◌, refl, ap}
use Rattle.std.proofs.Common.{◌∙◌, arith}
use Rattle.std.specs.Prelude.{if◌then◌else◌, nat_eq, nat_lt, ◌||◌}
use Rattle.std.proofs.lemmas.Bool.Decides.{nat_tests}
use Rattle.std.specs.Prelude.{sum_by}
use Rattle.std.proofs.lemmas.List.Sums.{sum_by_push}
use Rattle.tn_net.specs.Trees.{is_parent, children_below}
use Rattle.tn_load.specs.Plans.{sum_below}

-- a sum over the numbers below n
abbrev pub total : (ℕ → ℕ) → ℕ → ℕ
total g n = sum_below n g

pub total-add : (f g : ℕ → ℕ) (n : ℕ) → total (λ k. f k + g k) n ≡ total f n + total g n
unfolding sum_below
total-add f g zero = refl
total-add f g (suc n) = let e = total-add f g n in omega arith

pub total-same : (f g : ℕ → ℕ) (n : ℕ) → ((k : ℕ) → k < n → f k ≡ g k) → total f n ≡ total g n
unfolding sum_below
total-same f g zero same = refl
total-same f g (suc n) same =
    let e = total-same f g n (λ k inside. same k (omega arith)) in
    let last = same n (omega arith) in
    omega arith

-- one child more
module _ (g : ℕ → ℕ) (parent_at : ℕ → Option ℕ) where
  hit : ℕ → ℕ → ℕ
  hit c k = if is_parent (parent_at c) k then g c else 0

  child-more : (c k : ℕ) → sum_by g (children_below parent_at k (suc c)) ≡ sum_by g (children_below parent_at k c) + hit c k
  unfolding hit
  child-more c k = go (is_parent (parent_at c) k)
    where
      go : (test : Bool) → sum_by g (if test then children_below parent_at k c ++ c ∷ [] else children_below parent_at k c) ≡ sum_by g
          (children_below parent_at k c) + (if test then g c else 0)
      go true = sum_by_push g (children_below parent_at k c) c
      go false = omega arith

  children-more : (c n : ℕ) → total (λ k. sum_by g (children_below parent_at k (suc c))) n ≡ total
      (λ k. sum_by g (children_below parent_at k c)) n + total (hit c) n
  unfolding sum_below
  children-more c zero = refl
  children-more c (suc n) =
      let e = children-more c n in
      let f = child-more c n in
      omega arith

  -- the parent is one place
  missed : (c p n : ℕ) → parent_at c ≡ Some p → n ≤ p → total (hit c) n ≡ 0
  unfolding sum_below hit
  missed c p zero e high = refl
  missed c p (suc n) e high =
      let rest = missed c p n e (omega arith) in
      let none : (if is_parent (parent_at c) n then g c else 0) ≡ 0 = rw e (go (nat_eq p n) (grind (arith, nat_tests))) in
      omega arith
    where
      go : (test : Bool) → test ≡ false → (if test then g c else 0) ≡ 0
      go false e = refl
      go true e = cc

  hits-once : (c p n : ℕ) → parent_at c ≡ Some p → p < n → total (hit c) n ≡ g c
  unfolding sum_below hit
  hits-once c p zero e low = absurd (omega arith)
  hits-once c p (suc n) e low = go (λ lower. hits-once c p n e lower) (nat_eq p n) refl
    where
      at : (test : Bool) → nat_eq p n ≡ test → (if is_parent (parent_at c) n then g c else 0) ≡ (if test then g c else 0)
      at test t = rw (e, t) refl

      go : (p < n → total (hit c) n ≡ g c) → (test : Bool) → nat_eq p n ≡ test
          → total (hit c) n + (if is_parent (parent_at c) n then g c else 0) ≡ g c
      go earlier true t =
          let last = at true t in
          let before = missed c p n e (grind (arith, nat_tests)) in
          omega arith
      go earlier false t =
          let last = at false t in
          let before = earlier (grind (arith, nat_tests)) in
          omega arith

  none-hit : (c n : ℕ) → parent_at c ≡ None → total (hit c) n ≡ 0
  unfolding sum_below hit
  none-hit c zero e = refl
  none-hit c (suc n) e = let rest = none-hit c n e in let last : (if is_parent (parent_at c) n then g c else 0) ≡ 0 =
      rw e refl in omega arith

  nothing : (n : ℕ) → total (λ k. sum_by g (children_below parent_at k zero)) n ≡ 0
  unfolding sum_below
  nothing zero = refl
  nothing (suc n) = let rest = nothing n in omega arith

  counted : (n m : ℕ) → parent_at 0 ≡ None → ((c : ℕ) → 0 < c → c < n → (p : ℕ) × (parent_at c ≡ Some p) × (p < n)) → suc m ≤ n
      → total (λ k. sum_by g (children_below parent_at k (suc m))) n + g 0 ≡ total g (suc m)
  unfolding sum_below
  counted n zero top parents within =
      let more = children-more 0 n in
      let first = nothing n in
      let none = none-hit 0 n top in
      omega arith
  counted n (suc m) top parents within =
      let before = counted n m top parents (omega arith) in
      let more = children-more (suc m) n in
      let its = parents (suc m) (omega arith) (omega arith) in
      let once = hits-once (suc m) its.0 n its.1 its.2 in
      omega arith

  -- a sum over all places is one over all children of all places, and the first
  pub counts-once : (n : ℕ) → parent_at 0 ≡ None → ((c : ℕ) → 0 < c → c < suc n → (p : ℕ) × (parent_at c ≡ Some p) × (p < suc n))
      → total (λ k. sum_by g (children_below parent_at k (suc n))) (suc n) + g 0 ≡ total g (suc n)
  counts-once n top parents = counted (suc n) n top parents (omega arith)

-- ---- a sum over the values of a function that takes each once

module _ (h value : ℕ → ℕ) where
  -- a number is the value of one below n
  unfoldable seen : ℕ → ℕ → Bool
  seen zero q = false
  seen (suc n) q = nat_eq (value n) q || seen n q

  unfoldable part : ℕ → ℕ → ℕ
  part n q = if seen n q then h q else 0

  unseen : (n q : ℕ) → ((k : ℕ) → k < n → value k ≢ q) → seen n q ≡ false
  unfolding seen
  unseen zero q apart = refl
  unseen (suc n) q apart =
      let earlier = unseen n q (λ k inside. apart k (omega arith)) in
      let here : nat_eq (value n) q ≡ false = let other = apart n (omega arith) in grind (arith, nat_tests) in
      rw (here, earlier) refl

  is-seen : (n q k : ℕ) → k < n → value k ≡ q → seen n q ≡ true
  unfolding seen
  is-seen zero q k inside is = absurd (omega arith)
  is-seen (suc n) q k inside is = go (nat_eq (value n) q) refl (λ earlier. is-seen n q k earlier is)
    where
      go : (test : Bool) → nat_eq (value n) q ≡ test → (k < n → seen n q ≡ true) → nat_eq (value n) q || seen n q ≡ true
      go true t rest = rw t refl
      go false t rest = rw (t, rest (less (nat_lt k n) refl)) refl
        where
          less : (b : Bool) → nat_lt k n ≡ b → k < n
          less true u = grind (arith, nat_tests)
          less false u =
              let same : n ≡ k = grind (arith, nat_tests) in
              let at : value n ≡ q = ap value same ∙ is in
              absurd (clash at)
            where
              clash : value n ≡ q → ⊥
              clash at = grind (arith, nat_tests)

  -- a sum whose terms differ at one place
  differs-past : (f g : ℕ → ℕ) (p m : ℕ) → ((q : ℕ) → q ≢ p → g q ≡ f q) → m ≤ p → total g m ≡ total f m
  differs-past f g p m same past = total-same g f m (λ q inside. same q (λ e. omega (arith, e)))

  differs-once : (f g : ℕ → ℕ) (p d m : ℕ) → ((q : ℕ) → q ≢ p → g q ≡ f q) → g p ≡ f p + d → p < m → total g m ≡ total f m + d
  unfolding sum_below
  differs-once f g p d zero same at inside = absurd (omega arith)
  differs-once f g p d (suc m) same at inside = go (nat_lt p m) refl (λ earlier. differs-once f g p d m same at earlier)
    where
      go : (test : Bool) → nat_lt p m ≡ test → (p < m → total g m ≡ total f m + d) → total g m + g m ≡ total f m + f m + d
      go true t rest =
          let before = rest (grind (arith, nat_tests)) in
          let last = same m (λ e. grind (arith, nat_tests)) in
          omega arith
      go false t rest =
          let here : m ≡ p = grind (arith, nat_tests) in
          let before = differs-past f g p m same (omega arith) in
          let last : g m ≡ f m + d = rw here at in
          omega arith

  part-more : (n q : ℕ) → q ≢ value n → part (suc n) q ≡ part n q
  unfolding part seen
  part-more n q other = let here : nat_eq (value n) q ≡ false = grind (arith, nat_tests) in rw here refl

  part-here : (n : ℕ) → seen n (value n) ≡ false → part (suc n) (value n) ≡ part n (value n) + h (value n)
  unfolding part seen
  part-here n fresh = let here : nat_eq (value n) (value n) ≡ true = grind (arith, nat_tests) in rw (here, fresh) (omega arith)

  parts : (n m : ℕ) → ((k : ℕ) → k < n → value k < m) → ((j k : ℕ) → j < k → k < n → value j ≢ value k)
      → total (part n) m ≡ total (λ k. h (value k)) n
  unfolding sum_below part seen
  parts zero m inside apart = none m
    where
      none : (m : ℕ) → total (part zero) m ≡ 0
      none zero = refl
      none (suc m) = let e = none m in omega arith
  parts (suc n) m inside apart =
      let before = parts n m (λ k less. inside k (omega arith)) (λ j k less within. apart j k less (omega arith)) in
      let fresh = unseen n (value n) (λ k less. apart k n less (omega arith)) in
      let more = differs-once (part n) (part (suc n)) (value n) (h (value n)) m (part-more n) (part-here n fresh)
      (inside n (omega arith)) in
      omega arith

  -- where each number below m is the value of one below n, and of one alone
  pub sums-once : (n m : ℕ) → ((k : ℕ) → k < n → value k < m) → ((j k : ℕ) → j < k → k < n → value j ≢ value k)
      → ((q : ℕ) → q < m → (k : ℕ) × (k < n) × (value k ≡ q)) → total h m ≡ total (λ k. h (value k)) n
  unfolding part
  sums-once n m inside apart all = total-same h (part n) m here ∙ parts n m inside apart
    where
      here : (q : ℕ) → q < m → h q ≡ part n q
      here q less = let at = all q less in rw (is-seen n q at.0 at.1 at.2) refl
