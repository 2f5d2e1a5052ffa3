-- In a list of nodes whose parents stand before them, what a node and all below it weigh is at most
-- what all nodes weigh.
use Rattle.std.proofs.Common.{◌≡◌, ℕ, zero, suc, ◌+◌, ◌-◌, ◌*◌, ◌<◌, ◌≤◌, Bool, true, false, ◌&&◌, cond, [], ◌∷◌, ◌++◌, Option}
use Rattle.std.proofs.Common.{Some, None, refl, ap, ◌∙◌, subst, arith}
use Rattle.std.specs.Prelude.{nat_lt, nat_le, sum_by}
use Rattle.std.proofs.Math.Nat.{mul-le-mul_right}
use Rattle.std.proofs.lemmas.Bool.Decides.{nat_tests}
use Rattle.std.proofs.lemmas.List.Sums.{sum_by_push}
use Rattle.tn_net.specs.Trees.{children_below, is_parent}

-- whether a node hangs above place k: its parent stands before k, or it has none
abbrev hangs : Option ℕ → ℕ → Bool
hangs None k = true
hangs (Some p) k = nat_lt p k

-- of what hangs above k, with what hangs below it, one node more
one_more : (o : Option ℕ) (k c x y : ℕ) → ((p : ℕ) → o ≡ Some p → p < c) → (c ≡ k → x ≡ y)
    → cond (nat_le k c && hangs o k) x 0 + cond (is_parent o k) x 0 + cond (nat_lt k c) y 0
    ≤ cond (nat_le (k + 1) c && hangs o (k + 1)) x 0 + cond (nat_lt k (c + 1)) y 0
one_more None k c x y before same = grind (arith, nat_tests)
one_more (Some p) k c x y before same = let earlier : p < c = before p refl in grind (arith, nat_tests)

module _ (n : ℕ) (parent : ℕ → Option ℕ) (before : (c p : ℕ) → c < n → parent c ≡ Some p → p < c) (weigh : ℕ → ℕ) where
  -- what those below place c weigh that hang above k, and stand at k or behind it
  hanging : ℕ → ℕ → ℕ
  hanging k zero = 0
  hanging k (suc c) = hanging k c + cond (nat_le k c && hangs (parent c) k) (weigh c) 0

  abbrev below : ℕ → ℕ → ℕ
  below k c = sum_by weigh (children_below parent k c)

  below-more : (k c : ℕ) → below k (suc c) ≡ below k c + cond (is_parent (parent c) k) (weigh c) 0
  below-more k c = at (is_parent (parent c) k)
    where
      at : (b : Bool) → sum_by weigh (cond b (children_below parent k c ++ c ∷ []) (children_below parent k c))
          ≡ below k c + cond b (weigh c) 0
      at true = sum_by_push weigh (children_below parent k c) c
      at false = omega arith

  step : (k c : ℕ) → c ≤ n → hanging k c + below k c ≤ hanging (k + 1) c + cond (nat_lt k c) (weigh k) 0
  unfolding hanging
  step k zero h = omega arith
  step k (suc c) h =
      let so_far : hanging k c + below k c ≤ hanging (k + 1) c + cond (nat_lt k c) (weigh k) 0 = step k c (omega arith) in
      let one = one_more (parent c) k c (weigh c) (weigh k) (λ p e. before c p (omega arith) e) (λ e. ap weigh e) in
      let more = below-more k c in
      let next : c + 1 ≡ suc c = omega arith in
      let last : cond (nat_lt k (c + 1)) (weigh k) 0 ≡ cond (nat_lt k (suc c)) (weigh k) 0 = ap (λ d. cond (nat_lt k d) (weigh k) 0) next in
      omega (arith, so_far, one, more, last)

  none : (c : ℕ) → c ≤ n → hanging n c ≡ 0
  unfolding hanging
  none zero h = refl
  none (suc c) h =
      let so_far = none c (omega arith) in
      let here : cond (nat_le n c && hangs (parent c) n) (weigh c) 0 ≡ 0 = past (hangs (parent c) n) in
      omega (arith, so_far, here)
    where
      past : (b : Bool) → cond (nat_le n c && b) (weigh c) 0 ≡ 0
      past b = let test : nat_le n c ≡ false = grind (arith, nat_tests) in rw test refl

  itself : (k : ℕ) → k < n → cond (nat_le k k && hangs (parent k) k) (weigh k) 0 ≡ weigh k
  itself k inside = at (parent k) refl
    where
      at : (o : Option ℕ) → parent k ≡ o → cond (nat_le k k && hangs o k) (weigh k) 0 ≡ weigh k
      at None is = let test : nat_le k k ≡ true = grind (arith, nat_tests) in rw test refl
      at (Some p) is =
          let earlier : p < k = before k p inside is in
          let test : nat_le k k ≡ true = grind (arith, nat_tests) in
          let less : nat_lt p k ≡ true = grind (arith, nat_tests) in
          ap (λ b. cond (b && nat_lt p k) (weigh k) 0) test ∙ ap (λ b. cond b (weigh k) 0) less

  within : (k c : ℕ) → k < c → c ≤ n → weigh k ≤ hanging k c
  unfolding hanging
  within k zero h g = absurd (omega arith)
  within k (suc c) h g = at (nat_lt k c) refl (λ e. within k c e (omega arith))
    where
      at : (b : Bool) → nat_lt k c ≡ b → (k < c → weigh k ≤ hanging k c)
          → weigh k ≤ hanging k c + cond (nat_le k c && hangs (parent c) k) (weigh c) 0
      at true test so_far =
          let earlier : k < c = grind (arith, nat_tests) in
          let here = so_far earlier in
          omega (arith, here)
      at false test so_far =
          let same : k ≡ c = grind (arith, nat_tests) in
          let here : cond (nat_le k c && hangs (parent c) k) (weigh c) 0 ≡ weigh k =
          subst (λ j. cond (nat_le k j && hangs (parent j) k) (weigh j) 0 ≡ weigh k) same (itself k (omega arith)) in
          omega (arith, here)

  module _ (most : ℕ) (bounded : (k : ℕ) → k < n → weigh k ≤ below k n + most) where
    all : (d k : ℕ) → k + d ≡ n → hanging k n ≤ d * most
    all zero k e =
        let same : k ≡ n = omega arith in
        let nothing = none n (omega arith) in
        let at_k : hanging k n ≡ hanging n n = ap (λ j. hanging j n) same in
        omega (arith, nothing, at_k)
    all (suc d) k e =
        let inside : k < n = omega arith in
        let more = all d (k + 1) (omega arith) in
        let one = step k n (omega arith) in
        let test : nat_lt k n ≡ true = grind (arith, nat_tests) in
        let last : cond (nat_lt k n) (weigh k) 0 ≡ weigh k = ap (λ b. cond b (weigh k) 0) test in
        let product : suc d * most ≡ d * most + most = omega arith in
        omega (arith, more, one, last, bounded k inside, product)

    -- each node with all below it weighs at most what all may
    pub weight-bound : (k : ℕ) → k < n → weigh k ≤ n * most
    weight-bound k inside =
        let split : k + (n - k) ≡ n = omega arith in
        let mine = within k n inside (omega arith) in
        let rest = all (n - k) k split in
        let fewer : (n - k) * most ≤ n * most = mul-le-mul_right most (omega arith) in
        omega (arith, mine, rest, fewer)
