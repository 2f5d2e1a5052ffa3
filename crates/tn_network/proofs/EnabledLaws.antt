-- Which picks stay enabled, by what a pick leaves as it was.
use Rattle.std.proofs.Common.{◌≡◌, ◌≢◌, ℕ, zero, suc, ◌+◌, ◌-◌, ◌*◌, ◌/◌, ◌%◌, ◌<◌, ◌≤◌, ◌==◌, ◌⊎◌, inl, inr, Bool, true, false, List}
use Rattle.std.proofs.Common.{length}
use Rattle.std.proofs.Common.{Option, Some, None, refl, sym, ap, subst, ◌∙◌, arith, ◌^◌}
use Rattle.std.specs.Prelude.{slice_get, nat_lt, nat_le, ◌&&◌, not, is_some, if◌then◌else◌}
use Rattle.std.proofs.lemmas.Bool.{cases_eq, cases_lt}
use Rattle.std.proofs.lemmas.Bool.Decides.{nat_tests}
use Rattle.std.proofs.lemmas.Option.{slice_get_past}
use Rattle.tn_net.specs.Networks.{NetworkState}
use Rattle.tn_network.specs.declared.picks.Pick.{Pick}
use Rattle.tn_network.specs.declared.picks.Pick.TheVariants.{HostSend, HostTake, Proc, Send, Take}
use Rattle.tn_network.specs.Boards.{BoardState, given, at_node, latch_at}
use Rattle.tn_network.specs.NodeOps.{NodeOps}
use Rattle.tn_network.specs.Steps.{offered, is_wired, ready}
use Rattle.tn_network.specs.Holds.{HoldState, is_held, enabled}
use Rattle.tn_network.specs.Locality.{IsSameAt}
use Rattle.tn_network.specs.Inner.PickBits.{pick_of, numbered, first_number, number_of}
use Rattle.tn_network.proofs.PickOrder.{numbered-pick}

module _ {N : Type 0} (ops : NodeOps N) (network : NetworkState) (holds : HoldState) where
  -- a pick of a processor that is as before is enabled as before
  pub enabled-same : (s t : BoardState N) (p kind : ℕ) → kind < 9 → IsSameAt p s t
      → enabled ops network holds t (pick_of p kind) ≡ enabled ops network holds s (pick_of p kind)
  enabled-same s t p kind small same = go (kind == 0) (nat_lt kind 5) refl refl
    where
      go : (a b : Bool) → kind == 0 ≡ a → nat_lt kind 5 ≡ b
          → enabled ops network holds t (if a then Proc p false 0 else (if b then Send p (kind - 1) else Take p (kind - 5)))
          ≡ enabled ops network holds s (if a then Proc p false 0 else (if b then Send p (kind - 1) else Take p (kind - 5)))
      go true b is at = rw same.node refl
      go false true is at = rw same.node refl
      go false false is at =
          let low : kind - 5 < 4 = grind (arith, nat_tests) in
          rw (same.node, same.latches (kind - 5) low) refl

  -- a pick of a processor that is not there is never enabled
  pub enabled-past : (s : BoardState N) (p kind : ℕ) → length s.nodes ≤ p → enabled ops network holds s (pick_of p kind) ≡ false
  enabled-past s p kind past = go (kind == 0) (nat_lt kind 5)
    where
      none : slice_get s.nodes p ≡ None
      none = slice_get_past s.nodes p past

      either : (test : Bool) → (test && false) ≡ false
      either true = refl
      either false = refl

      go : (a b : Bool)
          → enabled ops network holds s (if a then Proc p false 0 else (if b then Send p (kind - 1) else Take p (kind - 5))) ≡ false
      go true b = rw none refl
      go false true = rw none (either (nat_lt (kind - 1) 4))
      go false false = rw none (either (nat_lt (kind - 5) 4))

  -- ---- numbers

  -- the picks of a processor by their numbers
  pub at_pick : (s : BoardState N) (p kind : ℕ) (pick : Pick) → kind < 9 → pick_of p kind ≡ pick
      → enabled ops network holds s (numbered (first_number p + kind)) ≡ enabled ops network holds s pick
  at_pick s p kind pick small is = ap (λ x. enabled ops network holds s x) (numbered-pick p kind small ∙ is)

  first : (p : ℕ) → first_number p + 0 ≡ first_number p
  first p = omega arith

  low : (l : ℕ) → nat_lt l 4 ≡ true → l < 4
  low l h = grind (arith, nat_tests)

  sends : (p l : ℕ) → l < 4 → pick_of p (1 + l) ≡ Send p l
  sends p l small =
      let zero : 1 + l == 0 ≡ false = grind (arith, nat_tests) in
      let below : nat_lt (1 + l) 5 ≡ true = grind (arith, nat_tests) in
      let same : 1 + l - 1 ≡ l = omega arith in
      rw (zero, below, same) refl

  takes : (p l : ℕ) → l < 4 → pick_of p (5 + l) ≡ Take p l
  takes p l small =
      let zero : 5 + l == 0 ≡ false = grind (arith, nat_tests) in
      let above : nat_lt (5 + l) 5 ≡ false = grind (arith, nat_tests) in
      let same : 5 + l - 5 ≡ l = omega arith in
      rw (zero, above, same) refl

  -- no node stands at a place from the number of processors on
  none_past : (s : BoardState N) (p : ℕ) → nat_lt p (length s.nodes) ≡ false → slice_get s.nodes p ≡ None
  none_past s p past = let large : length s.nodes ≤ p = grind (arith, nat_tests) in slice_get_past s.nodes p large

  and_false : (test : Bool) → (test && false) ≡ false
  and_false true = refl
  and_false false = refl

  -- a pick is enabled where the one in order with its number is, if it has one; the clock of a step is a word
  pub proc-number : (s : BoardState N) (p clock : ℕ) (slice : Bool) → clock < 2 ^ 32
      → given false (λ k. enabled ops network holds s (numbered k)) (number_of (length s.nodes) (Proc p slice clock))
      ≡ enabled ops network holds s (Proc p slice clock)
  proc-number s p clock slice small = go (nat_lt p (length s.nodes)) refl
    where
      word : nat_lt clock (2 ^ 32) ≡ true
      word = grind (arith, nat_tests)

      go : (test : Bool) → nat_lt p (length s.nodes) ≡ test
          → given false (λ k. enabled ops network holds s (numbered k)) (if test then Some (first_number p) else None)
          ≡ enabled ops network holds s (Proc p slice clock)
      go true is =
          let number : enabled ops network holds s (numbered (first_number p)) ≡ enabled ops network holds s (Proc p false 0) =
          ap (λ k. enabled ops network holds s (numbered k)) (sym (first p)) ∙ at_pick s p 0 (Proc p false 0) (omega arith) refl in
          number ∙ rw word refl
      go false is = rw (none_past s p is, word) refl

  pub send-number : (s : BoardState N) (p l : ℕ)
      → given false (λ k. enabled ops network holds s (numbered k)) (number_of (length s.nodes) (Send p l))
      ≡ enabled ops network holds s (Send p l)
  send-number s p l = go (nat_lt p (length s.nodes)) (nat_lt l 4) refl refl
    where
      go : (a b : Bool) → nat_lt p (length s.nodes) ≡ a → nat_lt l 4 ≡ b
          → given false (λ k. enabled ops network holds s (numbered k)) (if a && b then Some (first_number p + (1 + l)) else None)
          ≡ enabled ops network holds s (Send p l)
      go true true is at = at_pick s p (1 + l) (Send p l) (omega (arith, low l at)) (sends p l (low l at))
      go true false is at = rw at refl
      go false b is at = rw (none_past s p is) (sym (and_false (nat_lt l 4)))

  pub take-number : (s : BoardState N) (p l : ℕ)
      → given false (λ k. enabled ops network holds s (numbered k)) (number_of (length s.nodes) (Take p l))
      ≡ enabled ops network holds s (Take p l)
  take-number s p l = go (nat_lt p (length s.nodes)) (nat_lt l 4) refl refl
    where
      go : (a b : Bool) → nat_lt p (length s.nodes) ≡ a → nat_lt l 4 ≡ b
          → given false (λ k. enabled ops network holds s (numbered k)) (if a && b then Some (first_number p + (5 + l)) else None)
          ≡ enabled ops network holds s (Take p l)
      go true true is at = at_pick s p (5 + l) (Take p l) (omega (arith, low l at)) (takes p l (low l at))
      go true false is at = rw at refl
      go false b is at = rw (none_past s p is) (sym (and_false (nat_lt l 4)))

  pub host-numbers : (s : BoardState N)
      → (enabled ops network holds s (numbered 0) ≡ enabled ops network holds s HostSend)
      × (enabled ops network holds s (numbered 1) ≡ enabled ops network holds s HostTake)
  unfolding numbered
  host-numbers s = (refl, refl)

  pub number-within : (count : ℕ) (pick : Pick) (k : ℕ) → number_of count pick ≡ Some k → k < first_number count
  number-within count HostSend k is = let same : 0 ≡ k = cc in omega arith
  number-within count HostTake k is = let same : 1 ≡ k = cc in omega arith
  number-within count (Proc p slice clock) k is = go (nat_lt p count) refl is
    where
      go : (test : Bool) → nat_lt p count ≡ test → (if test then Some (first_number p) else None) ≡ Some k → k < first_number count
      go true at e = let inside : p < count = grind (arith, nat_tests) in let same : first_number p ≡ k = cc in omega arith
      go false at e = cc
  number-within count (Send p l) k is = go (nat_lt p count) (nat_lt l 4) refl refl is
    where
      go : (a b : Bool) → nat_lt p count ≡ a → nat_lt l 4 ≡ b → (if a && b then Some (first_number p + (1 + l)) else None) ≡ Some k
          → k < first_number count
      go true true at link e =
          let inside : p < count = grind (arith, nat_tests) in
          let same : first_number p + (1 + l) ≡ k = cc in
          omega (arith, low l link)
      go true false at link e = cc
      go false b at link e = cc
  number-within count (Take p l) k is = go (nat_lt p count) (nat_lt l 4) refl refl is
    where
      go : (a b : Bool) → nat_lt p count ≡ a → nat_lt l 4 ≡ b → (if a && b then Some (first_number p + (5 + l)) else None) ≡ Some k
          → k < first_number count
      go true true at link e =
          let inside : p < count = grind (arith, nat_tests) in
          let same : first_number p + (5 + l) ≡ k = cc in
          omega (arith, low l link)
      go true false at link e = cc
      go false b at link e = cc
