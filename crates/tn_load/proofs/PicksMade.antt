-- Settling a network makes its picks in order.
use Rattle.std.proofs.Common.{◌≡◌, inl, inr, ℕ, zero, suc, ◌-◌, ◌^◌, ◌<◌, ◌≤◌, Bool, true, false, List, [], ◌∷◌, length}
use Rattle.std.proofs.Common.{reverse, Option, Some, None, refl, sym, ap, subst, ◌∙◌, arith, append-nil}
use Rattle.std.specs.Prelude.{slice_get, find, nat_lt, IsTrue, if◌then◌else◌}
use Rattle.std.proofs.lemmas.Bool.{cases_lt}
use Rattle.std.proofs.lemmas.Bool.Decides.{nat_tests}
use Rattle.tn_net.specs.Networks.{NetworkState}
use Rattle.tn_stream.specs.Images.{ImageBytes}
use Rattle.tn_network.specs.declared.picks.Pick.{Pick}
use Rattle.tn_network.specs.declared.picks.Pick.TheVariants.{HostSend, HostTake, Proc, Send, Take}
use Rattle.tn_node.specs.Nodes.{NodeState}
use Rattle.tn_network.specs.Boards.{BoardState, given}
use Rattle.tn_network.specs.Holds.{HoldState, enabled}
use Rattle.tn_network.specs.Loads.{IsLoaded}
use Rattle.tn_network.specs.Nets.{NetState, memory_ops, net_enabled, net_after}
use Rattle.tn_network.specs.PickLists.{picks, picks_in_order, followed, settled}
use Rattle.tn_network.specs.Resets.{PowerState, AreSized}
use Rattle.tn_network.specs.Inner.PickBits.{numbered, first_number, number_of}
use Rattle.tn_network.proofs.PickOrder.{picks-get, find-none, get-reverse}
use Rattle.tn_network.proofs.EnabledLaws.{proc-number, send-number, take-number, host-numbers, number-within}
use Rattle.tn_load.specs.Settles.{walked}
use Rattle.tn_load.specs.NetWalks.{NetAtRest, net_first, after_some, net_walked}
use Rattle.tn_load.specs.Boots.{Boots, IsLive, Rests, begun, state_behind}
use Rattle.tn_load.specs.Targets.{targets_of}
use Rattle.tn_load.specs.SettledNets.{SettledNet, net_settled, WereMade, IsShown}
use Rattle.tn_load.proofs.WalkLaws.{first-enabled}

-- ---- where no pick is found

none-both : {X : Type 0} (test : X → Bool) (y : X) (xs : List X) → find test (y ∷ xs) ≡ None → (test y ≡ false) × (find test xs ≡ None)
none-both {X = X} test y xs none = go (test y) refl none
  where
    go : (b : Bool) → test y ≡ b → (if b then Some y else find test xs) ≡ None → (test y ≡ false) × (find test xs ≡ None)
    go true here e = cc
    go false here e = (here, e)

none-told : {X : Type 0} (test : X → Bool) (xs : List X) → find test xs ≡ None → (j : ℕ) (y : X) → slice_get xs j ≡ Some y → test y ≡ false
none-told test [] none j y at = cc
none-told {X = X} test (x ∷ xs) none zero y at =
    let same : x ≡ y = cc in
    subst (λ (z : X). test z ≡ false) same (none-both test x xs none).0
none-told test (x ∷ xs) none (suc j) y at = none-told test xs (none-both test x xs none).1 j y at

word : (clock : ℕ) → nat_lt clock (2 ^ 32) ≡ true → clock < 2 ^ 32
word clock is = grind (arith, nat_tests)

module _ (n : NetState) where
  abbrev AllOff : Type 0
  AllOff = (k : ℕ) → k < first_number (length n.board.state.nodes) → net_enabled n (numbered k) ≡ false

  -- no pick of the order is enabled
  none-off : (back : Bool) → net_first back n ≡ None → AllOff
  none-off false none k low =
      none-told (λ pick. net_enabled n pick) (picks (length n.board.state.nodes)) none k (numbered k)
      (picks-get (length n.board.state.nodes) k low)
  none-off true none k low =
      none-told (λ pick. net_enabled n pick) (reverse (picks (length n.board.state.nodes))) none
      (length (picks (length n.board.state.nodes)) - 1 - k) (numbered k)
      (get-reverse (picks (length n.board.state.nodes)) k (numbered k) (picks-get (length n.board.state.nodes) k low))

  off-number : AllOff → (pick : Pick)
      → given false (λ k. net_enabled n (numbered k)) (number_of (length n.board.state.nodes) pick) ≡ net_enabled n pick
      → net_enabled n pick ≡ false
  off-number off pick tells = sym tells ∙ go (number_of (length n.board.state.nodes) pick) refl
    where
      go : (o : Option ℕ) → number_of (length n.board.state.nodes) pick ≡ o → given false (λ k. net_enabled n (numbered k)) o ≡ false
      go None is = refl
      go (Some k) is = off k (number-within memory_ops n.board.network n.holds (length n.board.state.nodes) pick k is)

  -- nor then is any other
  off-rest : AllOff → NetAtRest n
  off-rest off HostSend = off-number off HostSend (host-numbers memory_ops n.board.network n.holds n.board.state).0
  off-rest off HostTake = off-number off HostTake (host-numbers memory_ops n.board.network n.holds n.board.state).1
  off-rest off (Proc p slice clock) = go (nat_lt clock (2 ^ 32)) refl
    where
      go : (b : Bool) → nat_lt clock (2 ^ 32) ≡ b → net_enabled n (Proc p slice clock) ≡ false
      go true is =
          off-number off (Proc p slice clock)
          (proc-number memory_ops n.board.network n.holds n.board.state p clock slice (word clock is))
      go false is = rw is refl
  off-rest off (Send p l) = off-number off (Send p l) (send-number memory_ops n.board.network n.holds n.board.state p l)
  off-rest off (Take p l) = off-number off (Take p l) (take-number memory_ops n.board.network n.holds n.board.state p l)

  -- none comes first exactly at rest
  pub none-rest : (back : Bool) → net_first back n ≡ None → NetAtRest n
  none-rest back none = off-rest (none-off back none)

  pub rest-none : (back : Bool) → NetAtRest n → net_first back n ≡ None
  rest-none back rest = find-none (λ pick. net_enabled n pick) (picks_in_order back (length n.board.state.nodes)) (λ j y at. rest y)

-- ---- the picks made

made-none : (back : Bool) (most : ℕ) (n new : NetState) → new ≡ n → net_settled back most n ≡ []
    → WereMade n new 0 (net_settled back most n)
made-none back most n new same none =
    subst (λ (ps : List Pick). WereMade n new 0 ps) (sym none) (record {
      count = refl;
      enabled = tt;
      state = ap (λ (x : NetState). x.board.state) same;
      network = ap (λ (x : NetState). x.board.network) same;
      holds = ap (λ (x : NetState). x.holds) same;
    })

settled-zero : (back : Bool) (n : NetState) → net_settled back 0 n ≡ []
unfolding settled
settled-zero back n = refl

settled-more : (back : Bool) (most : ℕ) (n : NetState) (o : Option Pick) → net_first back n ≡ o
    → net_settled back (suc most) n ≡ followed o (λ pick. net_settled back most (net_after pick n))
unfolding settled
settled-more back most n o is = ap (λ (first : Option Pick). followed first (λ pick. net_settled back most (net_after pick n))) is

made-more : (back : Bool) (most : ℕ) (n new : NetState) (steps : ℕ) (pick : Pick) → net_first back n ≡ Some pick
    → WereMade (net_after pick n) new steps (net_settled back most (net_after pick n))
    → WereMade n new (suc steps) (net_settled back (suc most) n)
made-more back most n new steps pick first made =
    subst (λ (ps : List Pick). WereMade n new (suc steps) ps) (sym (settled-more back most n (Some pick) first)) (record {
      count = ap suc made.count;
      enabled = (first-enabled back n pick first, made.enabled);
      state = made.state;
      network = made.network;
      holds = made.holds;
    })

walked-zero : (back : Bool) (n : NetState) → walked (net_walked back) 0 n ≡ n
unfolding walked
walked-zero back n = refl

walked-one : (back : Bool) (n : NetState) (k : ℕ) (pick : Pick) → net_first back n ≡ Some pick
    → walked (net_walked back) (suc k) n ≡ walked (net_walked back) k (net_after pick n)
unfolding walked
walked-one back n k pick first = ap (λ (o : Option Pick). walked (net_walked back) k (after_some o n)) first

made : (back : Bool) (most : ℕ) (n new : NetState) (steps : ℕ) → steps ≤ most → new ≡ walked (net_walked back) steps n
    → ((k : ℕ) → k < steps → NetAtRest (walked (net_walked back) k n) → ⊥) → (steps < most → NetAtRest new)
    → WereMade n new steps (net_settled back most n)
made back zero n new zero few state going short = made-none back 0 n new (state ∙ walked-zero back n) (settled-zero back n)
made back zero n new (suc steps) few state going short = absurd (omega (arith, few))
made back (suc most) n new zero few state going short =
    let same : new ≡ n = state ∙ walked-zero back n in
    let rest : NetAtRest n = subst (λ (x : NetState). NetAtRest x) same (short (omega arith)) in
    made-none back (suc most) n new same (settled-more back most n None (rest-none n back rest))
made back (suc most) n new (suc steps) few state going short = go (net_first back n) refl (made back most)
  where
    go : (o : Option Pick) → net_first back n ≡ o
        → ((m x : NetState) (count : ℕ) → count ≤ most → x ≡ walked (net_walked back) count m
        → ((k : ℕ) → k < count → NetAtRest (walked (net_walked back) k m) → ⊥) → (count < most → NetAtRest x)
        → WereMade m x count (net_settled back most m))
        → WereMade n new (suc steps) (net_settled back (suc most) n)
    go None first later =
        absurd
        (going 0 (omega arith) (subst (λ (x : NetState). NetAtRest x) (sym (walked-zero back n)) (none-rest n back first)))
    go (Some pick) first later =
        made-more back most n new steps pick first
        (later (net_after pick n) new steps (omega (arith, few)) (state ∙ walked-one back n steps pick first)
        (λ k low rest. going (suc k) (omega (arith, low))
        (subst (λ (x : NetState). NetAtRest x) (sym (walked-one back n k pick first)) rest))
        (λ low. short (omega (arith, low))))

pub made-picks : (back : Bool) (most : ℕ) (old new : NetState) (steps : ℕ) (rested : Bool) → SettledNet back most old new steps rested
    → WereMade old new steps (net_settled back most old)
made-picks back most old new steps rested s = made back most old new steps s.few s.state s.going s.short

-- ---- a network that boots

rests : (old new : NetState) (steps : ℕ) (ps : List Pick) → WereMade old new steps ps
    → (NetAtRest new → Rests old ps) × (Rests old ps → NetAtRest new)
rests old new steps ps m = (λ rest pick. sym (alike pick) ∙ rest pick, λ rest pick. alike pick ∙ rest pick)
  where
    alike : (pick : Pick)
        → net_enabled new pick ≡ enabled memory_ops old.board.network old.holds (state_behind old ps) pick
    alike pick =
        ap (λ (s : BoardState (NodeState (List ℕ))). enabled memory_ops new.board.network new.holds s pick) m.state
        ∙ ap (λ (x : NetworkState). enabled memory_ops x new.holds (state_behind old ps) pick) m.network
        ∙ ap (λ (h : HoldState). enabled memory_ops old.board.network h (state_behind old ps) pick) m.holds

shown : (images : List ImageBytes) (wanted most : ℕ) (old new : NetState) (steps : ℕ) (rested : Bool) (ps : List Pick)
    → WereMade old new steps ps → IsLive old images wanted → length ps ≤ wanted → wanted ≤ most → (steps < most → NetAtRest new)
    → (NetAtRest new → IsTrue rested) → IsShown new images wanted steps rested
shown images wanted most old new steps rested ps m live bound enough short told = elim (cases_lt steps most) [
  | inl low ↦ whole ((live.rest ps m.enabled).0 ((rests old new steps ps m).0 (short low)))
  | inr large ↦ whole (let count = m.count in omega (arith, large, bound, enough, count))
]
  where
    whole : length ps ≡ wanted → IsShown new images wanted steps rested
    whole same = record {
      made = sym m.count ∙ same;
      rests = told ((rests old new steps ps m).1 ((live.rest ps m.enabled).1 same));
      loaded = subst (λ (s : BoardState (NodeState (List ℕ))). IsLoaded (λ memory. memory) s (targets_of images)) (sym m.state)
          (live.loaded ps m.enabled same);
    }

pub boots-shown : (network : NetworkState) (images : List ImageBytes) (bytes : List ℕ) (wanted : ℕ) → Boots network images bytes wanted
    → (powers : List PowerState) → AreSized powers network → (back : Bool) (most : ℕ) (new : NetState) (steps : ℕ) (rested : Bool)
    → wanted ≤ most → SettledNet back most (begun network images powers bytes) new steps rested
    → IsShown new images wanted steps rested
boots-shown network images bytes wanted boots powers sized back most new steps rested enough s =
    let loads = boots powers sized in
    let m = made-picks back most (begun network images powers bytes) new steps rested s in
    let safe = loads.safe bytes [] (sym (append-nil bytes)) in
    shown images wanted most (begun network images powers bytes) new steps rested
    (net_settled back most (begun network images powers bytes)) m loads.live
    (safe.bound (net_settled back most (begun network images powers bytes)) m.enabled) enough s.short s.rest.1
