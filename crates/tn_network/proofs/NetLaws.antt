-- What the bits of a network tell.
use Rattle.std.proofs.Common.{◌≡◌, ◌≢◌, ℕ, zero, suc, ◌+◌, ◌-◌, ◌*◌, ◌/◌, ◌^◌, ◌<◌, ◌≤◌, ◌⊎◌, inl, inr, Bool, true, false, List, [], length}
use Rattle.std.proofs.Common.{reverse, Option, Some, None, refl, sym, ap, subst, ◌∙◌, arith}
use Rattle.std.specs.Prelude.{slice_get, find, is_some, not, nat_lt, ◌&&◌, IsTrue, MatchOption, if◌then◌else◌}
use Rattle.std.proofs.lemmas.Bool.{cases_lt}
use Rattle.std.proofs.lemmas.Bool.Decides.{nat_tests}
use Rattle.std.proofs.lemmas.Option.{same_Some, slice_get_within}
use Rattle.tn_mem.specs.Memories.{plain_access}
use Rattle.tn_net.specs.declared.networks.Far.{Far}
use Rattle.tn_net.specs.Networks.{NetworkState, IsPairing}
use Rattle.tn_node.specs.Nodes.{NodeState, IsNode}
use Rattle.tn_network.specs.Wires.{IsBoard}
use Rattle.tn_network.specs.declared.picks.Pick.{Pick}
use Rattle.tn_network.specs.declared.picks.Pick.TheVariants.{HostSend, HostTake, Proc, Send, Take}
use Rattle.tn_network.specs.Boards.{BoardState, WiredBoard, given, at_node}
use Rattle.tn_network.specs.Steps.{ready, step, after_pick}
use Rattle.tn_network.specs.Holds.{HoldState, is_held}
use Rattle.tn_network.specs.Locality.{actor, other_end, IsLocal}
use Rattle.tn_network.specs.PickLists.{AtRest, picks, picks_in_order, first_pick}
use Rattle.tn_network.specs.Nets.{NetState, memory_ops, net_enabled, net_after, net_of}
use Rattle.tn_network.specs.Inner.PickBits.{has_bit, numbered, first_number, number_of, HasWord, HasRoom, TellPicks, IsRenewed, IsAmong}
use Rattle.tn_network.specs.Inner.PickBits.{is_touched, NoBit, IsFirstBit, IsLastBit, IsEdgeBit, IsNet}
use Rattle.tn_network.proofs.NodeLists.{length-changed}
use Rattle.tn_network.proofs.WireLaws.{both}
use Rattle.tn_network.proofs.LocalLaws.{step-local}
use Rattle.tn_network.proofs.PickOrder.{length-picks, picks-get, find-place, find-none, reverse-get, get-reverse}
use Rattle.tn_network.proofs.EnabledLaws.{proc-number, send-number, take-number, host-numbers, number-within}
use Rattle.tn_network.proofs.RenewLaws.{none_above, tell-after}
use Rattle.tn_network.specs.Steps.{nodes_acknowledged}
use Rattle.tn_net.specs.declared.networks.Far.TheVariants.{Nothing, Host, Link}
use Rattle.tn_net.specs.Networks.{far_at}
use Rattle.tn_network.specs.NodeOps.{NodeOps}

-- ---- one pick

-- a pick is enabled where that with its number is, if it has one
number-tells : (n : NetState) (pick : Pick) → HasWord pick
    → given false (λ k. net_enabled n (numbered k)) (number_of (length n.board.state.nodes) pick) ≡ net_enabled n pick
number-tells n HostSend word = (host-numbers memory_ops n.board.network n.holds n.board.state).0
number-tells n HostTake word = (host-numbers memory_ops n.board.network n.holds n.board.state).1
number-tells n (Proc p slice clock) word = proc-number memory_ops n.board.network n.holds n.board.state p clock slice word
number-tells n (Send p l) word = send-number memory_ops n.board.network n.holds n.board.state p l
number-tells n (Take p l) word = take-number memory_ops n.board.network n.holds n.board.state p l

module _ (n m : NetState) (words : List ℕ) (count : ℕ) (pick : Pick) (is : n ≡ m) (net : IsNet words n)
    (all : count ≡ length n.board.state.nodes) (word : HasWord pick) where
  at_count : number_of count pick ≡ number_of (length n.board.state.nodes) pick
  at_count = ap (λ c. number_of c pick) all

  pub enabled-number : (number : ℕ) → Some number ≡ number_of count pick → has_bit words number ≡ net_enabled m pick
  enabled-number number e =
      let at : number_of (length n.board.state.nodes) pick ≡ Some number = sym (e ∙ at_count) in
      let low = number-within memory_ops n.board.network n.holds (length n.board.state.nodes) pick number at in
      let within : number < 64 * length words = let room = net.room in omega arith in
      let here : net_enabled n (numbered number) ≡ net_enabled n pick =
      ap (λ o. given false (λ k. net_enabled n (numbered k)) o) (sym at) ∙ number-tells n pick word in
      net.tell number within ∙ here ∙ ap (λ x. net_enabled x pick) is

  pub enabled-none : None ≡ number_of count pick → false ≡ net_enabled m pick
  enabled-none e =
      ap (λ o. given false (λ k. net_enabled n (numbered k)) o) (e ∙ at_count) ∙ number-tells n pick word ∙ ap (λ x. net_enabled x pick) is

-- ---- after a pick

-- an enabled pick is ready, also where processors are held
pub enabled-ready : (n : NetState) (pick : Pick) → net_enabled n pick ≡ true
    → ready memory_ops n.board.network n.board.state pick ≡ true
enabled-ready n HostSend h = h
enabled-ready n HostTake h = h
enabled-ready n (Proc p slice clock) h =
    (both (ready memory_ops n.board.network n.board.state (Proc p slice clock)) (not
    (is_held memory_ops n.holds n.board.state.nodes p)) h).0
enabled-ready n (Send p l) h = h
enabled-ready n (Take p l) h = h

length-acknowledged : (far : Far) (nodes : List (NodeState (List ℕ))) → length (nodes_acknowledged memory_ops far nodes) ≡ length nodes
length-acknowledged Nothing nodes = refl
length-acknowledged Host nodes = refl
length-acknowledged (Link q m) nodes = length-changed (memory_ops.acknowledge m) nodes q

length-step : (network : NetworkState) (pick : Pick) (s : BoardState (NodeState (List ℕ)))
    → length (step memory_ops network pick s).nodes ≡ length s.nodes
length-step network HostSend s = refl
length-step network HostTake s = length-changed (memory_ops.acknowledge network.root_link) s.nodes network.root
length-step network (Proc p slice clock) s = length-changed (memory_ops.run p slice clock) s.nodes p
length-step network (Send p l) s = length-changed (memory_ops.send l) s.nodes p
length-step network (Take p l) s = length-acknowledged (far_at network p l) _ ∙ length-changed (memory_ops.take l _) s.nodes p

pub length-after : (pick : Pick) (b t : WiredBoard (NodeState (List ℕ))) → t ≡ after_pick memory_ops pick b
    → length t.state.nodes ≡ length b.state.nodes
length-after pick b t is =
    ap (λ (x : WiredBoard (NodeState (List ℕ))). length x.state.nodes) is ∙ length-step b.network pick b.state

pub still_among : (count now : ℕ) (far there : Far) → there ≡ far → now ≡ count → IsAmong count far → IsAmong now there
still_among count now far there same all among =
    subst (λ (f : Far). IsAmong now f) (sym same) (subst (λ (c : ℕ). IsAmong c far) (sym all) among)

module _ (n m : NetState) (words : List ℕ) (pick : Pick) (t : WiredBoard (NodeState (List ℕ))) (is : n ≡ m) (net : IsNet words n)
    (on : net_enabled m pick ≡ true) (after : t ≡ after_pick memory_ops pick n.board) where
  is_ready : ready memory_ops n.board.network n.board.state pick ≡ true
  is_ready = enabled-ready n pick (ap (λ x. net_enabled x pick) is ∙ on)

  local : IsLocal n.board.network pick n.board.state (net_after pick n).board.state
  local = step-local memory_ops n.board.network n.board.state net.pairing pick is_ready

  pub net-local : IsLocal m.board.network pick m.board.state t.state
  net-local =
      subst (λ (x : NetState). IsLocal x.board.network pick x.board.state t.state) is
      (subst (λ (x : WiredBoard (NodeState (List ℕ))). IsLocal n.board.network pick n.board.state x.state) (sym after) local)

  pub net-kept : (ends : ℕ × Far) → ends ≡ (actor n.board.network pick, other_end n.board.network pick) → (renewed : List ℕ)
      → length renewed ≡ length words → IsRenewed (is_touched ends.0 ends.1) (net_of t n.holds) words renewed
      → IsNet renewed (net_of t n.holds)
  net-kept ends at renewed same bits =
      subst (λ (x : WiredBoard (NodeState (List ℕ))). IsNet renewed (net_of x n.holds)) (sym after) (record {
        entries = net.entries ∙ sym (length-step n.board.network pick n.board.state);
        room = let room = net.room in omega (arith, length-step n.board.network pick n.board.state);
        few = let few = net.few in omega arith;
        pairing = net.pairing;
        tell = tell-after n pick words renewed same net.tell local new_bits;
      })
    where
      new_bits : IsRenewed (is_touched (actor n.board.network pick) (other_end n.board.network pick)) (net_after pick n) words renewed
      new_bits =
          subst (λ (x : WiredBoard (NodeState (List ℕ))). IsRenewed
          (is_touched (actor n.board.network pick) (other_end n.board.network pick)) (net_of x n.holds) words renewed) after
          (subst (λ (e : ℕ × Far). IsRenewed (is_touched e.0 e.1) (net_of t n.holds) words renewed) at bits)

-- ---- the first pick, and rest

module _ (n : NetState) (words : List ℕ) (net : IsNet words n) where
  -- a bit that is set is that of a pick of the order
  in_order : (k : ℕ) → k < 64 * length words → has_bit words k ≡ true → k < first_number (length n.board.state.nodes)
  in_order k within set = elim (cases_lt k (first_number (length n.board.state.nodes))) [
    | inl low ↦ low
    | inr above ↦ absurd (let clash : true ≡ false = sym set ∙ net.tell k within ∙ none_above n k above in cc)
  ]

  -- a pick that the order has at a place is that with the number
  at_place : (j : ℕ) (y : Pick) → slice_get (picks (length n.board.state.nodes)) j ≡ Some y → j < first_number (length n.board.state.nodes)
      → net_enabled n y ≡ has_bit words j
  at_place j y at low =
      let same : y ≡ numbered j = same_Some y (numbered j) (sym at ∙ picks-get (length n.board.state.nodes) j low) in
      ap (net_enabled n) same ∙ sym (net.tell j (let room = net.room in omega arith))

  within_order : (j : ℕ) (y : Pick) → slice_get (picks (length n.board.state.nodes)) j ≡ Some y
      → j < first_number (length n.board.state.nodes)
  within_order j y at = omega (
    arith,
    slice_get_within (picks (length n.board.state.nodes)) j y at,
    length-picks
        (length n.board.state.nodes),
  )

  pub first-none : (back : Bool) → NoBit words → first_pick memory_ops n.board.network n.holds back n.board.state ≡ None
  first-none false none =
      find-none (λ pick. net_enabled n pick) (picks (length n.board.state.nodes)) (λ j y at.
      let low = within_order j y at in
      at_place j y at low ∙ none j (let room = net.room in omega arith))
  first-none true none =
      find-none (λ pick. net_enabled n pick) (reverse (picks (length n.board.state.nodes))) (λ j y at.
      let there = reverse-get (picks (length n.board.state.nodes)) j y at in
      let low = within_order there.0 y there.1 in
      at_place there.0 y there.1 low ∙ none there.0 (let room = net.room in omega arith))

  pub first-some : (back : Bool) (k : ℕ) → IsEdgeBit back words k
      → first_pick memory_ops n.board.network n.holds back n.board.state ≡ Some (numbered k)
  first-some false k edge =
      let low = in_order k edge.within edge.here in
      let at = picks-get (length n.board.state.nodes) k low in
      find-place (λ pick. net_enabled n pick) (picks (length n.board.state.nodes)) k (numbered k) at
      (at_place k (numbered k) at low ∙ edge.here) (λ j y below is. at_place j y is (within_order j y is) ∙ edge.before j below)
  first-some true k edge =
      let low = in_order k edge.within edge.here in
      let at = picks-get (length n.board.state.nodes) k low in
      find-place (λ pick. net_enabled n pick) (reverse (picks (length n.board.state.nodes)))
      (length (picks (length n.board.state.nodes)) - 1 - k) (numbered k)
      (get-reverse (picks (length n.board.state.nodes)) k (numbered k) at) (at_place k (numbered k) at low ∙ edge.here) (λ j y below is.
      let there = reverse-get (picks (length n.board.state.nodes)) j y is in
      let inside = within_order there.0 y there.1 in
      at_place there.0 y there.1 inside
      ∙ edge.behind there.0 (omega (arith, there.2, below)) (let room = net.room in omega arith))

  pub edge-low : (back : Bool) (k : ℕ) → IsEdgeBit back words k → k < 2 ^ 32
  edge-low false k edge = let within = edge.within in let few = net.few in omega arith
  edge-low true k edge = let within = edge.within in let few = net.few in omega arith

  word_of : (pick : Pick) → net_enabled n pick ≡ true → HasWord pick
  word_of HostSend h = tt
  word_of HostTake h = tt
  word_of (Proc p slice clock) h =
      let is : nat_lt clock (2 ^ 32) ≡ true = (both (nat_lt clock (2 ^ 32)) (at_node false memory_ops.runs n.board.state.nodes p)
      (enabled-ready n (Proc p slice clock) h)).0 in
      grind (arith, nat_tests)
  word_of (Send p l) h = tt
  word_of (Take p l) h = tt

  pub rest-none : NoBit words → (pick : Pick) → net_enabled n pick ≡ false
  rest-none none pick = go (net_enabled n pick) refl
    where
      found : (o : Option ℕ) → number_of (length n.board.state.nodes) pick ≡ o → net_enabled n pick ≡ true → ⊥
      found None is h =
          let off = enabled-none n n words (length n.board.state.nodes) pick refl net refl (word_of pick h) (sym is) in
          let clash : false ≡ true = off ∙ h in
          cc
      found (Some k) is h =
          let on = enabled-number n n words (length n.board.state.nodes) pick refl net refl (word_of pick h) k (sym is) in
          let low = number-within memory_ops n.board.network n.holds (length n.board.state.nodes) pick k is in
          let off = none k (let room = net.room in omega arith) in
          let clash : false ≡ true = sym off ∙ on ∙ h in
          cc

      go : (b : Bool) → net_enabled n pick ≡ b → net_enabled n pick ≡ false
      go true h = absurd (found (number_of (length n.board.state.nodes) pick) refl h)
      go false h = h

  -- none is set exactly at rest
  pub rest-told : (first : Option ℕ) (rest : Bool) → MatchOption first (NoBit words) (λ k. IsFirstBit words k) → is_some first ≡ not rest
      → (IsTrue rest → AtRest memory_ops n.board.network n.holds n.board.state)
      × (AtRest memory_ops n.board.network n.holds n.board.state → IsTrue rest)
  rest-told None true found is = (λ h. rest-none found, λ h. refl)
  rest-told None false found is = cc
  rest-told (Some k) true found is = cc
  rest-told (Some k) false found is = (
    λ h. absurd (let clash : false ≡ true = h in cc),
    λ h. absurd (let clash : true ≡ false = sym found.here ∙ net.tell k found.within ∙ h (numbered k) in cc),
  )

pub seen-rest : (n m : NetState) → n ≡ m → (rest : Bool)
    → (IsTrue rest → AtRest memory_ops n.board.network n.holds n.board.state)
    × (AtRest memory_ops n.board.network n.holds n.board.state → IsTrue rest)
    → (IsTrue rest → AtRest memory_ops m.board.network m.holds m.board.state)
    × (AtRest memory_ops m.board.network m.holds m.board.state → IsTrue rest)
seen-rest n m is rest =
    subst (λ (x : NetState). (IsTrue rest → AtRest memory_ops x.board.network x.holds x.board.state)
    × (AtRest memory_ops x.board.network x.holds x.board.state → IsTrue rest)) is

pub seen-first : (n m : NetState) → n ≡ m → (back : Bool) (o : Option Pick)
    → first_pick memory_ops n.board.network n.holds back n.board.state ≡ o
    → o ≡ first_pick memory_ops m.board.network m.holds back m.board.state
seen-first n m is back o e =
    sym e ∙ ap (λ (x : NetState). first_pick memory_ops x.board.network x.holds back x.board.state) is

-- ---- a new network

pub new-net : (b w : WiredBoard (NodeState (List ℕ))) (holds : HoldState) (words : List ℕ) → w ≡ b
    → IsBoard memory_ops (λ n. IsNode n) w.network w.state → length holds.entries ≡ length b.network.sizes
    → length words ≡ first_number (length b.network.sizes) / 64 + 1 → TellPicks words (net_of b holds) → IsNet words (net_of b holds)
new-net b w holds words is board entries size tell =
    let count : length b.state.nodes ≡ length b.network.sizes =
    subst (λ (x : WiredBoard (NodeState (List ℕ))). length x.state.nodes ≡ length x.network.sizes) is board.nodes in
    let pairing : IsPairing b.network = subst (λ (x : WiredBoard (NodeState (List ℕ))). IsPairing x.network) is board.pairing in
    let few = pairing.few in
    record {
      entries = entries ∙ sym count;
      room = omega (arith, size, count);
      few = omega (arith, size, few);
      pairing = pairing;
      tell = tell;
    }
