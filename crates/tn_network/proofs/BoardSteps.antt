-- The board that each kind of pick leaves, by its parts.
use Rattle.std.proofs.Common.{◌≡◌, ℕ, ◌+◌, ◌*◌, ◌<◌, ◌^◌, Bool, true, false, List, length, get_or, set, Option, Some, None, refl, sym}
use Rattle.std.proofs.Common.{ap, subst, ◌∙◌, arith}
use Rattle.std.specs.Prelude.{slice_get, slice_index_or, is_some, unwrap_or, nat_lt, ◌&&◌}
use Rattle.std.proofs.lemmas.Bool.Decides.{nat_tests}
use Rattle.std.proofs.lemmas.Option.{slice_get_within}
use Rattle.tn_mem.specs.Spaces.{Access, IsSpace}
use Rattle.tn_net.specs.declared.networks.Far.{Far}
use Rattle.tn_net.specs.declared.networks.Far.TheVariants.{Nothing, Host, Link}
use Rattle.tn_net.specs.Networks.{NetworkState, IsEnd, far_at}
use Rattle.tn_node.specs.Nodes.{NodeState, IsNode}
use Rattle.tn_network.specs.declared.picks.Pick.{Pick}
use Rattle.tn_network.specs.declared.picks.Pick.TheVariants.{HostSend, HostTake, Proc, Send, Take}
use Rattle.tn_network.specs.Hosts.{HostState, next_byte}
use Rattle.tn_network.specs.Boards.{BoardState, WiredBoard, board_of, given, at_node, changed, latch_at}
use Rattle.tn_network.specs.NodeOps.{NodeOps, node_ops}
use Rattle.tn_network.specs.Steps.{offered, is_wired, ready, step, after_pick, nodes_acknowledged}
use Rattle.tn_network.specs.Wires.{IsBoard, MovesByte, sender_waits}
use Rattle.tn_network.specs.Inner.FarEnds.{EndsIn, Awaits}
use Rattle.tn_network.proofs.NodeLists.{slice_get-at, length-changed, at_node-met, at_node-given, at_node-changed}
use Rattle.tn_network.proofs.WireLaws.{both, has_byte, step-board}
use Rattle.tn_network.proofs.NodeLaws.{node-lawful}

-- ---- the node at a place that was read

module _ {N : Type 0} (nodes : List N) (p : ℕ) where
  pub at_node-read : {Y : Type 0} (other : Y) (f : N → Y) (x : N) → p < length nodes → x ≡ slice_index_or nodes p x
      → at_node other f nodes p ≡ f x
  at_node-read other f x within read = ap (λ o. given other f o) (slice_get-at nodes p x within read)

  pub at_node-within : (test : N → Bool) → at_node false test nodes p ≡ true → p < length nodes
  at_node-within test met = let n = at_node-met test nodes p met in slice_get_within nodes p n.0 n.1

  pub offered-within : (f : N → Option ℕ) → is_some (at_node None f nodes p) ≡ true → p < length nodes
  offered-within f some =
      let byte = has_byte (at_node None f nodes p) some in
      let n = at_node-given f nodes p byte.0 byte.1 in
      slice_get_within nodes p n.0 n.1

-- ---- picks by their parts

module _ {N : Type 0} (ops : NodeOps N) (network : NetworkState) (s : BoardState N) (p l : ℕ) where
  low : nat_lt l 4 ≡ true → l < 4
  low h = grind (arith, nat_tests)

  pub send-link : ready ops network s (Send p l) ≡ true → l < 4
  send-link r = low (both (nat_lt l 4) (is_some (offered ops s.nodes p l) && is_wired (far_at network p l)) r).0

  pub send-offered : ready ops network s (Send p l) ≡ true → is_some (offered ops s.nodes p l) ≡ true
  send-offered r =
      (both (is_some (offered ops s.nodes p l)) (is_wired (far_at network p l))
      (both (nat_lt l 4) (is_some (offered ops s.nodes p l) && is_wired (far_at network p l)) r).1).0

  pub send-within : ready ops network s (Send p l) ≡ true → p < length s.nodes
  send-within r = offered-within s.nodes p (ops.offers l) (send-offered r)

  pub take-link : ready ops network s (Take p l) ≡ true → l < 4
  take-link r = low (both (nat_lt l 4) (at_node false (ops.wants l) s.nodes p && is_some (latch_at s.latches p l)) r).0

  take-both : ready ops network s (Take p l) ≡ true
      → (at_node false (ops.wants l) s.nodes p ≡ true) × (is_some (latch_at s.latches p l) ≡ true)
  take-both r =
      both (at_node false (ops.wants l) s.nodes p) (is_some (latch_at s.latches p l))
      (both (nat_lt l 4) (at_node false (ops.wants l) s.nodes p && is_some (latch_at s.latches p l)) r).1

  pub take-wanted : ready ops network s (Take p l) ≡ true → at_node false (ops.wants l) s.nodes p ≡ true
  take-wanted r = (take-both r).0

  pub take-full : ready ops network s (Take p l) ≡ true → (byte : ℕ) × (latch_at s.latches p l ≡ Some byte)
  take-full r = has_byte (latch_at s.latches p l) (take-both r).1

  pub take-within : ready ops network s (Take p l) ≡ true → p < length s.nodes
  take-within r = at_node-within s.nodes p (ops.wants l) (take-wanted r)

module _ {N : Type 0} (ops : NodeOps N) (network : NetworkState) (s : BoardState N) (p : ℕ) where
  pub proc-runs : (clock : ℕ) (slice : Bool) → ready ops network s (Proc p slice clock) ≡ true → at_node false ops.runs s.nodes p ≡ true
  proc-runs clock slice r = (both (nat_lt clock (2 ^ 32)) (at_node false ops.runs s.nodes p) r).1

  pub proc-within : (clock : ℕ) (slice : Bool) → ready ops network s (Proc p slice clock) ≡ true → p < length s.nodes
  proc-within clock slice r = at_node-within s.nodes p ops.runs (proc-runs clock slice r)

-- ---- a board that is seen as its parts

module _ {M : Type 0} (access : Access M) (laws : IsSpace access) (b : WiredBoard (NodeState M)) (network : NetworkState)
    (s : BoardState (NodeState M)) (is : record { network = network; state = s } ≡ b) (pick : Pick) where
  pub ready-inside : ready (node_ops access) b.network b.state pick ≡ true → ready (node_ops access) network s pick ≡ true
  ready-inside r = subst (λ (x : WiredBoard (NodeState M)). ready (node_ops access) x.network x.state pick ≡ true) (sym is) r

  pub board-kept : (t : BoardState (NodeState M)) → IsBoard (node_ops access) (λ n. IsNode n) network s
      → ready (node_ops access) b.network b.state pick ≡ true → MovesByte (node_ops access) s pick
      → t ≡ step (node_ops access) network pick s → IsBoard (node_ops access) (λ n. IsNode n) network t
  board-kept t board r moves after =
      subst (λ (x : BoardState (NodeState M)). IsBoard (node_ops access) (λ n. IsNode n) network x) (sym after)
      (step-board (node_ops access) (λ n. IsNode n) (node-lawful access laws) network s board pick (ready-inside r) moves)

  pub board-after : (t : BoardState (NodeState M)) → t ≡ step (node_ops access) network pick s
      → record { network = network; state = t } ≡ after_pick (node_ops access) pick b
  board-after t after =
      let new : WiredBoard (NodeState M) = record { network = network; state = t } in
      let here : new ≡ after_pick (node_ops access) pick (record { network = network; state = s }) =
      ap (λ (x : BoardState (NodeState M)). let y : WiredBoard (NodeState M) = record { network = network; state = x } in y) after in
      here ∙ ap (after_pick (node_ops access) pick) is

-- what holds of the parts holds of the board
pub board-seen : {M : Type 0} (access : Access M) (b : WiredBoard (NodeState M)) (network : NetworkState) (s : BoardState (NodeState M))
    → record { network = network; state = s } ≡ b → IsBoard (node_ops access) (λ n. IsNode n) network s
    → IsBoard (node_ops access) (λ n. IsNode n) b.network b.state
board-seen {M = M} access b network s is board =
    subst (λ (x : WiredBoard (NodeState M)). IsBoard (node_ops access) (λ n. IsNode n) x.network x.state) is board

-- ---- what a sending asks of the latch at the far end

pub ends_in : {N : Type 0} (ops : NodeOps N) (IsSound : N → Type 0) (network : NetworkState) (s : BoardState N) (p l : ℕ)
    → IsBoard ops IsSound network s → ready ops network s (Send p l) ≡ true → EndsIn (length s.latches) (far_at network p l)
ends_in ops IsSound network s p l b r = go (far_at network p l) refl
  where
    end : IsEnd network p l
    end = record { processor = omega (arith, send-within ops network s p l r, b.nodes); link = send-link ops network s p l r }

    go : (far : Far) → far_at network p l ≡ far → EndsIn (length s.latches) far
    go Nothing is = tt
    go Host is = tt
    go (Link q m) is =
        let far_end : IsEnd network q m = b.pairing.ends p l q m end is in
        let few = far_end.processor in
        let low = far_end.link in
        omega (arith, b.latches, b.nodes)

-- ---- what a taking asks of the sender

module _ {M : Type 0} (access : Access M) (network : NetworkState) (s : BoardState (NodeState M)) (p l : ℕ) where
  pub taken-awaits_far : IsBoard (node_ops access) (λ n. IsNode n) network s → ready (node_ops access) network s (Take p l) ≡ true
      → (laws : IsSpace access) (byte : ℕ) → Awaits (node_ops access) (changed ((node_ops access).take l byte) s.nodes p)
      (far_at network p l)
  taken-awaits_far b r laws byte = go (far_at network p l) refl
    where
      end : IsEnd network p l
      end = record {
        processor = omega (arith, take-within (node_ops access) network s p l r, b.nodes);
        link =
            take-link (node_ops access) network s p l r;
      }

      go : (far : Far) → far_at network p l ≡ far → Awaits (node_ops access) (changed ((node_ops access).take l byte) s.nodes p) far
      go Nothing is = tt
      go Host is = tt
      go (Link q m) is =
          let far_end : IsEnd network q m = b.pairing.ends p l q m end is in
          let full = take-full (node_ops access) network s p l r in
          let waits : at_node false ((node_ops access).awaits m) s.nodes q ≡ true = rw is at (b.waits p l full.0 end full.1) in
          let same = at_node-changed false ((node_ops access).awaits m) ((node_ops access).take l byte) s.nodes p q (λ n at.
          (node-lawful access laws).take_awaits l byte m n (b.sound p n at)) in (
            let few = far_end.processor in omega (
              arith,
              b.nodes,
              length-changed
                  ((node_ops access).take l byte) s.nodes p,
            ),
            far_end.link,
            same ∙ waits,
          )
