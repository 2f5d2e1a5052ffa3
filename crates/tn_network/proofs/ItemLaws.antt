-- A whole instruction on a processor of a board.
use Rattle.std.proofs.Common.{◌≡◌, ℕ, ◌<◌, ◌^◌, Bool, true, false, List, length, set, Option, refl, sym, ap}
use Rattle.std.proofs.Common.{subst, ◌∙◌, arith}
use Rattle.std.specs.Prelude.{slice_index_or, nat_lt}
use Rattle.std.proofs.lemmas.Bool.Decides.{nat_tests}
use Rattle.tn_isa.specs.declared.functions.Fun.{Fun}
use Rattle.tn_mem.specs.Spaces.{Access, IsSpace}
use Rattle.tn_net.specs.Networks.{NetworkState}
use Rattle.tn_node.specs.declared.modes.Made.{Made}
use Rattle.tn_node.specs.declared.modes.Made.TheVariants.{Whole}
use Rattle.tn_node.specs.Nodes.{NodeState, IsNode}
use Rattle.tn_node.proofs.Stepping.{item_step-awaits, item_step-node}
use Rattle.tn_network.specs.declared.picks.Pick.{Pick}
use Rattle.tn_network.specs.declared.picks.Pick.TheVariants.{Proc}
use Rattle.tn_network.specs.Hosts.{HostState}
use Rattle.tn_network.specs.Boards.{BoardState, WiredBoard, board_of, at_node}
use Rattle.tn_network.specs.NodeOps.{NodeOps, node_ops}
use Rattle.tn_network.specs.Items.{item_ops}
use Rattle.tn_network.specs.Steps.{ready, step, after_pick, made_by_pick}
use Rattle.tn_network.specs.Locality.{IsLocal}
use Rattle.tn_network.specs.Wires.{AreLawful, IsBoard}
use Rattle.tn_network.proofs.NodeLists.{changed_at}
use Rattle.tn_network.proofs.NodeLaws.{runs-over, node-lawful}
use Rattle.tn_network.proofs.WireLaws.{step-board}
use Rattle.tn_network.proofs.LocalLaws.{step-local}
use Rattle.tn_network.proofs.BoardSteps.{at_node-read, at_node-within}

module _ {M : Type 0} (access : Access M) (laws : IsSpace access) (fun : Fun) (operand following : ℕ) where
  abbrev ops : NodeOps (NodeState M)
  ops = item_ops access fun operand following

  -- nodes are lawful by whole instructions too
  pub item-lawful : AreLawful ops (λ n. IsNode n)
  item-lawful =
      let base = node-lawful access laws in record {
        run_sound = λ p clock slice n runs h. item_step-node access slice clock n fun operand following h (runs-over n runs);
        run_awaits = λ p clock l slice n runs h. item_step-awaits access slice clock n fun operand following l laws;
        take_sound = base.take_sound;
        take_awaits = base.take_awaits;
        send_sound = base.send_sound;
        send_awaits = base.send_awaits;
        send_others = base.send_others;
        acknowledge_sound = base.acknowledge_sound;
        acknowledge_awaits = base.acknowledge_awaits;
        acknowledge_others = base.acknowledge_others;
        awaits_offers = base.awaits_offers;
      }

  -- what holds of a board does not ask how its nodes step
  item-board : (network : NetworkState) (s : BoardState (NodeState M)) → IsBoard (node_ops access) (λ n. IsNode n) network s
      → IsBoard ops (λ n. IsNode n) network s
  item-board network s b = record {
    pairing = b.pairing;
    nodes = b.nodes;
    latches = b.latches;
    kept = b.kept;
    bytes = b.bytes;
    sound = b.sound;
    waits = b.waits;
    host_waits = b.host_waits;
  }

  board-item : (network : NetworkState) (s : BoardState (NodeState M)) → IsBoard ops (λ n. IsNode n) network s
      → IsBoard (node_ops access) (λ n. IsNode n) network s
  board-item network s b = record {
    pairing = b.pairing;
    nodes = b.nodes;
    latches = b.latches;
    kept = b.kept;
    bytes = b.bytes;
    sound = b.sound;
    waits = b.waits;
    host_waits = b.host_waits;
  }

  module _ (b : WiredBoard (NodeState M)) (network : NetworkState) (nodes : List (NodeState M)) (latches : List (Option ℕ))
      (host : HostState) (is : record { network = network; state = board_of nodes latches host } ≡ b) (p clock : ℕ) (slice : Bool)
      (small : clock < 2 ^ 32) (runs : at_node false (node_ops access).runs b.state.nodes p ≡ true) where
    abbrev here : BoardState (NodeState M)
    here = board_of nodes latches host

    abbrev pick : Pick
    pick = Proc p slice clock

    runs_here : at_node false (node_ops access).runs nodes p ≡ true
    runs_here = ap (λ (w : WiredBoard (NodeState M)). at_node false (node_ops access).runs w.state.nodes p) is ∙ runs

    pub within : p < length nodes
    within = at_node-within nodes p (node_ops access).runs runs_here

    pub item-runs : (x : NodeState M) → x ≡ slice_index_or nodes p x → (node_ops access).runs x ≡ true
    item-runs x read = sym (at_node-read nodes p false (node_ops access).runs x within read) ∙ runs_here

    word : nat_lt clock (2 ^ 32) ≡ true
    word = grind (arith, nat_tests)

    ready_here : ready ops network here pick ≡ true
    ready_here = rw (word, runs_here) refl

    module _ (x y : NodeState M) (read : x ≡ slice_index_or nodes p x) (is_y : y ≡ ops.run p slice clock x) where
      state-is : board_of (set nodes p y) latches host ≡ step ops network pick here
      state-is = ap (λ ns. board_of ns latches host) (changed_at (ops.run p slice clock) nodes p x y within read is_y)

      pub item-kept : IsBoard (node_ops access) (λ n. IsNode n) network here
          → IsBoard (node_ops access) (λ n. IsNode n) network (board_of (set nodes p y) latches host)
      item-kept kept =
          subst (λ (s : BoardState (NodeState M)). IsBoard (node_ops access) (λ n. IsNode n) network s) (sym state-is)
          (board-item network (step ops network pick here)
          (step-board ops (λ n. IsNode n) item-lawful network here (item-board network here kept) pick ready_here tt))

      pub item-after : record { network = network; state = board_of (set nodes p y) latches host } ≡ after_pick ops pick b
      item-after =
          let first : WiredBoard (NodeState M) = record { network = network; state = board_of (set nodes p y) latches host } in
          let here_after : first ≡ after_pick ops pick (record { network = network; state = here }) =
          ap (λ (s : BoardState (NodeState M)). let w : WiredBoard (NodeState M) = record { network = network; state = s } in w) state-is in
          here_after ∙ ap (after_pick ops pick) is

      pub item-made : (made : Made) → made ≡ ops.made p slice clock x → made ≡ made_by_pick ops pick b.state
      item-made made e =
          let read_made : at_node Whole (ops.made p slice clock) nodes p ≡ ops.made p slice clock x =
          at_node-read nodes p Whole (ops.made p slice clock) x within read in
          e ∙ sym read_made ∙ ap (λ (w : WiredBoard (NodeState M)). made_by_pick ops pick w.state) is

      pub item-local : IsBoard (node_ops access) (λ n. IsNode n) network here
          → IsLocal b.network pick b.state (board_of (set nodes p y) latches host)
      item-local kept =
          subst (λ (w : WiredBoard (NodeState M)). IsLocal w.network pick w.state (board_of (set nodes p y) latches host)) is
          (subst (λ (s : BoardState (NodeState M)). IsLocal network pick here s) (sym state-is)
          (step-local ops network here kept.pairing pick ready_here))
