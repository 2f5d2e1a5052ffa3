-- Networks over whole items.
use Rattle.std.specs.Prelude.{◌≡◌, ◌⊎◌, ℕ, ◌≤◌, ◌^◌, ℤ, Bool, true, false, List, Option}
use Rattle.tn_isa.specs.declared.functions.Fun.{Fun}
use Rattle.tn_mem.specs.Memories.{plain_access}
use Rattle.tn_mem.specs.Guards.{Guarded, guarded}
use Rattle.tn_cpu.specs.States.{State}
use Rattle.tn_net.specs.Networks.{NetworkState}
use Rattle.tn_node.specs.declared.modes.Made.{Made}
use Rattle.tn_node.specs.Nodes.{NodeState}
use Rattle.tn_node.specs.Runs.{busy, ended}
use Rattle.tn_network.specs.declared.picks.Pick.{Pick}
use Rattle.tn_network.specs.Boards.{BoardState}
use Rattle.tn_network.specs.NodeOps.{NodeOps, node_ops}
use Rattle.tn_network.specs.Steps.{ready, step, made_by_pick}
use Rattle.tn_sym.specs.Inner.Items.{AreItems, item_step}
use Rattle.tn_sym.specs.Inner.Beside.{node_with, SameNode, HasStopped}
use Rattle.tn_sym.specs.Inner.NetsBeside.{is_prefix, IsBeside, IsOneOver}

-- the code of a processor: a memory that holds it, its region, and the items that begin at addresses
pub record Coded : Type 0 where
  pub code : List ℕ
  pub from : ℕ
  pub to : ℕ
  pub items : ℕ → Option (Fun × ℤ)
  pub are : AreItems code from to items
  pub high : to ≤ 2 ^ 32

-- nodes of processor p over bytes and over whole items
pub record SameNodes (coded : ℕ → Coded) (p : ℕ) (n : NodeState (List ℕ)) (v : NodeState Guarded) : Type 0 where
  pub cpu : State (List ℕ)
  pub is : n ≡ node_with cpu v
  pub same : SameNode (coded p).code (coded p).from (coded p).to (coded p).items cpu v

-- the node after the whole item at its instruction pointer
abbrev pub whole_node : Coded → Bool → ℕ → NodeState Guarded → NodeState Guarded
whole_node c slice clock v = ended (item_step (c.items v.cpu.iptr) (busy v) slice clock v.cpu) v

-- each step is one
pub record TakesWhole (coded : ℕ → Coded) (run : ℕ → Bool → ℕ → NodeState Guarded → NodeState Guarded) : Type 0 where
  pub is : (p clock : ℕ) (slice : Bool) (v : NodeState Guarded) → run p slice clock v ≡ whole_node (coded p) slice clock v

-- nodes with steps of their own, which on their links do what every node does
abbrev pub whole_ops :
    (ℕ → Bool → ℕ → NodeState Guarded → NodeState Guarded) → (ℕ → Bool → ℕ → NodeState Guarded → Made) → NodeOps (NodeState Guarded)
whole_ops run made = record (node_ops guarded) { run = run; made = made }

-- What one pick is in networks beside each other: it is ready in both or in none. Where it is a prefix byte,
-- the one over bytes makes it alone. Else both make it, and are beside each other then unless one of the
-- two nodes that it changes has stopped.
pub record FollowsPick (coded : ℕ → Coded) (ops : NodeOps (NodeState Guarded)) (network : NetworkState) (pick : Pick)
    (s : BoardState (NodeState (List ℕ))) (t : BoardState (NodeState Guarded)) : Type 0 where
  pub same : ready (node_ops plain_access) network s pick ≡ ready ops network t pick
  pub left :
      ready (node_ops plain_access) network s pick ≡ true → is_prefix (made_by_pick (node_ops plain_access) pick s) ≡ true
      → IsBeside (SameNodes coded) (step (node_ops plain_access) network pick s) t
  pub made :
      ready (node_ops plain_access) network s pick ≡ true → is_prefix (made_by_pick (node_ops plain_access) pick s) ≡ false
      → IsOneOver (λ v. HasStopped v) network pick (step ops network pick t)
      ⊎ IsBeside (SameNodes coded) (step (node_ops plain_access) network pick s) (step ops network pick t)

-- The law of whole items: so it is of every pick, whatever the codes of the processors are.
abbrev pub WholesFollow : Type 0
WholesFollow =
    (coded : ℕ → Coded) (run : ℕ → Bool → ℕ → NodeState Guarded → NodeState Guarded)
    (made : ℕ → Bool → ℕ → NodeState Guarded → Made) (network : NetworkState) (pick : Pick) (s : BoardState (NodeState (List ℕ)))
    (t : BoardState (NodeState Guarded)) → TakesWhole coded run → IsBeside (SameNodes coded) s t
    → FollowsPick coded (whole_ops run made) network pick s t
