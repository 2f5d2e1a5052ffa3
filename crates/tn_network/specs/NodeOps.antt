-- What a board asks of its nodes.
use Rattle.std.specs.Prelude.{ℕ, Bool, true, false, ◌&&◌, ◌==◌, Option}
use Rattle.tn_mem.specs.Spaces.{Access}
use Rattle.tn_node.specs.declared.modes.Made.{Made}
use Rattle.tn_node.specs.declared.modes.Mode.{Mode}
use Rattle.tn_node.specs.declared.modes.Mode.TheVariants.{Reset, Poking, Peeking, Replying, Booting, Running, Idle, Stopped}
use Rattle.tn_node.specs.Nodes.{NodeState, mode_of}
use Rattle.tn_node.specs.Links.{wants, taken, offers, marked_sent, awaits, acknowledged}
use Rattle.tn_node.specs.Runs.{node_step, ended, made_by}

-- What a node does, over any kind of nodes. `run` and `made` are the node after a step and what the step
-- was, given the processor that the node is, the timeslice and the clock. Of a link `wants` says whether
-- the node takes a byte, `offers` which byte it offers, and `awaits` whether one that it sent is
-- unacknowledged; `take`, `send` and `acknowledge` are the node after it took that byte, after its byte
-- went out, and after that is acknowledged.
pub record NodeOps (N : Type 0) : Type 0 where
  pub runs : N → Bool
  pub stands : ℕ → N → Bool
  pub run : ℕ → Bool → ℕ → N → N
  pub made : ℕ → Bool → ℕ → N → Made
  pub wants : ℕ → N → Bool
  pub take : ℕ → ℕ → N → N
  pub offers : ℕ → N → Option ℕ
  pub send : ℕ → N → N
  pub awaits : ℕ → N → Bool
  pub acknowledge : ℕ → N → N

-- ---- a node over a space of addresses

abbrev pub is_running : Mode → Bool
is_running Running = true
is_running Reset = false
is_running Poking = false
is_running Peeking = false
is_running Replying = false
is_running Booting = false
is_running Idle = false
is_running (Stopped why) = false

-- it stands at an entry: it is running, its instruction pointer is there and its operand register 0
abbrev pub stands_at : {M : Type 0} → ℕ → NodeState M → Bool
stands_at entry n = is_running (mode_of n) && (n.cpu.iptr == entry && n.cpu.oreg == 0)

-- each step is one instruction byte
abbrev pub node_ops : {M : Type 0} → Access M → NodeOps (NodeState M)
node_ops access =
    record {
      runs = λ n. is_running (mode_of n);
      stands = λ entry n. stands_at entry n;
      run = λ p slice clock n. ended (node_step access slice clock n) n;
      made = λ p slice clock n. made_by (node_step access slice clock n).outcome;
      wants = λ l n. wants l n;
      take = λ l byte n. taken access l byte n;
      offers = λ l n. offers access l n;
      send = λ l n. marked_sent l n;
      awaits = λ l n. awaits l n;
      acknowledge = λ l n. acknowledged access l n;
    }
