-- The acts of a node: which one it allows, and what that leads to.
use Rattle.std.specs.Prelude.{◌≡◌, ℕ, ◌+◌, ◌<◌, ◌≤◌, ◌==◌, Bool, true, false, ◌&&◌, not, nat_lt, List, [], ◌∷◌, length, Option, Some, None}
use Rattle.tn_word.specs.Words.{load_base}
use Rattle.tn_mem.specs.Memories.{put}
use Rattle.tn_mem.specs.Spaces.{Access}
use Rattle.tn_cpu.specs.declared.outcomes.Life.{Life}
use Rattle.tn_cpu.specs.declared.outcomes.Life.TheVariants.{Running, Idle, Stopped}
use Rattle.tn_node.specs.declared.engines.Engine.{Engine}
use Rattle.tn_node.specs.declared.modes.Stage.{Stage}
use Rattle.tn_node.specs.declared.modes.Stage.TheVariants.{Reset, Poking, Peeking, Replying, Booting, Refused, Over}
use Rattle.tn_node.specs.Engines.{engine_of}
use Rattle.tn_node.specs.Nodes.{NodeState, is_over}
use Rattle.tn_node.specs.Links.{offers, marked_sent, awaits, acknowledged, taken}
use Rattle.tn_node.specs.Runs.{node_step, ended}
use Rattle.tn_load.specs.Acts.{Act}
use Rattle.tn_load.specs.Acts.Act.{Step, Takes, Sends, Acks}

-- whether all of the four engines are closed
abbrev pub is_closed : Option Engine → Bool
is_closed None = true
is_closed (Some e) = false

abbrev pub all_shut : List (Option Engine) → Bool
all_shut engines = is_closed (engine_of engines 0) &&
    (is_closed (engine_of engines 1) && (is_closed (engine_of engines 2) && is_closed (engine_of engines 3)))

-- whether the engine of a link is open and all others are closed
abbrev pub alone_at : ℕ → ℕ → Option Engine → Bool
alone_at link l (Some e) = l == link
alone_at link l None = not (l == link)

abbrev pub only_at : ℕ → List (Option Engine) → Bool
only_at link engines = alone_at link 0 (engine_of engines 0) &&
    (alone_at link 1 (engine_of engines 1) && (alone_at link 2 (engine_of engines 2) && alone_at link 3 (engine_of engines 3)))

abbrev pub is_running : Life → Bool
is_running Running = true
is_running Idle = false
is_running (Stopped why) = false

abbrev pub is_idle : Life → Bool
is_idle Running = false
is_idle Idle = true
is_idle (Stopped why) = false

-- it runs below the addresses of images, with no engine open
abbrev pub only_steps : {M : Type 0} → NodeState M → Bool
only_steps n = is_over n.stage && (is_running n.cpu.life && (nat_lt n.cpu.iptr load_base && (all_shut n.inputs && all_shut n.outputs)))

-- it takes a byte of a link, and does nothing else; in reset it would take one of any link
abbrev pub only_takes_at : {M : Type 0} → Stage → ℕ → NodeState M → Bool
only_takes_at Reset k n = all_shut n.inputs && all_shut n.outputs
only_takes_at Poking k n = k == n.expects.link && (all_shut n.inputs && all_shut n.outputs)
only_takes_at Peeking k n = k == n.expects.link && (all_shut n.inputs && all_shut n.outputs)
only_takes_at Booting k n = k == n.expects.link && (all_shut n.inputs && all_shut n.outputs)
only_takes_at Replying k n = false
only_takes_at (Refused why) k n = false
only_takes_at Over k n = is_idle n.cpu.life && (all_shut n.outputs && only_at k n.inputs)

abbrev pub only_takes : {M : Type 0} → ℕ → NodeState M → Bool
only_takes k n = only_takes_at n.stage k n

-- it sends by a link, or waits for the acknowledge there, and does nothing else
abbrev pub only_sends : {M : Type 0} → ℕ → NodeState M → Bool
only_sends l n = is_over n.stage && (is_idle n.cpu.life && (all_shut n.inputs && only_at l n.outputs))

-- an act is the only one that a node allows, and leads to another node, whatever the clock and the end of its timeslice; k is its boot link
abbrev pub NodeDoes : {M : Type 0} → Access M → ℕ → Act → NodeState M → NodeState M → Type 0
NodeDoes access k Step n t = (only_steps n ≡ true) × ((slice : Bool) (clock : ℕ) → ended (node_step access slice clock n) n ≡ t)
NodeDoes access k (Takes byte) n t = (only_takes k n ≡ true) × (taken access k byte n ≡ t)
NodeDoes access k (Sends l byte) n t = (l < 4) × (only_sends l n ≡ true) × (offers access l n ≡ Some byte) × (marked_sent l n ≡ t)
NodeDoes access k (Acks l) n t = (l < 4) × (only_sends l n ≡ true) × (awaits l n ≡ true) × (acknowledged access l n ≡ t)

-- a node over a memory of which something holds
pub record Holds {M : Type 0} (space : List ℕ → M) (Q : List ℕ → Type 0) (n : NodeState M) : Type 0 where
  pub memory : List ℕ
  pub is : n.cpu.memory ≡ space memory
  pub fact : Q memory

-- writes between two addresses keep what holds of a memory
abbrev pub Kept : (List ℕ → Type 0) → ℕ → ℕ → Type 0
Kept Q from to = (m : List ℕ) (a : ℕ) (bytes : List ℕ) → from ≤ a → a + length bytes ≤ to → Q m → Q (put m a bytes)

-- the acts, one after the other, lead from one node to another, and something holds of the memory after each
pub data Leads {M : Type 0} (access : Access M) (space : List ℕ → M) (Q : List ℕ → Type 0) (k : ℕ) : List Act → NodeState M → NodeState M
    → Type 0 where
  done : {n : NodeState M} → Leads access space Q k [] n n
  more : {act : Act} {acts : List Act} {n t u : NodeState M} → NodeDoes access k act n t → Holds space Q t
      → Leads access space Q k acts t u → Leads access space Q k (act ∷ acts) n u

-- ---- a lone run, with something that holds of each of its states and the acts that are left there

abbrev pub NodeLone : {M : Type 0} → Access M → ℕ → (NodeState M → List Act → Type 0) → List Act → NodeState M → NodeState M → Type 0
NodeLone access k Q [] n end = Q n [] × (n ≡ end)
NodeLone access k Q (act ∷ acts) n end = Q n (act ∷ acts)
    × ((t : NodeState _) × (NodeDoes access k act n t × NodeLone access k Q acts t end))
