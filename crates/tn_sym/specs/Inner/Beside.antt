-- A node over bytes beside one over whole items.
use Rattle.std.specs.Prelude.{◌≡◌, ℕ, ◌≤◌, ℤ, true, false, List, length, Option, Some}
use Rattle.tn_isa.specs.declared.functions.Fun.{Fun}
use Rattle.tn_mem.specs.Memories.{allows_block}
use Rattle.tn_mem.specs.Guards.{Guarded, meets}
use Rattle.tn_cpu.specs.declared.outcomes.Why.{Why}
use Rattle.tn_cpu.specs.declared.outcomes.Life.{Life}
use Rattle.tn_cpu.specs.declared.outcomes.Life.TheVariants.{Running, Idle, Stopped}
use Rattle.tn_cpu.specs.States.{State, over_memory}
use Rattle.tn_node.specs.declared.engines.Engine.{Engine}
use Rattle.tn_node.specs.declared.modes.Stage.TheVariants.{Over}
use Rattle.tn_node.specs.Engines.{engine_of}
use Rattle.tn_node.specs.Nodes.{NodeState}
use Rattle.tn_sym.specs.Inner.Covers.{Covers}
use Rattle.tn_sym.specs.Inner.Items.{StandsAs}

-- by what the processor over whole items does: while it runs, the other one may stand within an
-- item; it has not stopped
abbrev pub StandsBy : Life → Option (Fun × ℤ) → State (List ℕ) → List ℕ → State Guarded → Type 0
StandsBy Running item s m u = StandsAs item s m u
StandsBy Idle item s m u = s ≡ over_memory m u
StandsBy (Stopped why) item s m u = ⊥

pub record SameCpu (code : List ℕ) (from to : ℕ) (items : ℕ → Option (Fun × ℤ)) (s : State (List ℕ)) (u : State Guarded) : Type 0 where
  pub memory : List ℕ
  pub covers : Covers code from to memory u.memory
  pub clear : u.oreg ≡ 0
  pub stands : StandsBy u.life (items u.iptr) s memory u

-- a block that lies in the memory and meets no byte of the region
pub record Allows (size from to a n : ℕ) : Type 0 where
  pub block : allows_block size a n ≡ true
  pub apart : meets from to a n ≡ false

-- the blocks of open engines are such
pub record AllowedEngines (size from to : ℕ) (engines : List (Option Engine)) : Type 0 where
  pub block : (l : ℕ) (e : Engine) → engine_of engines l ≡ Some e → Allows size from to e.pointer e.left

-- an input engine that is open has a byte to take
pub record HaveBytes (engines : List (Option Engine)) : Type 0 where
  pub some : (l : ℕ) (e : Engine) → engine_of engines l ≡ Some e → 1 ≤ e.left

-- the node over bytes is the other one but for its processor
abbrev pub node_with : {M N : Type 0} → State M → NodeState N → NodeState M
node_with s v = record { cpu = s; stage = v.stage; expects = v.expects; inputs = v.inputs; outputs = v.outputs }

pub record SameNode (code : List ℕ) (from to : ℕ) (items : ℕ → Option (Fun × ℤ)) (s : State (List ℕ)) (v : NodeState Guarded) : Type 0 where
  pub cpu : SameCpu code from to items s v.cpu
  pub over : v.stage ≡ Over
  pub inputs : AllowedEngines (length code) from to v.inputs
  pub outputs : AllowedEngines (length code) from to v.outputs
  pub some : HaveBytes v.inputs

-- a processor that was booted has stopped
pub record HasStopped (v : NodeState Guarded) : Type 0 where
  pub why : Why
  pub over : v.stage ≡ Over
  pub life : v.cpu.life ≡ Stopped why

-- what one step made of both nodes: the one over whole items has stopped, or they are the same
pub data NodeFollows (code : List ℕ) (from to : ℕ) (items : ℕ → Option (Fun × ℤ)) (n : NodeState (List ℕ)) (v : NodeState Guarded) :
    Type 0 where
  node_stops : HasStopped v → NodeFollows code from to items n v
  node_same : (s : State (List ℕ)) → n ≡ node_with s v → SameNode code from to items s v → NodeFollows code from to items n v
