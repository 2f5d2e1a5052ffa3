-- A processor with its bootstrap and the engines of its links.
use Rattle.std.specs.Prelude.{◌≡◌, ℕ, ◌+◌, ◌≤◌, ◌<◌, Bool, true, false, List, [], ◌∷◌, length, Option, Some, None}
use Rattle.tn_cpu.specs.declared.outcomes.Life.{Life}
use Rattle.tn_cpu.specs.declared.outcomes.Life.TheVariants.{Running as LifeRunning, Idle as LifeIdle, Stopped as LifeStopped}
use Rattle.tn_cpu.specs.States.{State, over_memory}
use Rattle.tn_node.specs.declared.engines.Engine.{Engine}
use Rattle.tn_node.specs.Engines.{engine_of}
use Rattle.tn_node.specs.declared.modes.Expects.{Expects}
use Rattle.tn_node.specs.declared.modes.Mode.{Mode}
use Rattle.tn_node.specs.declared.modes.Mode.TheVariants as mode
use Rattle.tn_node.specs.declared.modes.Stage.{Stage}
use Rattle.tn_node.specs.declared.modes.Stage.TheVariants.{Reset, Poking, Peeking, Replying, Booting, Refused, Over}

-- the processor; the stage of its bootstrap, and what that expects; and the engines of its four
-- links, those that are open
pub record NodeState (M : Type 0) : Type 0 where
  pub cpu : State M
  pub stage : Stage
  pub expects : Expects
  pub inputs : List (Option Engine)
  pub outputs : List (Option Engine)

-- a node of these parts
abbrev pub node_of : {M : Type 0} → State M → Stage → Expects → List (Option Engine) → List (Option Engine) → NodeState M
node_of cpu stage expects inputs outputs = record { cpu = cpu; stage = stage; expects = expects; inputs = inputs; outputs = outputs }

-- a bootstrap that expects nothing
abbrev pub nothing_expected : Expects
nothing_expected = record { link = 0; got = 0; left = 0; address = 0; word = 0; sent = false }

-- the engines after power-up
abbrev pub all_closed : List (Option Engine)
all_closed = None ∷ None ∷ None ∷ None ∷ []

-- no engine of the four links is open
abbrev pub AreClosed : List (Option Engine) → Type 0
AreClosed engines =
    (engine_of engines 0 ≡ None) × (engine_of engines 1 ≡ None) × (engine_of engines 2 ≡ None) × (engine_of engines 3 ≡ None)

-- no engine of the node is open
abbrev pub IsQuiet : {M : Type 0} → NodeState M → Type 0
IsQuiet n = AreClosed n.inputs × AreClosed n.outputs

-- after power-up
abbrev pub reset_node : {M : Type 0} → State M → NodeState M
reset_node cpu = record { cpu = cpu; stage = Reset; expects = nothing_expected; inputs = all_closed; outputs = all_closed }

-- what a processor does that was booted
abbrev pub mode_of_life : Life → Mode
mode_of_life LifeRunning = mode.Running
mode_of_life LifeIdle = mode.Idle
mode_of_life (LifeStopped why) = mode.Stopped why

-- what a node does
abbrev pub mode_at : Stage → Life → Mode
mode_at Reset life = mode.Reset
mode_at Poking life = mode.Poking
mode_at Peeking life = mode.Peeking
mode_at Replying life = mode.Replying
mode_at Booting life = mode.Booting
mode_at (Refused why) life = mode.Stopped why
mode_at Over life = mode_of_life life

abbrev pub mode_of : {M : Type 0} → NodeState M → Mode
mode_of n = mode_at n.stage n.cpu.life

-- whether its processor has been booted
abbrev pub is_over : Stage → Bool
is_over Reset = false
is_over Poking = false
is_over Peeking = false
is_over Replying = false
is_over Booting = false
is_over (Refused why) = false
is_over Over = true

-- of how many bytes of a poke, a peek, a reply or a bootstrap some are done and some are left. A poke, a
-- peek and a bootstrap take one more at least; a reply has one more to send, or one that is not
-- acknowledged
pub record IsUnderWay (bytes : ℕ) (e : Expects) : Type 0 where
  pub all : e.got + e.left ≡ bytes
  pub some : 1 ≤ e.left
  pub unsent : e.sent ≡ false

pub record IsReply (e : Expects) : Type 0 where
  pub all : e.got + e.left ≡ 4
  pub some : e.sent ≡ false → 1 ≤ e.left
  pub begun : e.sent ≡ true → 1 ≤ e.got

-- the length of a bootstrap
pub record IsBootstrap (e : Expects) : Type 0 where
  pub least : 2 ≤ e.got + e.left
  pub most : e.got + e.left ≤ 255
  pub some : 1 ≤ e.left
  pub unsent : e.sent ≡ false

-- what a bootstrap expects at each stage
abbrev pub ExpectsAt : Stage → Expects → Type 0
ExpectsAt Reset e = e ≡ nothing_expected
ExpectsAt Poking e = IsUnderWay 8 e
ExpectsAt Peeking e = IsUnderWay 4 e
ExpectsAt Replying e = IsReply e
ExpectsAt Booting e = IsBootstrap e
ExpectsAt (Refused why) e = e ≡ nothing_expected
ExpectsAt Over e = e ≡ nothing_expected

-- four engines for input, and four for output: an open one has a byte left, or has sent one that is
-- not acknowledged
pub record AreInputs (engines : List (Option Engine)) : Type 0 where
  pub four : length engines ≡ 4
  pub some : (l : ℕ) (e : Engine) → engine_of engines l ≡ Some e → 1 ≤ e.left

pub record AreOutputs (engines : List (Option Engine)) : Type 0 where
  pub four : length engines ≡ 4
  pub some : (l : ℕ) (e : Engine) → engine_of engines l ≡ Some e → e.sent ≡ false → 1 ≤ e.left

-- What holds of each node: its bootstrap expects what its stage says, by one of the four links; it has
-- four engines of each kind, and none is open before its processor is booted.
pub record IsNode {M : Type 0} (n : NodeState M) : Type 0 where
  pub expected : ExpectsAt n.stage n.expects
  pub link : n.expects.link < 4
  pub inputs : AreInputs n.inputs
  pub outputs : AreOutputs n.outputs
  pub closed_inputs : is_over n.stage ≡ false → n.inputs ≡ all_closed
  pub closed_outputs : is_over n.stage ≡ false → n.outputs ≡ all_closed

-- the same node over another memory
abbrev pub node_over : {M N : Type 0} → N → NodeState M → NodeState N
node_over memory n = record { cpu = over_memory memory n.cpu; stage = n.stage; expects = n.expects; inputs = n.inputs; outputs = n.outputs }
