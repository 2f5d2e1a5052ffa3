-- What an instruction step does to a node.
use Rattle.std.specs.Prelude.{ℕ, ◌+◌, Bool, Some, slice_set}
use Rattle.tn_mem.specs.Spaces.{Access}
use Rattle.tn_isa.specs.declared.functions.Fun.{Fun}
use Rattle.tn_cpu.specs.declared.outcomes.Outcome.{Outcome}
use Rattle.tn_cpu.specs.declared.outcomes.Outcome.TheVariants as outcome
use Rattle.tn_cpu.specs.Turns.{Ended}
use Rattle.tn_cpu.specs.Effects.{effect}
use Rattle.tn_cpu.specs.Steps.{step}
use Rattle.tn_node.specs.declared.modes.Made.{Made}
use Rattle.tn_node.specs.declared.modes.Made.TheVariants.{Prefix, Whole}
use Rattle.tn_node.specs.Engines.{engine_of, opened, bit_of}
use Rattle.tn_node.specs.Nodes.{NodeState}

-- bit l for an open input engine of link l, bit 4 + l for an open output engine
abbrev pub busy : {M : Type 0} → NodeState M → ℕ
busy n =
    bit_of 1 (engine_of n.inputs 0) + bit_of 2 (engine_of n.inputs 1) + bit_of 4 (engine_of n.inputs 2) + bit_of 8 (engine_of n.inputs 3)
    + (bit_of 16 (engine_of n.outputs 0) + bit_of 32 (engine_of n.outputs 1) + bit_of 64 (engine_of n.outputs 2) + bit_of 128
    (engine_of n.outputs 3))

-- what the outcome of a step does to the engines, and what was made
abbrev pub with_outcome : {M : Type 0} → Outcome → NodeState M → NodeState M
with_outcome outcome.Prefix n = n
with_outcome outcome.Ran n = n
with_outcome (outcome.OpensIn t) n = record n { inputs = slice_set n.inputs t.link (Some (opened t)) }
with_outcome (outcome.OpensOut t) n = record n { outputs = slice_set n.outputs t.link (Some (opened t)) }
with_outcome (outcome.Stopped why) n = n

abbrev pub made_by : Outcome → Made
made_by outcome.Prefix = Prefix
made_by outcome.Ran = Whole
made_by (outcome.OpensIn t) = Whole
made_by (outcome.OpensOut t) = Whole
made_by (outcome.Stopped why) = Whole

-- the node after its processor's step
abbrev pub ended : {M : Type 0} → Ended M → NodeState M → NodeState M
ended e n = with_outcome e.outcome (record n { cpu = e.state })

-- one instruction byte
unfoldable pub node_step : {M : Type 0} → Access M → Bool → ℕ → NodeState M → Ended M
node_step access slice clock n = step access (busy n) slice clock n.cpu

-- one whole instruction, behind which the address of the next one lies
unfoldable pub node_item_step : {M : Type 0} → Access M → Fun → ℕ → ℕ → Bool → ℕ → NodeState M → Ended M
node_item_step access fun operand following slice clock n =
    effect access fun operand (record { following = following; busy = busy n; slice = slice; clock = clock }) n.cpu
