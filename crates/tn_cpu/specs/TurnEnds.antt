-- How every turn of a processor ends: it stops and changes nothing else, or it has its effect, or
-- it opens an engine that was shut for a block that is allowed.
use Rattle.std.specs.Prelude.{◌≡◌, ◌≢◌, ℕ, ◌<◌, None, Some, Option, Bool, true, false}
use Rattle.tn_isa.specs.declared.functions.Fun.{Fun}
use Rattle.tn_isa.specs.declared.functions.Fun.TheVariants.{J, Opr}
use Rattle.tn_isa.specs.declared.operations.Op.{Op}
use Rattle.tn_isa.specs.declared.operations.Op.TheVariants.{Ldtimer, Lend}
use Rattle.tn_isa.specs.Operations.{operation_with}
use Rattle.tn_mem.specs.Spaces.{Access, SameExtents}
use Rattle.tn_cpu.specs.declared.outcomes.Why.TheVariants.{Stray}
use Rattle.tn_cpu.specs.declared.outcomes.Transfer.{Transfer}
use Rattle.tn_cpu.specs.declared.outcomes.Outcome.{Outcome}
use Rattle.tn_cpu.specs.declared.outcomes.Outcome.TheVariants.{Prefix, Ran, OpensIn, OpensOut, Stopped}
use Rattle.tn_cpu.specs.declared.channels.Way.{Way}
use Rattle.tn_cpu.specs.declared.channels.Way.TheVariants.{Input, Output}
use Rattle.tn_cpu.specs.States.{State}
use Rattle.tn_cpu.specs.Turns.{Ended, halted_for}
use Rattle.tn_cpu.specs.Channels.{is_open, bytes_refusal}

-- a transfer that a processor in this state may begin: on one of the four links, whose engine is
-- shut, of a byte or more that may be stored by `in` or read by `out`, for its own process
pub record IsOpening {M : Type 0} (access : Access M) (busy : ℕ) (s : State M) (way : Way) (transfer : Transfer) : Type 0 where
  pub link : transfer.link < 4
  pub shut : is_open way transfer.link busy ≡ false
  pub count : 0 < transfer.count
  pub block : bytes_refusal access way s.memory transfer.pointer transfer.count ≡ None
  pub process : transfer.process ≡ s.wptr

-- what is known of the state after a turn with an outcome. Where an instruction had its effect, the
-- operand register is clear for the next one
abbrev pub ByOutcome : {M : Type 0} → Access M → ℕ → State M → State M → Outcome → Type 0
ByOutcome access busy s after Prefix = after ≡ record s { oreg = after.oreg; iptr = after.iptr }
ByOutcome access busy s after Ran = after.oreg ≡ 0
ByOutcome access busy s after (OpensIn transfer) = IsOpening access busy s Input transfer × (after.oreg ≡ 0)
ByOutcome access busy s after (OpensOut transfer) = IsOpening access busy s Output transfer × (after.oreg ≡ 0)
ByOutcome access busy s after (Stopped why) = (after ≡ halted_for why s) × (why ≢ Stray)

-- so a turn of a processor in this state ends, and no access is refused after it that was not before,
-- or the other way round
pub record EndsTurn {M : Type 0} (access : Access M) (busy : ℕ) (s : State M) (ended : Ended M) : Type 0 where
  pub outcome : ByOutcome access busy s ended.state ended.outcome
  pub extents : SameExtents access s.memory ended.state.memory

-- ---- what a turn depends on

abbrev pub is_ldtimer : Option Op → Bool
is_ldtimer (Some Ldtimer) = true
is_ldtimer op = false

abbrev pub is_lend : Option Op → Bool
is_lend (Some Lend) = true
is_lend op = false

-- only ldtimer reads the clock
abbrev pub reads_clock : Fun → ℕ → Bool
reads_clock Opr e = is_ldtimer (operation_with e)
reads_clock fun e = false

-- only j and lend ask whether another process takes its turn
abbrev pub may_slice : Fun → ℕ → Bool
may_slice J e = true
may_slice Opr e = is_lend (operation_with e)
may_slice fun e = false
