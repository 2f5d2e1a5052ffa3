-- What doing one line promises.
use Rattle.std.specs.Prelude.{◌≡◌, ℕ, ◌⊎◌, List, ◌++◌, take, Option, Some, None, Result, Ok, Err}
use Rattle.tn_text.specs.Counts.{Rose}
use Rattle.tn_io.specs.Outs.{Printed, told_then}
use Rattle.tn_network.specs.Nets.{NetState}
use Rattle.tn_schedule.specs.declared.acts.Act.{Act}
use Rattle.tn_replay.specs.declared.replay_lines.LineFault.{LineFault}
use Rattle.tn_replay.specs.declared.replay_lines.LineFault.TheVariants as fault
use Rattle.tn_replay.specs.Replays.{Known, ReplayState, Left, line_done}
use Rattle.tn_sym.specs.Symbolic.{SymbolicState}
use Rattle.tn_replay.specs.ReplayEnds.{IsLeft}

-- a network, a symbolic one beside it, and a count of picks
abbrev pub state_of : NetState → Option SymbolicState → ℕ → ReplayState
state_of net symbolic steps = record { net = net; symbolic = symbolic; steps = steps }

-- it was done: this is the state, and its text stands behind another
pub record IsDone (k : Known) (a : Act) (s new : ReplayState) (before after : List ℕ) : Type 0 where
  pub left : Left
  pub can : line_done k a s ≡ Some left
  pub state : new ≡ left.state
  pub text : after ≡ before ++ left.text

-- it may not be done
pub record IsRefused (k : Known) (a : Act) (s : ReplayState) (new : NetState) : Type 0 where
  pub cannot : line_done k a s ≡ None
  pub net : new ≡ s.net

-- there was no memory for it
abbrev pub IsCut : Known → Act → ReplayState → NetState → Type 0
IsCut k a s new = (new ≡ s.net) ⊎ IsLeft k a s new

abbrev pub LineEnds : Known → Act → ReplayState → NetState → Option SymbolicState → List ℕ → List ℕ → Result ℕ LineFault → Type 0
LineEnds k a s new symbolic before after (Ok steps) = IsDone k a s (state_of new symbolic steps) before after
LineEnds k a s new symbolic before after (Err fault.NotEnabled) = IsRefused k a s new
LineEnds k a s new symbolic before after (Err fault.Out) = ⊥
LineEnds k a s new symbolic before after (Err fault.NoMemory) = IsCut k a s new

-- the same where its text was printed
pub record IsShown (k : Known) (a : Act) (s new : ReplayState) (before after : Printed) : Type 0 where
  pub left : Left
  pub can : line_done k a s ≡ Some left
  pub state : new ≡ left.state
  pub printed : after.bytes ≡ told_then left.text before.bytes

-- it was done, and its text not printed whole
pub record IsHidden (k : Known) (a : Act) (s : ReplayState) (new : NetState) (before after : Printed) : Type 0 where
  pub left : Left
  pub can : line_done k a s ≡ Some left
  pub net : new ≡ left.state.net
  pub count : ℕ
  pub printed : after.bytes ≡ told_then (take count left.text) before.bytes
  pub failed : Rose before.faults after.faults

abbrev pub PrintEnds : Known → Act → ReplayState → NetState → Option SymbolicState → Printed → Printed → Result ℕ LineFault → Type 0
PrintEnds k a s new symbolic before after (Ok steps) = IsShown k a s (state_of new symbolic steps) before after
PrintEnds k a s new symbolic before after (Err fault.NotEnabled) = IsRefused k a s new × (after.bytes ≡ before.bytes)
PrintEnds k a s new symbolic before after (Err fault.Out) = IsHidden k a s new before after
PrintEnds k a s new symbolic before after (Err fault.NoMemory) = IsCut k a s new × (after.bytes ≡ before.bytes)
