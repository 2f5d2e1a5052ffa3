-- How far a replay has come.
use Rattle.std.specs.Prelude.{◌≡◌, ℕ, ◌+◌, ◌*◌, ◌^◌, ◌≤◌, List, ◌++◌, length}
use Rattle.tn_io.specs.Outs.{Printed, told_then}
use Rattle.tn_schedule.specs.declared.acts.Line.{Line}
use Rattle.tn_replay.specs.declared.replay_lines.LineFault.{LineFault}
use Rattle.tn_replay.specs.declared.replay_lines.LineFault.TheVariants as line_fault
use Rattle.tn_replay.specs.declared.replays.ReplayFault.{ReplayFault}
use Rattle.tn_replay.specs.declared.replays.ReplayFault.TheVariants as fault
use Rattle.tn_replay.specs.Replays.{Known, ReplayState}
use Rattle.tn_replay.specs.ReplayEnds.{AreDone}

-- why a replay ends at the line with an index
abbrev pub fault_of : ℕ → LineFault → ReplayFault
fault_of i line_fault.NotEnabled = fault.NotEnabled i
fault_of i line_fault.Out = fault.Out
fault_of i line_fault.NoMemory = fault.NoMemory

-- so many lines before the rest were done, and what they print was printed
pub record SoFar (k : Known) (lines : List Line) (s t : ReplayState) (rest : List Line) (index : ℕ) (before after : Printed) : Type 0 where
  pub front : List Line
  pub text : List ℕ
  pub are : lines ≡ front ++ rest
  pub place : length front ≡ index
  pub done : AreDone k front s t text
  pub printed : after.bytes ≡ told_then text before.bytes
  pub count : before.faults ≤ after.faults
  pub few : t.steps ≤ s.steps + index * 2 ^ 32
  pub network : t.net.board.network ≡ s.net.board.network
