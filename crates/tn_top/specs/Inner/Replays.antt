-- How a replay ends.
use Rattle.std.specs.Prelude.{◌≡◌, ⊤, ℕ, ◌^◌, ◌<◌, List, length, None, Result, OnOk, IfErr}
use Rattle.tn_text.specs.Counts.{Rose}
use Rattle.tn_io.specs.Outs.{Printed, told_then}
use Rattle.tn_schedule.specs.declared.acts.Line.{Line}
use Rattle.tn_schedule.specs.Schedules.{ScheduleState, schedule_of, ArePlaced}
use Rattle.tn_top.specs.declared.refusals.Refusal.{Refusal}
use Rattle.tn_top.specs.declared.refusals.Refusal.TheVariants as refusal
use Rattle.tn_top.specs.declared.replays.ReplayInput.{ReplayInput}
use Rattle.tn_top.specs.declared.replays.Scheduled.{Scheduled}
use Rattle.tn_top.specs.Plans.{Answer, refused, done}
use Rattle.tn_top.specs.Outcomes.{Begins, printed_by}
use Rattle.tn_top.specs.ReplayPlans.{ReplaySources, replay_sources}
use Rattle.tn_top.specs.Inner.Systems.{configured}

-- what contracts see of a schedule with its text, and of what a replay is of
abbrev pub scheduled : Scheduled → List ℕ × ScheduleState
scheduled s = (s.text.items, schedule_of s.schedule)

abbrev pub replayed_of : ReplayInput → ReplaySources
replayed_of r = replay_sources (configured r.read) (scheduled r.scheduled)

-- the processors of the acts that print are among so many, and there are not too many acts
pub record AreWithin (count : ℕ) (acts : List Line) : Type 0 where
  pub placed : ArePlaced count acts
  pub few : length acts < 2 ^ 31

-- the step of a line is not enabled, or there was no memory to tell so
abbrev pub IsStepRefusal : List ℕ → ℕ → List ℕ → Refusal → Type 0
IsStepRefusal file line tokens (refusal.NotEnabled name number words) = (name ≡ file) × (number ≡ line) × (words.items ≡ tokens)
IsStepRefusal file line tokens refusal.NoMemory = ⊤
IsStepRefusal file line tokens _ = ⊥

-- why not all of an answer was done
abbrev pub WhyCut : Answer → Printed → Printed → Refusal → Type 0
WhyCut answer old new refusal.Unprinted = Begins (printed_by answer) old new × Rose old.faults new.faults
WhyCut answer old new refusal.NoMemory = Begins (printed_by answer) old new
WhyCut answer old new (refusal.NotEnabled file line tokens) =
    (answer ≡ refused file line tokens.items (printed_by answer)) × (new.bytes ≡ told_then (printed_by answer) old.bytes)
WhyCut answer old new _ = ⊥

-- an answer that prints a text: all of it was printed, and where it tells of a step that is not enabled, so
-- does the refusal; or a prefix
pub record Replies {T : Type 0} (answer : Answer) (old new : Printed) (result : Result T Refusal) : Type 0 where
  pub ok : OnOk result ((answer ≡ done None (printed_by answer)) × (new.bytes ≡ told_then (printed_by answer) old.bytes))
  pub err : IfErr result (WhyCut answer old new)
