-- Schedules, as contracts see them, and when a text stands for one.
use Rattle.std.specs.Prelude.{◌≡◌, ⊤, ℕ, ◌<◌, ◌≤◌, Bool, true, false, List, [], ◌∷◌, length, Option, Some, None, All}
use Rattle.std.specs.List.{filter_map}
use Rattle.std.specs.Str.Lines.{lines}
use Rattle.tn_text.specs.declared.limits.TheConstants.{LINE_LIMIT}
use Rattle.tn_schedule.specs.declared.acts.Act.{Act}
use Rattle.tn_schedule.specs.declared.acts.Act.TheVariants as act
use Rattle.tn_schedule.specs.declared.acts.Line.{Line}
use Rattle.tn_schedule.specs.declared.acts.Schedule.{Schedule}
use Rattle.tn_schedule.specs.declared.keywords.Keyword.{Keyword}
use Rattle.tn_schedule.specs.declared.keywords.Keyword.TheVariants as keyword
use Rattle.tn_schedule.specs.declared.statements.Statement.{Statement}
use Rattle.tn_schedule.specs.declared.statements.Statement.TheVariants as statement
use Rattle.tn_schedule.specs.Statements.{keyword_of, LinesSay}

-- a schedule, with a list for its vector
pub record ScheduleState : Type 0 where
  pub power : ℕ × Bool × Bool
  pub lines : List Line

abbrev pub schedule_of : Schedule → ScheduleState
schedule_of s = record { power = s.power; lines = s.lines.items }

-- the processor of an act that prints is one of so many
abbrev pub IsPlaced : ℕ → Act → Type 0
IsPlaced count (act.Pick x) = ⊤
IsPlaced count (act.Settle most back) = ⊤
IsPlaced count act.Release = ⊤
IsPlaced count (act.Show p) = p < count
IsPlaced count (act.Links p) = p < count
IsPlaced count (act.Word p address) = p < count
IsPlaced count act.Host = ⊤
IsPlaced count (act.Got place) = ⊤
IsPlaced count act.Steps = ⊤
IsPlaced count act.Same = ⊤

-- so are those of all lines
abbrev pub ArePlaced : ℕ → List Line → Type 0
ArePlaced count lines = All (λ line. IsPlaced count line.act) lines

-- whether a line with this keyword may stand there: `power` only as the first with tokens
unfoldable pub may_stand : Bool → Keyword → Bool
may_stand first keyword.Power = first
may_stand first keyword.Step = true
may_stand first keyword.Send = true
may_stand first keyword.Take = true
may_stand first keyword.HostSend = true
may_stand first keyword.HostTake = true
may_stand first keyword.Settle = true
may_stand first keyword.Release = true
may_stand first keyword.Show = true
may_stand first keyword.Links = true
may_stand first keyword.Word = true
may_stand first keyword.Host = true
may_stand first keyword.Got = true
may_stand first keyword.Steps = true
may_stand first keyword.Same = true

-- each statement may stand where it does
unfoldable pub AllStand : Bool → List (ℕ × Statement) → Type 0
AllStand first [] = ⊤
AllStand first (p ∷ said) = (may_stand first (keyword_of p.1) ≡ true) × AllStand false said

-- the line of an act
abbrev pub act_in : ℕ × Statement → Option Line
act_in (n, statement.Power byte error halt) = None
act_in (n, statement.Does a) = Some (record { line = n; act = a })

-- what the memories are filled with, Error and HaltOnError: as the first statement says, else zeros
-- with neither set
abbrev pub power_in : List (ℕ × Statement) → ℕ × Bool × Bool
power_in [] = (0, false, false)
power_in ((n, statement.Power byte error halt) ∷ said) = (byte, error, halt)
power_in ((n, statement.Does a) ∷ said) = (0, false, false)

-- the lines of the text say these acts
pub record SaysSchedule (names : List (List ℕ)) (text : List ℕ) (s : ScheduleState) : Type 0 where
  pub said : List (ℕ × Statement)
  pub say : LinesSay names 0 (lines text) said
  pub stand : AllStand true said
  pub power : s.power ≡ power_in said
  pub acts : s.lines ≡ filter_map act_in said

-- the text is a schedule, of no more lines than a schedule may have
abbrev pub IsSchedule : List (List ℕ) → List ℕ → ScheduleState → Type 0
IsSchedule names text s = (length (lines text) ≤ LINE_LIMIT) × SaysSchedule names text s
