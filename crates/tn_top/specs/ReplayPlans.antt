-- The plan of a replay: a system, a schedule, and what the lines of the schedule come to in the network
-- of the system.
use Rattle.std.specs.Prelude.{ℕ, ◌-◌, nat_lt, List, [], ◌∷◌, ◌++◌, map, length, slice_get}
use Rattle.std.specs.Prelude.{slice_index_or, Option, Some, None, Result, Ok}
use Rattle.std.specs.Prelude.{Err, if◌then◌else◌}
use Rattle.std.specs.List.{flat_map}
use Rattle.std.specs.Str.Lines.{lines}
use Rattle.tn_text.specs.Lines.{tokens}
use Rattle.tn_text.specs.WordTexts.{spaced}
use Rattle.tn_text.specs.declared.limits.TheConstants.{LINE_LIMIT}
use Rattle.tn_text.specs.declared.limits.Limit.TheVariants.{Lines}
use Rattle.tn_config.specs.Configurations.{ConfigState}
use Rattle.tn_system.specs.Systems.{SystemState}
use Rattle.tn_schedule.specs.declared.acts.Line.{Line}
use Rattle.tn_schedule.specs.Schedules.{ScheduleState}
use Rattle.tn_schedule.specs.ScheduleReading.{schedule_read}
use Rattle.tn_replay.specs.Replays.{Known, ReplayState, beginning, Replayed, replayed}
use Rattle.tn_top.specs.Plans.{Answer, limit, refused, done, Plan, gives, reads, then_plan, at_once}
use Rattle.tn_top.specs.ModulePlans.{or_fault}
use Rattle.tn_top.specs.SystemPlans.{system_plan}
use Rattle.tn_top.specs.SystemNets.{system_net}

-- ---- what is read

-- the names of the processors
abbrev pub processor_names : ConfigState → List (List ℕ)
processor_names c = map (λ b. b.name) c.blocks

-- the schedule of a text, that of a file, of at most 100,000 lines
unfoldable pub schedule_in : List ℕ → List (List ℕ) → List ℕ → Result ScheduleState Answer
schedule_in file names text =
    if nat_lt LINE_LIMIT (length (lines text)) then Err (limit Lines (length (lines text)))
    else or_fault file (schedule_read names text)

-- with the text
abbrev pub with_text : List ℕ → Result ScheduleState Answer → Result (List ℕ × ScheduleState) Answer
with_text text (Ok s) = Ok (text, s)
with_text text (Err answer) = Err answer

-- a schedule is read, where the processors have these names
abbrev pub schedule_plan : List ℕ → List (List ℕ) → Plan (List ℕ × ScheduleState)
schedule_plan file names = then_plan (reads file gives) (λ text. at_once (with_text text (schedule_in file names text)))

-- what a replay is of: a configuration and its system; and a schedule and its text
pub record ReplaySources : Type 0 where
  pub config : ConfigState
  pub system : SystemState
  pub text : List ℕ
  pub schedule : ScheduleState

abbrev pub replay_sources : ConfigState × SystemState → List ℕ × ScheduleState → ReplaySources
replay_sources x s = record { config = x.0; system = x.1; text = s.0; schedule = s.1 }

-- the system is read, and then the schedule
abbrev pub replay_sources_plan : List ℕ → List ℕ → Plan ReplaySources
replay_sources_plan config file =
    then_plan (system_plan config) (λ x. then_plan (schedule_plan file (processor_names x.0)) (λ s. gives (replay_sources x s)))

-- ---- tokens of a line

-- a line of a text, counted from 1
abbrev pub line_at : List ℕ → ℕ → List ℕ
line_at text number = slice_index_or (lines text) (number - 1) []

-- tokens one blank apart
unfoldable pub one_apart : List (List ℕ) → List ℕ
one_apart [] = []
one_apart (token ∷ tokens) = token ++ flat_map spaced tokens

abbrev pub tokens_at : List ℕ → ℕ → List ℕ
tokens_at text number = one_apart (tokens (line_at text number))

-- ---- what is answered

abbrev pub number_of : Option Line → ℕ
number_of None = 0
number_of (Some line) = line.line

-- the number of the line of an act
abbrev pub line_of : List Line → ℕ → ℕ
line_of acts i = number_of (slice_get acts i)

-- what the lines look things up in: the names of the processors, their programs and their images
abbrev pub known_of : ReplaySources → Known
known_of r = record { names = processor_names r.config; programs = r.system.programs; images = r.system.images }

-- where the replay begins: at power-up
abbrev pub power_up : ReplaySources → ReplayState
power_up r = beginning (system_net r.schedule.power r.system)

-- what the lines of the schedule come to: from power-up, with no pick made
unfoldable pub replay_of : ReplaySources → Replayed
replay_of r = replayed (known_of r) r.schedule.lines (power_up r)

-- all lines were done, or the step of the line of an act, in a schedule of this file and this text, is not
-- enabled; this is printed
abbrev pub said_of : List ℕ → List ℕ → List Line → List ℕ → Option ℕ → Answer
said_of file text acts printed None = done None printed
said_of file text acts printed (Some i) = refused file (line_of acts i) (tokens_at text (line_of acts i)) printed

abbrev pub replay_answer : List ℕ → ReplaySources → Answer
replay_answer file r = said_of file r.text r.schedule.lines (replay_of r).text (replay_of r).refused

abbrev pub replay_printed : List ℕ → ReplaySources → Plan Answer
replay_printed file r = gives (replay_answer file r)

abbrev pub replay_plan : List ℕ → List ℕ → Plan Answer
replay_plan config file = then_plan (replay_sources_plan config file) (replay_printed file)
