-- Reading a schedule line by line.
use Rattle.std.specs.Prelude.{◌≡◌, ⊤, ℕ, ◌+◌, Bool, true, false, List, [], ◌∷◌, ◌++◌, length, nat_lt, Option, Some, None, Result, Ok, Err}
use Rattle.std.specs.Prelude.{if◌then◌else◌}
use Rattle.std.specs.Str.Lines.{lines}
use Rattle.tn_text.specs.declared.faults.Cause.{Cause}
use Rattle.tn_text.specs.declared.faults.Fault.{Fault}
use Rattle.tn_text.specs.declared.faults.FaultCode.TheVariants.{BadLine}
use Rattle.tn_text.specs.declared.limits.TheConstants.{LINE_LIMIT}
use Rattle.tn_text.specs.Faults.{bare}
use Rattle.tn_text.specs.Reading.{result_then, line_tokens, read_lines}
use Rattle.tn_schedule.specs.declared.acts.Line.{Line}
use Rattle.tn_schedule.specs.declared.acts.Schedule.{Schedule}
use Rattle.tn_schedule.specs.declared.acts.ScheduleFault.{ScheduleFault}
use Rattle.tn_schedule.specs.declared.acts.ScheduleFault.TheVariants as refused
use Rattle.tn_schedule.specs.declared.keywords.Keyword.{Keyword}
use Rattle.tn_schedule.specs.declared.statements.Statement.{Statement}
use Rattle.tn_schedule.specs.declared.statements.Statement.TheVariants as statement
use Rattle.tn_schedule.specs.Keywords.{keyword_named}
use Rattle.tn_schedule.specs.Statements.{statement_said}
use Rattle.tn_schedule.specs.Schedules.{ScheduleState, schedule_of, may_stand}

-- what the lines have said so far: how many they are, whether none had tokens, and what is to become
-- a schedule
pub record ReaderState : Type 0 where
  pub lines : ℕ
  pub first : Bool
  pub power : ℕ × Bool × Bool
  pub acts : List Line

abbrev pub nothing_read : ReaderState
nothing_read = record { lines = 0; first = true; power = (0, false, false); acts = [] }

-- one statement more, on the last line so far
unfoldable pub take : ReaderState → Statement → ReaderState
take s (statement.Power byte error halt) = record s { first = false; power = (byte, error, halt) }
take s (statement.Does a) = record s { first = false; acts = s.acts ++ record { line = s.lines; act = a } ∷ [] }

abbrev pub standing : Bool → Option Keyword → Result Keyword Cause
standing first None = Err (bare BadLine)
standing first (Some k) = if may_stand first k then Ok k else Err (bare BadLine)

-- the statement of the tokens of a line
unfoldable pub words_said : List (List ℕ) → Bool → List ℕ → List (List ℕ) → Result Statement Cause
words_said names first word arguments =
    result_then (standing first (keyword_named word)) (λ k. statement_said names k arguments)

-- one line more
abbrev pub counted : ReaderState → ReaderState
counted s = record s { lines = s.lines + 1 }

abbrev pub take_words : List (List ℕ) → ReaderState → List (List ℕ) → Result ReaderState Cause
take_words names s [] = Ok s
take_words names s (word ∷ arguments) = result_then (words_said names s.first word arguments) (λ x. Ok (take s x))

unfoldable pub schedule_line : List (List ℕ) → ReaderState → List ℕ → Result ReaderState Cause
schedule_line names s line = result_then (line_tokens line) (take_words names (counted s))

-- the end of the text
abbrev pub finish : ReaderState → Result ScheduleState Cause
finish s = Ok (record { power = s.power; lines = s.acts })

-- what reading the lines of a text gives
abbrev pub schedule_read : List (List ℕ) → List ℕ → Result ScheduleState Fault
schedule_read names text = read_lines (schedule_line names) finish nothing_read 0 (lines text)

-- the limit on lines comes before their faults
abbrev pub faulted : Result ScheduleState Fault → Result ScheduleState ScheduleFault
faulted (Ok s) = Ok s
faulted (Err fault) = Err (refused.Fault fault)

abbrev pub limited : List ℕ → Result ScheduleState Fault → Result ScheduleState ScheduleFault
limited text read = if nat_lt LINE_LIMIT (length (lines text)) then Err (refused.Lines (length (lines text))) else faulted read

-- a reader gives this answer, unless there is no memory
abbrev pub GivesSchedule : Result Schedule ScheduleFault → Result ScheduleState ScheduleFault → Type 0
GivesSchedule (Ok s) answer = Ok (schedule_of s) ≡ answer
GivesSchedule (Err (refused.Fault fault)) answer = Err (refused.Fault fault) ≡ answer
GivesSchedule (Err (refused.Lines n)) answer = Err (refused.Lines n) ≡ answer
GivesSchedule (Err refused.NoMemory) answer = ⊤
