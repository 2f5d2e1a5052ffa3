-- What is wrong with a text that is no schedule.
use Rattle.std.specs.Prelude.{◌≡◌, ℕ, ◌+◌, ◌≤◌, ◌==◌, ◌||◌, Bool, true, false, List, [], ◌∷◌, ◌++◌, length, Option, Some, None}
use Rattle.std.specs.Prelude.{Result, Ok, Err, codes, if◌then◌else◌}
use Rattle.std.specs.Str.{bytes_eq}
use Rattle.std.specs.Str.Lines.{lines}
use Rattle.tn_text.specs.declared.faults.Cause.{Cause}
use Rattle.tn_text.specs.declared.faults.Fault.{Fault}
use Rattle.tn_text.specs.declared.faults.FaultCode.TheVariants.{NotAscii, BadLine}
use Rattle.tn_text.specs.declared.limits.TheConstants.{LINE_LIMIT}
use Rattle.tn_text.specs.Faults.{bare, fault_at}
use Rattle.tn_text.specs.Lines.{is_ascii_line, tokens}
use Rattle.tn_schedule.specs.declared.keywords.Keyword.{Keyword}
use Rattle.tn_schedule.specs.declared.keywords.Keyword.TheVariants as keyword
use Rattle.tn_schedule.specs.declared.statements.Statement.{Statement}
use Rattle.tn_schedule.specs.Keywords.{keyword_named}
use Rattle.tn_schedule.specs.Places.{byte_at, link_at, picks_at, place_at, flag_at, word_at, whole_name_at, processor_named}
use Rattle.tn_schedule.specs.Statements.{LinesSay}
use Rattle.tn_schedule.specs.Schedules.{may_stand, AllStand}

-- why a token is not what its place wants
abbrev pub refusal : {A : Type 0} → Result A Cause → Option Cause
refusal (Ok a) = None
refusal (Err cause) = Some cause

-- the place of a word
abbrev pub not_word : List ℕ → List ℕ → Option Cause
not_word word token = if bytes_eq token word then None else Some (bare BadLine)

-- how many tokens may stand behind a keyword
abbrev pub has_count : Keyword → ℕ → Bool
has_count keyword.Power n = n == 3
has_count keyword.Step n = n == 2 || n == 3
has_count keyword.Send n = n == 2
has_count keyword.Take n = n == 2
has_count keyword.HostSend n = n == 0
has_count keyword.HostTake n = n == 0
has_count keyword.Settle n = n == 1 || n == 2
has_count keyword.Release n = n == 0
has_count keyword.Show n = n == 1
has_count keyword.Links n = n == 1
has_count keyword.Word n = n == 2
has_count keyword.Host n = n == 0
has_count keyword.Got n = n == 1
has_count keyword.Steps n = n == 0
has_count keyword.Same n = n == 0

-- the places of the tokens behind a keyword
abbrev pub places : Keyword → List (List ℕ → Option Cause)
places keyword.Power = (λ t. refusal (byte_at t)) ∷ (λ t. refusal (flag_at t)) ∷ (λ t. refusal (flag_at t)) ∷ []
places keyword.Step = (λ t. refusal (whole_name_at t)) ∷ (λ t. refusal (word_at t)) ∷ not_word (codes "slice") ∷ []
places keyword.Send = (λ t. refusal (whole_name_at t)) ∷ (λ t. refusal (link_at t)) ∷ []
places keyword.Take = (λ t. refusal (whole_name_at t)) ∷ (λ t. refusal (link_at t)) ∷ []
places keyword.HostSend = []
places keyword.HostTake = []
places keyword.Settle = (λ t. refusal (picks_at t)) ∷ not_word (codes "back") ∷ []
places keyword.Release = []
places keyword.Show = (λ t. refusal (whole_name_at t)) ∷ []
places keyword.Links = (λ t. refusal (whole_name_at t)) ∷ []
places keyword.Word = (λ t. refusal (whole_name_at t)) ∷ (λ t. refusal (word_at t)) ∷ []
places keyword.Host = []
places keyword.Got = (λ t. refusal (place_at t)) ∷ []
places keyword.Steps = []
places keyword.Same = []

-- whether the first token behind a keyword names a processor
abbrev pub names_processor : Keyword → Bool
names_processor keyword.Power = false
names_processor keyword.Step = true
names_processor keyword.Send = true
names_processor keyword.Take = true
names_processor keyword.HostSend = false
names_processor keyword.HostTake = false
names_processor keyword.Settle = false
names_processor keyword.Release = false
names_processor keyword.Show = true
names_processor keyword.Links = true
names_processor keyword.Word = true
names_processor keyword.Host = false
names_processor keyword.Got = false
names_processor keyword.Steps = false
names_processor keyword.Same = false

abbrev pub or_else : Option Cause → Option Cause → Option Cause
or_else (Some cause) next = Some cause
or_else None next = next

-- why the first token is refused that its place does not want
abbrev pub first_refusal : List (List ℕ → Option Cause) → List (List ℕ) → Option Cause
first_refusal [] ts = None
first_refusal (p ∷ ps) [] = None
first_refusal (p ∷ ps) (t ∷ ts) = or_else (p t) (first_refusal ps ts)

-- why the processor is refused: none has the name
abbrev pub unknown_in : List (List ℕ) → Bool → List (List ℕ) → Option Cause
unknown_in names b [] = None
unknown_in names b (t ∷ ts) = if b then refusal (processor_named names t) else None

-- what is wrong with the tokens behind a keyword: their number; else the first that its place does not
-- want; else the processor that none is
abbrev pub arguments_cause : List (List ℕ) → Keyword → List (List ℕ) → Option Cause
arguments_cause names k ts =
    if has_count k (length ts)
    then or_else (first_refusal (places k) ts) (unknown_in names (names_processor k) ts)
    else Some (bare BadLine)

-- what is wrong with a line of such tokens: it may not stand there, or something with its tokens
abbrev pub statement_cause : List (List ℕ) → Bool → Option Keyword → List (List ℕ) → Option Cause
statement_cause names first None ts = Some (bare BadLine)
statement_cause names first (Some k) ts = if may_stand first k then arguments_cause names k ts else Some (bare BadLine)

abbrev pub words_cause : List (List ℕ) → Bool → List (List ℕ) → Option Cause
words_cause names first [] = None
words_cause names first (word ∷ ts) = statement_cause names first (keyword_named word) ts

-- what is wrong with a line, where no line before has tokens or some line has
unfoldable pub line_cause : List (List ℕ) → Bool → List ℕ → Option Cause
line_cause names first line = if is_ascii_line line then words_cause names first (tokens line) else Some (bare NotAscii)

-- whether nothing was said
abbrev pub is_silent : List (ℕ × Statement) → Bool
is_silent [] = true
is_silent (p ∷ said) = false

-- the fault is that of the first line with something wrong: the lines before it say statements, each
-- where it may stand
pub record IsFirstFault (names : List (List ℕ)) (text : List ℕ) (fault : Fault) : Type 0 where
  pub before : List (List ℕ)
  pub line : List ℕ
  pub after : List (List ℕ)
  pub said : List (ℕ × Statement)
  pub cause : Cause
  pub lines : lines text ≡ before ++ line ∷ after
  pub say : LinesSay names 0 before said
  pub stand : AllStand true said
  pub bad : line_cause names (is_silent said) line ≡ Some cause
  pub placed : fault ≡ fault_at (length before + 1) cause

-- the same of a text of no more lines than a schedule may have
abbrev pub IsScheduleFault : List (List ℕ) → List ℕ → Fault → Type 0
IsScheduleFault names text fault = (length (lines text) ≤ LINE_LIMIT) × IsFirstFault names text fault
