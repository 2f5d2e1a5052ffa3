-- What is wrong with a text that stands for no configuration.
use Rattle.std.specs.Prelude.{◌≡◌, ℕ, ◌+◌, ◌≤◌, ◌⊎◌, ◌==◌, Bool, true, false, is_none, List, [], ◌∷◌, ◌++◌, length, All}
use Rattle.std.specs.Prelude.{Option, Some, None, Result, Ok, Err, if◌then◌else◌}
use Rattle.std.specs.List.{filter_map, flat_map}
use Rattle.std.specs.Str.Lines.{lines}
use Rattle.tn_text.specs.declared.faults.Cause.{Cause}
use Rattle.tn_text.specs.declared.faults.Fault.{Fault}
use Rattle.tn_text.specs.declared.faults.FaultCode.TheVariants.{NotAscii, BadLine, Missing}
use Rattle.tn_text.specs.declared.faults.Detail.TheVariants.{Lacks}
use Rattle.tn_text.specs.declared.faults.Lack.{Lack}
use Rattle.tn_text.specs.declared.faults.Lack.TheVariants as lack
use Rattle.tn_text.specs.Faults.{bare, fault_at}
use Rattle.tn_text.specs.Firsts.{first_cause}
use Rattle.tn_text.specs.Lines.{is_ascii_line, tokens}
use Rattle.tn_text.specs.Places.{file_name_at}
use Rattle.tn_config.specs.declared.configurations.HostLine.{HostLine}
use Rattle.tn_config.specs.declared.keywords.Keyword.{Keyword}
use Rattle.tn_config.specs.declared.keywords.Keyword.TheVariants as keyword
use Rattle.tn_config.specs.declared.statements.Statement.{Statement}
use Rattle.tn_config.specs.Keywords.{keyword_named}
use Rattle.tn_config.specs.Places.{size_at, address_at, count_at, link_at, argument_at, whole_name_at}
use Rattle.tn_config.specs.Statements.{LinesSay}
use Rattle.tn_config.specs.Parts.{Part, part_lines, IsWhole, host_in}
use Rattle.tn_config.specs.SoFar.{DraftState, ReaderState, Opened, opened_lines, so_far, SaysOnce}

-- whether a line that begins with the keyword may stand in a block of which so much has been said
abbrev pub may_stand_inside : DraftState → Keyword → Bool
may_stand_inside d keyword.Processor = false
may_stand_inside d keyword.Host = false
may_stand_inside d keyword.Wire = false
may_stand_inside d keyword.Code = is_none d.code
may_stand_inside d keyword.Data = is_none d.cells
may_stand_inside d keyword.Workspace = is_none d.workspace
may_stand_inside d keyword.Module = true
may_stand_inside d keyword.Library = true
may_stand_inside d keyword.Entry = is_none d.entry
may_stand_inside d keyword.Arg = true
may_stand_inside d keyword.End = true

-- whether it may stand outside blocks, where that has been said of the host
abbrev pub may_stand_outside : Option HostLine → Keyword → Bool
may_stand_outside host keyword.Processor = true
may_stand_outside host keyword.Host = is_none host
may_stand_outside host keyword.Wire = true
may_stand_outside host keyword.Code = false
may_stand_outside host keyword.Data = false
may_stand_outside host keyword.Workspace = false
may_stand_outside host keyword.Module = false
may_stand_outside host keyword.Library = false
may_stand_outside host keyword.Entry = false
may_stand_outside host keyword.Arg = false
may_stand_outside host keyword.End = false

-- whether it may stand behind what has been said
abbrev pub stands_behind : Option HostLine → Option DraftState → Keyword → Bool
stands_behind host None k = may_stand_outside host k
stands_behind host (Some d) k = may_stand_inside d k

unfoldable pub may_stand : ReaderState → Keyword → Bool
may_stand s k = stands_behind s.host s.draft k

-- something is lacking
abbrev pub lacks : Lack → Cause
lacks what = record { code = Missing; detail = Lacks what }

abbrev pub is_nil : {A : Type 0} → List A → Bool
is_nil [] = true
is_nil (x ∷ xs) = false

-- the first thing that a block lacks at its end
abbrev pub lack_of : DraftState → Option Cause
lack_of d =
    first_cause ((is_none d.code, lacks lack.Code) ∷ (is_none d.cells, lacks lack.Data) ∷ (is_none d.workspace, lacks lack.Workspace)
    ∷ (is_none d.entry, lacks lack.Entry) ∷ (is_nil d.modules, lacks lack.Module) ∷ [])

abbrev pub lack_at : Option DraftState → Keyword → Option Cause
lack_at None k = None
lack_at (Some d) keyword.End = lack_of d
lack_at (Some d) keyword.Processor = None
lack_at (Some d) keyword.Host = None
lack_at (Some d) keyword.Wire = None
lack_at (Some d) keyword.Code = None
lack_at (Some d) keyword.Data = None
lack_at (Some d) keyword.Workspace = None
lack_at (Some d) keyword.Module = None
lack_at (Some d) keyword.Library = None
lack_at (Some d) keyword.Entry = None
lack_at (Some d) keyword.Arg = None

-- why a token is not what its place wants
abbrev pub refusal : {A : Type 0} → Result A Cause → Option Cause
refusal (Ok a) = None
refusal (Err cause) = Some cause

-- the places of the tokens behind a keyword
abbrev pub places : Keyword → List (List ℕ → Option Cause)
places keyword.Processor = (λ t. refusal (whole_name_at t)) ∷ (λ t. refusal (size_at t)) ∷ []
places keyword.Host = (λ t. refusal (whole_name_at t)) ∷ (λ t. refusal (link_at t)) ∷ []
places keyword.Wire =
    (λ t. refusal (whole_name_at t)) ∷ (λ t. refusal (link_at t)) ∷ (λ t. refusal (whole_name_at t)) ∷ (λ t. refusal (link_at t)) ∷ []
places keyword.Code = (λ t. refusal (address_at t)) ∷ []
places keyword.Data = (λ t. refusal (address_at t)) ∷ []
places keyword.Workspace = (λ t. refusal (address_at t)) ∷ (λ t. refusal (count_at t)) ∷ (λ t. refusal (count_at t)) ∷ []
places keyword.Module = (λ t. refusal (file_name_at t)) ∷ []
places keyword.Library = (λ t. refusal (file_name_at t)) ∷ []
places keyword.Entry = (λ t. refusal (whole_name_at t)) ∷ []
places keyword.Arg = (λ t. refusal (argument_at t)) ∷ []
places keyword.End = []

abbrev pub or_else : Option Cause → Option Cause → Option Cause
or_else (Some cause) next = Some cause
or_else None next = next

-- why the first token is refused that its place does not want
abbrev pub first_refusal : List (List ℕ → Option Cause) → List (List ℕ) → Option Cause
first_refusal [] ts = None
first_refusal (p ∷ ps) [] = None
first_refusal (p ∷ ps) (t ∷ ts) = or_else (p t) (first_refusal ps ts)

-- what is wrong with the tokens behind a keyword: their number, else the first that its place does
-- not want
abbrev pub arguments_cause : List (List ℕ → Option Cause) → List (List ℕ) → Option Cause
arguments_cause ps ts = if length ts == length ps then first_refusal ps ts else Some (bare BadLine)

-- what is wrong with a line of such tokens: it may not stand there; else something with its tokens;
-- else what the block lacks that it ends
abbrev pub statement_cause : ReaderState → Option Keyword → List (List ℕ) → Option Cause
statement_cause s None ts = Some (bare BadLine)
statement_cause s (Some k) ts =
    if may_stand s k then or_else (arguments_cause (places k) ts) (lack_at s.draft k) else Some (bare BadLine)

abbrev pub words_cause : ReaderState → List (List ℕ) → Option Cause
words_cause s [] = None
words_cause s (word ∷ ts) = statement_cause s (keyword_named word) ts

-- what is wrong with a line, behind what has been said
unfoldable pub line_cause : ReaderState → List ℕ → Option Cause
line_cause s line = if is_ascii_line line then words_cause s (tokens line) else Some (bare NotAscii)

-- What a configuration may begin with: the lines, where they say anything, are those of parts and of
-- a block that is not ended, in which nothing is said twice that may be said once.
pub record IsBeginning (ls : List (List ℕ)) (parts : List Part) (opened : Option Opened) : Type 0 where
  pub said : List (ℕ × Statement)
  pub say : LinesSay 0 ls said
  pub are : said ≡ flat_map part_lines parts ++ opened_lines opened
  pub whole : All IsWhole parts
  pub host : length (filter_map host_in parts) ≤ 1
  pub once : (o : Opened) → opened ≡ Some o → SaysOnce o.body

-- a line is wrong behind the lines before it, with which a configuration may begin
pub record IsBadLine (text : List ℕ) (fault : Fault) : Type 0 where
  pub before : List (List ℕ)
  pub line : List ℕ
  pub after : List (List ℕ)
  pub parts : List Part
  pub opened : Option Opened
  pub cause : Cause
  pub lines : lines text ≡ before ++ line ∷ after
  pub begins : IsBeginning before parts opened
  pub bad : line_cause (so_far (length before) parts opened) line ≡ Some cause
  pub placed : fault ≡ fault_at (length before + 1) cause

-- the text ends inside a block
pub record IsUnended (text : List ℕ) (fault : Fault) : Type 0 where
  pub parts : List Part
  pub opened : Opened
  pub begins : IsBeginning (lines text) parts (Some opened)
  pub placed : fault ≡ fault_at (length (lines text) + 1) (lacks lack.End)

-- the fault is the first of the text
abbrev pub IsConfigFault : List ℕ → Fault → Type 0
IsConfigFault text fault = IsBadLine text fault ⊎ IsUnended text fault
