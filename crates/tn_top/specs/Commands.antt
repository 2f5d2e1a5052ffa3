-- The commands, as plans, and what is answered on words and files.
use Rattle.std.specs.Prelude.{◌≡◌, ℕ, ℤ, nat_lt, length, List, [], Option, Some, None, Result, Ok, Err, if◌then◌else◌}
use Rattle.std.specs.Option.{option_map}
use Rattle.tn_isa.specs.declared.functions.Fun.{Fun}
use Rattle.tn_io.specs.FileLists.{Files}
use Rattle.tn_text.specs.declared.faults.Fault.{Fault}
use Rattle.tn_text.specs.declared.limits.Limit.TheVariants.{File, Modules, Code}
use Rattle.tn_text.specs.declared.limits.TheConstants.{FILE_LIMIT, MODULE_LIMIT, CODE_LIMIT}
use Rattle.tn_asm.specs.FlatReading.{flat_read}
use Rattle.tn_module.specs.Modules.{Parts}
use Rattle.tn_modtext.specs.Lines.{spelling}
use Rattle.tn_asm.specs.Assembling.{assembled}
use Rattle.tn_modtext.specs.Libraries.{library_spelling}
use Rattle.tn_words.specs.CommandWords.{Asked, flat, one, asm, lib, build, list, tree, replay, grid, asked}
use Rattle.tn_top.specs.FlatCode.{flat_code}
use Rattle.tn_top.specs.OneProcessor.{boot_stream}
use Rattle.tn_top.specs.ModulePlans.{module_plan}
use Rattle.tn_top.specs.SystemPlans.{system_plan, stream_written, tree_printed}
use Rattle.tn_top.specs.ListPlans.{listing_printed}
use Rattle.tn_top.specs.GridPlans.{grid_plan}
use Rattle.tn_top.specs.ReplayPlans.{replay_plan}
use Rattle.tn_top.specs.Plans.{Answer, usage, fault, limit, done, Plan, gives, stops, reads, then_plan, at_once, each, Reaches}

-- code of at most 262,144 bytes
abbrev pub limited_code : List ℕ → Result (List ℕ) Answer
limited_code bytes = if nat_lt CODE_LIMIT (length bytes) then Err (limit Code (length bytes)) else Ok bytes

-- a text of at most 1,048,576 bytes
abbrev pub limited_text : List ℕ → Result (List ℕ) Answer
limited_text text = if nat_lt FILE_LIMIT (length text) then Err (limit File (length text)) else Ok text

-- the code of what a flat source gives
abbrev pub code_given : List ℕ → Result (List (Fun × ℤ)) Fault → Result (List ℕ) Answer
code_given source (Err first) = Err (fault source first)
code_given source (Ok instructions) = limited_code (flat_code instructions)

-- the code of a flat source, the text of a file
unfoldable pub code_in : List ℕ → List ℕ → Result (List ℕ) Answer
code_in source text = code_given source (flat_read text)

-- a flat source is read, and turned into its code
abbrev pub code_plan : List ℕ → Plan (List ℕ)
code_plan source = then_plan (reads source gives) (λ text. at_once (code_in source text))

-- what is made of the code of a flat source is written to a file
abbrev pub written_from : List ℕ → (List ℕ → List ℕ) → List ℕ → Plan Answer
written_from target made code = gives (done (Some (target, made code)) [])

-- the text of a module that an assembler source gives
abbrev pub text_given : List ℕ → Result Parts Fault → Result (List ℕ) Answer
text_given source (Err first) = Err (fault source first)
text_given source (Ok m) = limited_text (spelling m)

-- the module text of an assembler source, the text of a file
unfoldable pub module_text_in : List ℕ → List ℕ → Result (List ℕ) Answer
module_text_in source text = text_given source (assembled text)

-- an assembler source is read, and turned into its module's text
abbrev pub assembler_plan : List ℕ → Plan (List ℕ)
assembler_plan source = then_plan (reads source gives) (λ text. at_once (module_text_in source text))

-- the text of a library of modules
abbrev pub library_text : List Parts → Result (List ℕ) Answer
library_text modules = limited_text (library_spelling modules)

-- module texts, 1,024 at most, are read, and joined to a library text
abbrev pub library_plan : List (List ℕ) → Plan (List ℕ)
library_plan sources =
    if nat_lt MODULE_LIMIT (length sources) then stops (limit Modules (length sources))
    else then_plan (each module_plan sources) (λ modules. at_once (library_text modules))

-- the plan of what is asked for
abbrev pub plan_of : Asked → Plan Answer
plan_of (flat source target) = then_plan (code_plan source) (written_from target (λ code. code))
plan_of (one source target link) = then_plan (code_plan source) (written_from target (boot_stream link))
plan_of (asm source target) = then_plan (assembler_plan source) (written_from target (λ text. text))
plan_of (lib target sources) = then_plan (library_plan sources) (written_from target (λ text. text))
plan_of (build config target) = then_plan (system_plan config) (stream_written target)
plan_of (list config) = then_plan (system_plan config) listing_printed
plan_of (tree config) = then_plan (system_plan config) tree_printed
plan_of (replay config schedule) = replay_plan config schedule
plan_of (grid size) = grid_plan size

-- the plan that words ask for
abbrev pub plan_asked : List (List ℕ) → Option (Plan Answer)
plan_asked words = option_map plan_of (asked words)

-- what was asked for comes to this answer over files
abbrev pub Answers : Option (Plan Answer) → Files → Answer → Type 0
Answers None files answer = answer ≡ usage
Answers (Some plan) files answer = Reaches files plan answer

-- the answer to words over files
abbrev pub IsAnswer : List (List ℕ) → Files → Answer → Type 0
IsAnswer words files answer = Answers (plan_asked words) files answer
