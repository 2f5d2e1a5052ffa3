-- What is wrong with a text that stands for no module.
use Rattle.std.specs.Prelude.{◌≡◌, ℕ, ◌+◌, ◌⊎◌, ◌==◌, List, [], ◌∷◌, ◌++◌, length, Option, Some, None, Result}
use Rattle.std.specs.Prelude.{Ok, Err, if◌then◌else◌}
use Rattle.std.specs.Option.{option_or}
use Rattle.std.specs.Str.Lines.{lines}
use Rattle.tn_text.specs.declared.faults.Cause.{Cause}
use Rattle.tn_text.specs.declared.faults.Fault.{Fault}
use Rattle.tn_text.specs.declared.faults.FaultCode.TheVariants.{NotAscii, BadLine}
use Rattle.tn_text.specs.declared.limits.TheConstants.{NAME_LIMIT}
use Rattle.tn_text.specs.Faults.{bare, fault_at}
use Rattle.tn_text.specs.Lines.{is_ascii_line, tokens}
use Rattle.tn_text.specs.Places.{name_at, number_at}
use Rattle.tn_module.specs.declared.faults.ModuleFault.{ModuleFault}
use Rattle.tn_module.specs.Modules.{Parts}
use Rattle.tn_module.specs.Faults.{IsFirstFault}
use Rattle.tn_modtext.specs.Tokens.{kind_at}
use Rattle.tn_asm.specs.declared.statements.Section.{Section}
use Rattle.tn_asm.specs.declared.statements.Section.TheVariants as section
use Rattle.tn_asm.specs.declared.statements.Statement.{Statement}
use Rattle.tn_asm.specs.declared.forms.Form.{Form}
use Rattle.tn_asm.specs.declared.forms.Form.TheVariants as form
use Rattle.tn_asm.specs.declared.forms.ItemForm.TheVariants as item_form
use Rattle.tn_asm.specs.declared.forms.CellForm.TheVariants as cell_form
use Rattle.tn_asm.specs.Forms.{form_at, body_form}
use Rattle.tn_asm.specs.Labels.{label_of}
use Rattle.tn_asm.specs.Said.{limited_at, operand_at}
use Rattle.tn_asm.specs.Numbered.{fault_in}
use Rattle.tn_asm.specs.Sources.{LinesSay, section_behind, values_in, module_in, numbers_in, AreParts}
use Rattle.tn_asm.specs.Assembling.{lacks_module}

-- why a token is not of a class
abbrev pub refusal : {A : Type 0} → Result A Cause → Option Cause
refusal (Ok a) = None
refusal (Err cause) = Some cause

abbrev pub Class : Type 0
Class = List ℕ → Option Cause

abbrev pub a_name : Class
a_name t = refusal (name_at NAME_LIMIT t)

abbrev pub a_kind : Class
a_kind t = refusal (kind_at t)

abbrev pub a_number : Class
a_number t = refusal (number_at t)

abbrev pub a_number_to : ℕ → Class
a_number_to limit t = refusal (limited_at limit t)

abbrev pub an_operand : Class
an_operand t = refusal (operand_at t)

-- the classes of the tokens behind a first word
abbrev pub classes : Form → List Class
classes form.Module = a_name ∷ []
classes form.Import = a_kind ∷ a_name ∷ []
classes form.Export = a_name ∷ []
classes form.Code = []
classes form.Data = []
classes (form.Item (item_form.Function f)) = an_operand ∷ []
classes (form.Item (item_form.Operation op)) = []
classes (form.Item item_form.Byte) = a_number_to 255 ∷ []
classes (form.Cell cell_form.Word) = a_number ∷ []
classes (form.Cell cell_form.Address) = a_name ∷ []
classes (form.Cell cell_form.Byte) = a_number_to 255 ∷ []
classes (form.Cell cell_form.Space) = a_number_to 1048576 ∷ []
classes (form.Cell cell_form.Align) = []

-- why the first token from the left is refused that is not of its class
abbrev pub first_refusal : List Class → List (List ℕ) → Option Cause
first_refusal [] ts = None
first_refusal (c ∷ cs) [] = None
first_refusal (c ∷ cs) (t ∷ ts) = option_or (c t) (first_refusal cs ts)

-- what is wrong with a statement, of which some tokens stand left: no form may stand there, or another
-- number of tokens stands behind its first word; else the first token that is not of its class
abbrev pub statement_cause : List Class → List (List ℕ) → Option Form → List (List ℕ) → Option Cause
statement_cause cs left None args = Some (bare BadLine)
statement_cause cs left (Some f) args =
    if length args == length (classes f) then first_refusal (cs ++ classes f) (left ++ args) else Some (bare BadLine)

-- what is wrong with a label alone: none stands before the module is named
abbrev pub label_cause : Section → List ℕ → Option Cause
label_cause section.Head label = Some (bare BadLine)
label_cause section.Code label = a_name label
label_cause section.Data label = a_name label

abbrev pub labelled_cause : Section → List ℕ → List (List ℕ) → Option Cause
labelled_cause s label [] = label_cause s label
labelled_cause s label (word ∷ args) = statement_cause (a_name ∷ []) (label ∷ []) (body_form (form_at s word)) args

abbrev pub first_cause_of : Section → Option (List ℕ) → List ℕ → List (List ℕ) → Option Cause
first_cause_of s None word args = statement_cause [] [] (form_at s word) args
first_cause_of s (Some label) word args = labelled_cause s label args

unfoldable pub words_cause : Section → List (List ℕ) → Option Cause
words_cause s [] = None
words_cause s (word ∷ args) = first_cause_of s (label_of word) word args

-- what is wrong with a line in a section
unfoldable pub line_cause : Section → List ℕ → Option Cause
line_cause s line = if is_ascii_line line then words_cause s (tokens line) else Some (bare NotAscii)

-- the lines before say something, and the line has something wrong in the section behind them
pub record IsBadLine (text : List ℕ) (fault : Fault) : Type 0 where
  pub before : List (List ℕ)
  pub line : List ℕ
  pub after : List (List ℕ)
  pub said : List (ℕ × Statement)
  pub cause : Cause
  pub lines : lines text ≡ before ++ line ∷ after
  pub say : LinesSay section.Head 0 before said
  pub bad : line_cause (section_behind section.Head said) line ≡ Some cause
  pub placed : fault ≡ fault_at (length before + 1) cause

-- all lines say something, but none names the module
pub record IsUnnamed (text : List ℕ) (fault : Fault) : Type 0 where
  pub said : List (ℕ × Statement)
  pub say : LinesSay section.Head 0 (lines text) said
  pub unnamed : values_in module_in said ≡ []
  pub placed : fault ≡ fault_at (length (lines text) + 1) lacks_module

-- the lines say the parts of a module, and the fault is the module's first, at the line of its place
pub record IsFaultOfModule (text : List ℕ) (fault : Fault) : Type 0 where
  pub said : List (ℕ × Statement)
  pub say : LinesSay section.Head 0 (lines text) said
  pub parts : Parts
  pub are : AreParts said parts
  pub found : ModuleFault
  pub first : IsFirstFault parts found
  pub placed : fault ≡ fault_in (numbers_in said) found

-- the fault is the first of the text: that of a line comes before that of the module
abbrev pub IsSourceFault : List ℕ → Fault → Type 0
IsSourceFault text fault = IsBadLine text fault ⊎ (IsUnnamed text fault ⊎ IsFaultOfModule text fault)
