-- Sources of modules: what their lines say, and which module a text stands for.
use Rattle.std.specs.Prelude.{◌≡◌, ℕ, ◌+◌, true, List, [], ◌∷◌, ◌++◌, map, Option, Some, None, option_map, Result, Ok}
use Rattle.std.specs.List.{filter_map}
use Rattle.std.specs.Str.Lines.{lines}
use Rattle.tn_text.specs.declared.faults.Cause.{Cause}
use Rattle.tn_text.specs.declared.limits.TheConstants.{NAME_LIMIT}
use Rattle.tn_text.specs.Lines.{is_ascii_line, tokens}
use Rattle.tn_text.specs.Places.{name_at, number_at}
use Rattle.tn_module.specs.declared.modules.Import.{Import}
use Rattle.tn_module.specs.declared.modules.Item.{Item}
use Rattle.tn_module.specs.declared.modules.Item.TheVariants as item
use Rattle.tn_module.specs.declared.modules.Cell.{Cell}
use Rattle.tn_module.specs.declared.modules.Cell.TheVariants as cell
use Rattle.tn_module.specs.Modules.{Parts}
use Rattle.tn_module.specs.Validity.{IsValid}
use Rattle.tn_modtext.specs.Tokens.{kind_at}
use Rattle.tn_asm.specs.declared.statements.Section.{Section}
use Rattle.tn_asm.specs.declared.statements.Section.TheVariants as section
use Rattle.tn_asm.specs.declared.statements.Statement.{Statement}
use Rattle.tn_asm.specs.declared.statements.Statement.TheVariants as statement
use Rattle.tn_asm.specs.declared.forms.Form.{Form}
use Rattle.tn_asm.specs.declared.forms.Form.TheVariants as form
use Rattle.tn_asm.specs.declared.forms.ItemForm.TheVariants as item_form
use Rattle.tn_asm.specs.declared.forms.CellForm.TheVariants as cell_form
use Rattle.tn_asm.specs.Forms.{form_at, body_form}
use Rattle.tn_asm.specs.Labels.{label_of, label_said}
use Rattle.tn_asm.specs.Said.{limited_at, operand_at, imported, as_item, as_cell}
use Rattle.tn_asm.specs.Numbered.{LineNumbers}

-- ---- what the tokens behind a first word say, one case for each form of a statement

abbrev pub None_of : {A : Type 0} → List (List ℕ) → A → A → Type 0
None_of args made x = (args ≡ []) × (x ≡ made)

abbrev pub One_of : {A B : Type 0} → (List ℕ → Result A Cause) → (A → B) → List (List ℕ) → B → Type 0
One_of {A} read make args x = (token : List ℕ) × (a : A) × (args ≡ token ∷ []) × (read token ≡ Ok a) × (x ≡ make a)

abbrev pub Two_of : {A B C : Type 0} → (List ℕ → Result A Cause) → (List ℕ → Result B Cause) → (A → B → C) → List (List ℕ) → C → Type 0
Two_of {A} {B} read_one read_two make args x =
    (one : List ℕ) × (two : List ℕ) × (a : A) × (b : B) × (args ≡ one ∷ two ∷ []) × (read_one one ≡ Ok a) × (read_two two ≡ Ok b)
    × (x ≡ make a b)

unfoldable pub ArgumentsSay : Form → List (List ℕ) → Statement → Type 0
ArgumentsSay form.Module args x = One_of (name_at NAME_LIMIT) statement.Module args x
ArgumentsSay form.Import args x = Two_of kind_at (name_at NAME_LIMIT) imported args x
ArgumentsSay form.Export args x = One_of (name_at NAME_LIMIT) statement.Export args x
ArgumentsSay form.Code args x = None_of args statement.Code x
ArgumentsSay form.Data args x = None_of args statement.Data x
ArgumentsSay (form.Item (item_form.Function f)) args x = One_of operand_at (as_item (item.Direct f)) args x
ArgumentsSay (form.Item (item_form.Operation op)) args x = None_of args (statement.Item (item.Plain op)) x
ArgumentsSay (form.Item item_form.Byte) args x = One_of (limited_at 255) (as_item item.Byte) args x
ArgumentsSay (form.Cell cell_form.Word) args x = One_of number_at (as_cell cell.Word) args x
ArgumentsSay (form.Cell cell_form.Address) args x = One_of (name_at NAME_LIMIT) (as_cell cell.Address) args x
ArgumentsSay (form.Cell cell_form.Byte) args x = One_of (limited_at 255) (as_cell cell.Byte) args x
ArgumentsSay (form.Cell cell_form.Space) args x = One_of (limited_at 1048576) (as_cell cell.Space) args x
ArgumentsSay (form.Cell cell_form.Align) args x = None_of args (statement.Cell cell.Align) x

-- ---- what a line says

-- the words are a statement of a form that may stand there
abbrev pub StatementSays : Option Form → List (List ℕ) → Statement → Type 0
StatementSays found args x = (f : Form) × (found ≡ Some f) × ArgumentsSay f args x

-- a label alone, or before code or static data
abbrev pub LabelledSays : Section → List ℕ → List (List ℕ) → List Statement → Type 0
LabelledSays s label [] here = (l : Statement) × (label_said s label ≡ Ok l) × (here ≡ l ∷ [])
LabelledSays s label (word ∷ args) here =
    (l : Statement) × (x : Statement) × (label_said s label ≡ Ok l) × StatementSays (body_form (form_at s word)) args x
    × (here ≡ l ∷ x ∷ [])

abbrev pub FirstSays : Section → Option (List ℕ) → List ℕ → List (List ℕ) → List Statement → Type 0
FirstSays s None word args here = (x : Statement) × StatementSays (form_at s word) args x × (here ≡ x ∷ [])
FirstSays s (Some label) word args here = LabelledSays s label args here

-- what the tokens of a line in a section say: nothing; a statement; a label; or both
unfoldable pub WordsSay : Section → List (List ℕ) → List Statement → Type 0
WordsSay s [] here = here ≡ []
WordsSay s (word ∷ args) here = FirstSays s (label_of word) word args here

abbrev pub LineSays : Section → List ℕ → List Statement → Type 0
LineSays s line here = (is_ascii_line line ≡ true) × WordsSay s (tokens line) here

-- ---- what lines say, each statement with the number of its line

-- the section behind a statement, and behind several
abbrev pub section_after : Section → Statement → Section
section_after s (statement.Module name) = section.Code
section_after s (statement.Import import) = s
section_after s (statement.Export name) = s
section_after s statement.Code = section.Code
section_after s statement.Data = section.Data
section_after s (statement.Item i) = s
section_after s (statement.Cell c) = s

abbrev pub section_behind : Section → List (ℕ × Statement) → Section
section_behind s [] = s
section_behind s (x ∷ said) = section_behind (section_after s x.1) said

abbrev pub at_line : ℕ → List Statement → List (ℕ × Statement)
at_line n here = map (λ x. (n, x)) here

-- what lines say from a section on, where n lines stand before
unfoldable pub LinesSay : Section → ℕ → List (List ℕ) → List (ℕ × Statement) → Type 0
LinesSay s n [] said = said ≡ []
LinesSay s n (line ∷ ls) said =
    (here : List Statement) × (below : List (ℕ × Statement)) × LineSays s line here
    × LinesSay (section_behind s (at_line (n + 1) here)) (n + 1) ls below × (said ≡ at_line (n + 1) here ++ below)

-- ---- the module of the statements

abbrev pub module_in : Statement → Option (List ℕ)
module_in (statement.Module name) = Some name
module_in (statement.Import import) = None
module_in (statement.Export name) = None
module_in statement.Code = None
module_in statement.Data = None
module_in (statement.Item i) = None
module_in (statement.Cell c) = None

abbrev pub import_in : Statement → Option Import
import_in (statement.Module name) = None
import_in (statement.Import import) = Some import
import_in (statement.Export name) = None
import_in statement.Code = None
import_in statement.Data = None
import_in (statement.Item i) = None
import_in (statement.Cell c) = None

abbrev pub export_in : Statement → Option (List ℕ)
export_in (statement.Module name) = None
export_in (statement.Import import) = None
export_in (statement.Export name) = Some name
export_in statement.Code = None
export_in statement.Data = None
export_in (statement.Item i) = None
export_in (statement.Cell c) = None

abbrev pub item_in : Statement → Option Item
item_in (statement.Module name) = None
item_in (statement.Import import) = None
item_in (statement.Export name) = None
item_in statement.Code = None
item_in statement.Data = None
item_in (statement.Item i) = Some i
item_in (statement.Cell c) = None

abbrev pub cell_in : Statement → Option Cell
cell_in (statement.Module name) = None
cell_in (statement.Import import) = None
cell_in (statement.Export name) = None
cell_in statement.Code = None
cell_in statement.Data = None
cell_in (statement.Item i) = None
cell_in (statement.Cell c) = Some c

-- the statements that say such a part of a module, each part with the number of its line
abbrev pub numbered : {X : Type 0} → (Statement → Option X) → ℕ × Statement → Option (ℕ × X)
numbered part x = option_map (λ p. (x.0, p)) (part x.1)

abbrev pub parts_in : {X : Type 0} → (Statement → Option X) → List (ℕ × Statement) → List (ℕ × X)
parts_in part said = filter_map (numbered part) said

-- the parts, and the numbers of their lines
abbrev pub values_in : {X : Type 0} → (Statement → Option X) → List (ℕ × Statement) → List X
values_in part said = map (λ p. p.1) (parts_in part said)

abbrev pub lines_in : {X : Type 0} → (Statement → Option X) → List (ℕ × Statement) → List ℕ
lines_in part said = map (λ p. p.0) (parts_in part said)

-- the statements name the module, and the lists of its parts are those that they say
pub record AreParts (said : List (ℕ × Statement)) (m : Parts) : Type 0 where
  pub name : values_in module_in said ≡ m.name ∷ []
  pub imports : values_in import_in said ≡ m.imports
  pub exports : values_in export_in said ≡ m.exports
  pub items : values_in item_in said ≡ m.items
  pub cells : values_in cell_in said ≡ m.cells

-- the lines at which the parts stand
abbrev pub numbers_in : List (ℕ × Statement) → LineNumbers
numbers_in said =
    record {
      imports = lines_in import_in said;
      exports = lines_in export_in said;
      items = lines_in item_in said;
      cells = lines_in cell_in said;
    }

-- the text stands for the module: its lines say what makes the module's parts, and these are valid
pub record IsSource (text : List ℕ) (m : Parts) : Type 0 where
  pub said : List (ℕ × Statement)
  pub say : LinesSay section.Head 0 (lines text) said
  pub are : AreParts said m
  pub valid : IsValid m
