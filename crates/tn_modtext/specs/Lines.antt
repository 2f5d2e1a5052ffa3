-- The lines of a module, and how they are spelled: tokens one blank apart, each line with a line
-- feed behind it.
use Rattle.std.specs.Prelude.{◌≡◌, ⊤, ℕ, ◌<◌, ◌^◌, false, List, [], ◌∷◌, ◌++◌, map, All, codes}
use Rattle.std.specs.List.{flat_map, join_with_byte}
use Rattle.std.specs.Fmt.{decimal, signed_decimal}
use Rattle.tn_isa.specs.declared.functions.Fun.{Fun}
use Rattle.tn_isa.specs.declared.functions.Fun.TheVariants as fun
use Rattle.tn_isa.specs.Mnemonics.{function_name, operation_name}
use Rattle.tn_module.specs.declared.modules.Kind.{Kind}
use Rattle.tn_module.specs.declared.modules.Kind.TheVariants as kind
use Rattle.tn_module.specs.declared.modules.Operand.{Operand}
use Rattle.tn_module.specs.declared.modules.Operand.TheVariants as operand
use Rattle.tn_module.specs.declared.modules.Item.{Item}
use Rattle.tn_module.specs.declared.modules.Item.TheVariants as item
use Rattle.tn_module.specs.declared.modules.Cell.{Cell}
use Rattle.tn_module.specs.declared.modules.Cell.TheVariants as cell
use Rattle.tn_module.specs.Modules.{Parts}
use Rattle.tn_module.specs.Names.{is_one_of}
use Rattle.tn_module.specs.Ranges.{IsName, IsOperand, IsImport, IsCell}
use Rattle.tn_modtext.specs.declared.forms.Form.{Form}
use Rattle.tn_modtext.specs.declared.forms.Form.TheVariants as form
use Rattle.tn_modtext.specs.declared.forms.ItemForm.{ItemForm}
use Rattle.tn_modtext.specs.declared.forms.ItemForm.TheVariants as item_forms
use Rattle.tn_modtext.specs.declared.forms.CellForm.{CellForm}
use Rattle.tn_modtext.specs.declared.forms.CellForm.TheVariants as cell_forms
use Rattle.tn_modtext.specs.declared.lines.Line.{Line}
use Rattle.tn_modtext.specs.declared.lines.Line.TheVariants as line
use Rattle.tn_modtext.specs.Forms.{form_word}

-- ---- the form of a line, and what stands behind its first word

abbrev pub item_form : Item → ItemForm
item_form (item.Direct f o) = item_forms.Function
item_form (item.Plain op) = item_forms.Operation
item_form (item.Byte b) = item_forms.Byte
item_form (item.Label name) = item_forms.Label

abbrev pub cell_form : Cell → CellForm
cell_form (cell.Word w) = cell_forms.Word
cell_form (cell.Address name) = cell_forms.Address
cell_form (cell.Byte b) = cell_forms.Byte
cell_form (cell.Space n) = cell_forms.Space
cell_form cell.Align = cell_forms.Align
cell_form (cell.Label name) = cell_forms.Label

abbrev pub line_form : Line → Form
line_form line.Head = form.Head
line_form (line.Name name) = form.Name
line_form (line.Import import) = form.Import
line_form (line.Export name) = form.Export
line_form line.Code = form.Code
line_form (line.Item i) = form.Item (item_form i)
line_form line.Data = form.Data
line_form (line.Cell c) = form.Cell (cell_form c)
line_form line.End = form.End

-- the words for what an import is
abbrev pub kind_word : Kind → List ℕ
kind_word kind.Code = codes "code"
kind_word kind.Cell = codes "data"

-- an operand: a number, NAME, NAME-NAME or @NAME
abbrev pub operand_text : Operand → List ℕ
operand_text (operand.Number v) = signed_decimal v
operand_text (operand.To name) = name
operand_text (operand.Difference high low) = high ++ 45 ∷ low
operand_text (operand.CellWord name) = 64 ∷ name

abbrev pub item_args : Item → List (List ℕ)
item_args (item.Direct f o) = function_name f ∷ operand_text o ∷ []
item_args (item.Plain op) = operation_name op ∷ []
item_args (item.Byte b) = decimal b ∷ []
item_args (item.Label name) = name ∷ []

abbrev pub cell_args : Cell → List (List ℕ)
cell_args (cell.Word w) = decimal w ∷ []
cell_args (cell.Address name) = name ∷ []
cell_args (cell.Byte b) = decimal b ∷ []
cell_args (cell.Space n) = decimal n ∷ []
cell_args cell.Align = []
cell_args (cell.Label name) = name ∷ []

abbrev pub line_args : Line → List (List ℕ)
line_args line.Head = codes "1" ∷ []
line_args (line.Name name) = name ∷ []
line_args (line.Import import) = kind_word import.kind ∷ import.name ∷ []
line_args (line.Export name) = name ∷ []
line_args line.Code = []
line_args (line.Item i) = item_args i
line_args line.Data = []
line_args (line.Cell c) = cell_args c
line_args line.End = []

-- ---- how a line is spelled

-- the tokens of a line
abbrev pub line_words : Line → List (List ℕ)
line_words l = form_word (line_form l) ∷ line_args l

-- the line: its tokens, one blank apart
unfoldable pub line_text : Line → List ℕ
line_text l = join_with_byte 32 (line_words l)

-- a line with the line feed at its end
abbrev pub ended : List ℕ → List ℕ
ended text = text ++ 10 ∷ []

abbrev pub line_spelling : Line → List ℕ
line_spelling l = ended (line_text l)

-- ---- the lines of a module

unfoldable pub lines_of : Parts → List Line
lines_of m =
    ((((((line.Head ∷ line.Name m.name ∷ []) ++ map line.Import m.imports) ++ map line.Export m.exports) ++ line.Code ∷ [])
    ++ map line.Item m.items) ++ line.Data ∷ []) ++ map line.Cell m.cells ++ line.End ∷ []

-- the one text of the module
abbrev pub spelling : Parts → List ℕ
spelling m = flat_map line_spelling (lines_of m)

-- ---- which modules have a spelling: a function is one that sources name, and what stands in the
-- lines is in its range

abbrev pub HasMnemonic : Fun → Type 0
HasMnemonic f = is_one_of (fun.Pfix ∷ fun.Nfix ∷ fun.Opr ∷ []) f ≡ false

abbrev pub IsSpelledItem : Item → Type 0
IsSpelledItem (item.Direct f o) = HasMnemonic f × IsOperand o
IsSpelledItem (item.Plain op) = ⊤
IsSpelledItem (item.Byte b) = b < 2 ^ 8
IsSpelledItem (item.Label name) = IsName name

abbrev pub IsSpelled : Line → Type 0
IsSpelled line.Head = ⊤
IsSpelled (line.Name name) = IsName name
IsSpelled (line.Import import) = IsImport import
IsSpelled (line.Export name) = IsName name
IsSpelled line.Code = ⊤
IsSpelled (line.Item i) = IsSpelledItem i
IsSpelled line.Data = ⊤
IsSpelled (line.Cell c) = IsCell c
IsSpelled line.End = ⊤

abbrev pub HasSpelling : Parts → Type 0
HasSpelling m = All IsSpelled (lines_of m)
