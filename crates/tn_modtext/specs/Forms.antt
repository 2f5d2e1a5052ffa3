-- The forms of the lines of a module text, their first words, and where they may stand.
use Rattle.std.specs.Prelude.{ℕ, Bool, true, false, ◌&&◌, List, [], ◌∷◌, Option, find, codes}
use Rattle.std.specs.Str.{bytes_eq}
use Rattle.tn_modtext.specs.declared.forms.Section.{Section}
use Rattle.tn_modtext.specs.declared.forms.Section.TheVariants as section
use Rattle.tn_modtext.specs.declared.forms.Form.{Form}
use Rattle.tn_modtext.specs.declared.forms.Form.TheVariants as form
use Rattle.tn_modtext.specs.declared.forms.ItemForm.{ItemForm}
use Rattle.tn_modtext.specs.declared.forms.ItemForm.TheVariants as item
use Rattle.tn_modtext.specs.declared.forms.CellForm.{CellForm}
use Rattle.tn_modtext.specs.declared.forms.CellForm.TheVariants as cell

-- the first word of a line of code, and of static data
abbrev pub item_word : ItemForm → List ℕ
item_word item.Function = codes "i"
item_word item.Operation = codes "o"
item_word item.Byte = codes "b"
item_word item.Label = codes "l"

abbrev pub cell_word : CellForm → List ℕ
cell_word cell.Word = codes "w"
cell_word cell.Address = codes "a"
cell_word cell.Byte = codes "b"
cell_word cell.Space = codes "s"
cell_word cell.Align = codes "align"
cell_word cell.Label = codes "l"

-- the first word of a line
abbrev pub form_word : Form → List ℕ
form_word form.Head = codes "tmod"
form_word form.Name = codes "name"
form_word form.Import = codes "import"
form_word form.Export = codes "export"
form_word form.Code = codes "code"
form_word (form.Item f) = item_word f
form_word form.Data = codes "data"
form_word (form.Cell f) = cell_word f
form_word form.End = codes "end"

-- whether a line of the form may stand in the section
abbrev pub stands : Section → Form → Bool
stands section.Head form.Head = true
stands section.Name form.Name = true
stands section.Imports form.Import = true
stands section.Imports form.Export = true
stands section.Imports form.Code = true
stands section.Exports form.Export = true
stands section.Exports form.Code = true
stands section.Items (form.Item f) = true
stands section.Items form.Data = true
stands section.Cells (form.Cell f) = true
stands section.Cells form.End = true
stands s f = false

-- the section behind a line of the form
abbrev pub section_after : Form → Section
section_after form.Head = section.Name
section_after form.Name = section.Imports
section_after form.Import = section.Imports
section_after form.Export = section.Exports
section_after form.Code = section.Items
section_after (form.Item f) = section.Items
section_after form.Data = section.Cells
section_after (form.Cell f) = section.Cells
section_after form.End = section.End

-- each form
abbrev pub forms : List Form
forms =
    form.Head ∷ form.Name ∷ form.Import ∷ form.Export ∷ form.Code ∷ form.Item item.Function ∷ form.Item item.Operation
    ∷ form.Item item.Byte ∷ form.Item item.Label ∷ form.Data ∷ form.Cell cell.Word ∷ form.Cell cell.Address ∷ form.Cell cell.Byte
    ∷ form.Cell cell.Space ∷ form.Cell cell.Align ∷ form.Cell cell.Label ∷ form.End ∷ []

-- the form that the first word of a line names in a section
unfoldable pub form_at : Section → List ℕ → Option Form
form_at s word = find (λ f. stands s f && bytes_eq (form_word f) word) forms
