-- The forms of the statements of a source, their first words, and where they may stand.
use Rattle.std.specs.Prelude.{ℕ, ◌==◌, List, length, Option, Some, None, Result, Ok, Err, if◌then◌else◌}
use Rattle.tn_isa.specs.declared.mnemonics.Mnemonic.{Mnemonic}
use Rattle.tn_isa.specs.declared.mnemonics.Mnemonic.TheVariants.{Direct, Plain}
use Rattle.tn_isa.specs.Mnemonics.{mnemonic_named}
use Rattle.tn_text.specs.declared.faults.Cause.{Cause}
use Rattle.tn_text.specs.declared.faults.FaultCode.TheVariants.{BadLine}
use Rattle.tn_text.specs.Faults.{bare}
use Rattle.tn_asm.specs.declared.directives.Directive.{Directive}
use Rattle.tn_asm.specs.declared.directives.Directive.TheVariants as directive
use Rattle.tn_asm.specs.declared.statements.Section.{Section}
use Rattle.tn_asm.specs.declared.statements.Section.TheVariants as section
use Rattle.tn_asm.specs.declared.forms.Form.{Form}
use Rattle.tn_asm.specs.declared.forms.Form.TheVariants as form
use Rattle.tn_asm.specs.declared.forms.ItemForm.TheVariants as item_form
use Rattle.tn_asm.specs.declared.forms.CellForm.TheVariants as cell_form
use Rattle.tn_asm.specs.Directives.{directive_named}

-- the form that a directive names in a section
abbrev pub directive_form : Section → Directive → Option Form
directive_form section.Head directive.Module = Some form.Module
directive_form section.Code directive.Import = Some form.Import
directive_form section.Code directive.Export = Some form.Export
directive_form section.Code directive.Code = Some form.Code
directive_form section.Code directive.Data = Some form.Data
directive_form section.Code directive.Byte = Some (form.Item item_form.Byte)
directive_form section.Data directive.Import = Some form.Import
directive_form section.Data directive.Export = Some form.Export
directive_form section.Data directive.Code = Some form.Code
directive_form section.Data directive.Data = Some form.Data
directive_form section.Data directive.Byte = Some (form.Cell cell_form.Byte)
directive_form section.Data directive.Word = Some (form.Cell cell_form.Word)
directive_form section.Data directive.Address = Some (form.Cell cell_form.Address)
directive_form section.Data directive.Space = Some (form.Cell cell_form.Space)
directive_form section.Data directive.Align = Some (form.Cell cell_form.Align)
directive_form s d = None

-- mnemonics name forms in code alone
abbrev pub mnemonic_form : Section → Mnemonic → Option Form
mnemonic_form section.Head m = None
mnemonic_form section.Code (Direct f) = Some (form.Item (item_form.Function f))
mnemonic_form section.Code (Plain op) = Some (form.Item (item_form.Operation op))
mnemonic_form section.Data m = None

abbrev pub word_form : Section → Option Directive → Option Mnemonic → Option Form
word_form s (Some d) m = directive_form s d
word_form s None (Some m) = mnemonic_form s m
word_form s None None = None

-- the form that the first word of a statement names in a section
abbrev pub form_at : Section → List ℕ → Option Form
form_at s word = word_form s (directive_named word) (mnemonic_named word)

-- the form, where it is one of code or of static data, which may stand behind a label
abbrev pub body_form : Option Form → Option Form
body_form None = None
body_form (Some form.Module) = None
body_form (Some form.Import) = None
body_form (Some form.Export) = None
body_form (Some form.Code) = None
body_form (Some form.Data) = None
body_form (Some (form.Item f)) = Some (form.Item f)
body_form (Some (form.Cell f)) = Some (form.Cell f)

-- the number of tokens behind the first word
abbrev pub token_count : Form → ℕ
token_count form.Module = 1
token_count form.Import = 2
token_count form.Export = 1
token_count form.Code = 0
token_count form.Data = 0
token_count (form.Item (item_form.Function f)) = 1
token_count (form.Item (item_form.Operation op)) = 0
token_count (form.Item item_form.Byte) = 1
token_count (form.Cell cell_form.Word) = 1
token_count (form.Cell cell_form.Address) = 1
token_count (form.Cell cell_form.Byte) = 1
token_count (form.Cell cell_form.Space) = 1
token_count (form.Cell cell_form.Align) = 0

-- a first word that names no form there, or a number of tokens that is not right, is a bad line
abbrev pub shaped : Option Form → List (List ℕ) → Result Form Cause
shaped None args = Err (bare BadLine)
shaped (Some f) args = if length args == token_count f then Ok f else Err (bare BadLine)
