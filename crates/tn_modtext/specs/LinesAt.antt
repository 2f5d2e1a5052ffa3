-- What line some tokens are in a section, or what is wrong with them: a first word that names no form
-- that may stand there, a number of tokens that is not right, then the first token from the left that
-- is not of its class.
use Rattle.std.specs.Prelude.{ℕ, ◌-◌, ◌^◌, List, [], ◌∷◌, Option, Some, None, Result, Ok, Err}
use Rattle.tn_isa.specs.Mnemonics.{mnemonic_named}
use Rattle.tn_text.specs.declared.faults.Cause.{Cause}
use Rattle.tn_text.specs.declared.faults.FaultCode.TheVariants.{BadLine}
use Rattle.tn_text.specs.declared.limits.TheConstants.{NAME_LIMIT}
use Rattle.tn_text.specs.Faults.{bare}
use Rattle.tn_text.specs.Places.{name_at}
use Rattle.tn_text.specs.Reading.{result_then}
use Rattle.tn_module.specs.declared.modules.Item.{Item}
use Rattle.tn_module.specs.declared.modules.Item.TheVariants as item
use Rattle.tn_module.specs.declared.modules.Cell.{Cell}
use Rattle.tn_module.specs.declared.modules.Cell.TheVariants as cell
use Rattle.tn_modtext.specs.declared.forms.Section.{Section}
use Rattle.tn_modtext.specs.declared.forms.Form.{Form}
use Rattle.tn_modtext.specs.declared.forms.Form.TheVariants as form
use Rattle.tn_modtext.specs.declared.forms.ItemForm.{ItemForm}
use Rattle.tn_modtext.specs.declared.forms.ItemForm.TheVariants as item_form
use Rattle.tn_modtext.specs.declared.forms.CellForm.{CellForm}
use Rattle.tn_modtext.specs.declared.forms.CellForm.TheVariants as cell_form
use Rattle.tn_modtext.specs.declared.lines.Line.{Line}
use Rattle.tn_modtext.specs.declared.lines.Line.TheVariants as line
use Rattle.tn_modtext.specs.Forms.{form_at}
use Rattle.tn_modtext.specs.Numerals.{natural_at}
use Rattle.tn_modtext.specs.Operands.{operand_at}
use Rattle.tn_modtext.specs.Tokens.{version_at, kind_at, function_of, operation_of}

-- no token, one, or two: another number is a bad line
abbrev pub no_token : {A : Type 0} → List (List ℕ) → A → Result A Cause
no_token [] value = Ok value
no_token (t ∷ ts) value = Err (bare BadLine)

abbrev pub one_token : {A : Type 0} → List (List ℕ) → (List ℕ → Result A Cause) → Result A Cause
one_token [] read = Err (bare BadLine)
one_token (t ∷ []) read = read t
one_token (t ∷ u ∷ ts) read = Err (bare BadLine)

abbrev pub two_tokens : {A : Type 0} → List (List ℕ) → (List ℕ → List ℕ → Result A Cause) → Result A Cause
two_tokens [] read = Err (bare BadLine)
two_tokens (t ∷ []) read = Err (bare BadLine)
two_tokens (t ∷ u ∷ []) read = read t u
two_tokens (t ∷ u ∷ v ∷ ts) read = Err (bare BadLine)

abbrev pub named : {A : Type 0} → (List ℕ → A) → List ℕ → Result A Cause
named put t = result_then (name_at NAME_LIMIT t) (λ name. Ok (put name))

abbrev pub counted : {A : Type 0} → ℕ → (ℕ → A) → List ℕ → Result A Cause
counted limit put t = result_then (natural_at limit t) (λ n. Ok (put n))

abbrev pub import_said : List (List ℕ) → Result Line Cause
import_said args =
    two_tokens args (λ t u. result_then (kind_at t) (λ k. named (λ name. line.Import (record { kind = k; name = name })) u))

abbrev pub direct_said : List ℕ → List ℕ → Result Item Cause
direct_said t u = result_then (function_of (mnemonic_named t)) (λ f. result_then (operand_at u) (λ o. Ok (item.Direct f o)))

abbrev pub item_said : ItemForm → List (List ℕ) → Result Item Cause
item_said item_form.Function args = two_tokens args direct_said
item_said item_form.Operation args = one_token args (λ t. result_then (operation_of (mnemonic_named t)) (λ op. Ok (item.Plain op)))
item_said item_form.Byte args = one_token args (counted 255 item.Byte)
item_said item_form.Label args = one_token args (named item.Label)

abbrev pub cell_said : CellForm → List (List ℕ) → Result Cell Cause
cell_said cell_form.Word args = one_token args (counted (2 ^ 32 - 1) cell.Word)
cell_said cell_form.Address args = one_token args (named cell.Address)
cell_said cell_form.Byte args = one_token args (counted 255 cell.Byte)
cell_said cell_form.Space args = one_token args (counted (2 ^ 32 - 1) cell.Space)
cell_said cell_form.Align args = no_token args cell.Align
cell_said cell_form.Label args = one_token args (named cell.Label)

-- the line of a form, by the tokens behind its first word
abbrev pub line_said : Form → List (List ℕ) → Result Line Cause
line_said form.Head args = one_token args (λ t. result_then (version_at t) (λ _. Ok line.Head))
line_said form.Name args = one_token args (named line.Name)
line_said form.Import args = import_said args
line_said form.Export args = one_token args (named line.Export)
line_said form.Code args = no_token args line.Code
line_said (form.Item f) args = result_then (item_said f args) (λ i. Ok (line.Item i))
line_said form.Data args = no_token args line.Data
line_said (form.Cell f) args = result_then (cell_said f args) (λ c. Ok (line.Cell c))
line_said form.End args = no_token args line.End

abbrev pub said_by : Option Form → List (List ℕ) → Result Line Cause
said_by None args = Err (bare BadLine)
said_by (Some f) args = line_said f args

-- the line that tokens are in a section
abbrev pub line_at : Section → List (List ℕ) → Result Line Cause
line_at s [] = Err (bare BadLine)
line_at s (word ∷ args) = said_by (form_at s word) args
