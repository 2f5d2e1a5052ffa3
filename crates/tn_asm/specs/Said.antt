-- What the tokens of a line of a source say, or what is wrong with them: a first word that names no
-- form that may stand there, or a number of tokens that is not right, then the first token from the
-- left that is not of its class.
use Rattle.std.specs.Prelude.{ℕ, nat_le, List, [], ◌∷◌, Option, Some, None, Result, Ok, Err, if◌then◌else◌}
use Rattle.std.specs.Int.{w32, cast_signed}
use Rattle.tn_text.specs.declared.faults.Cause.{Cause}
use Rattle.tn_text.specs.declared.faults.FaultCode.TheVariants.{BadNumber}
use Rattle.tn_text.specs.declared.limits.TheConstants.{NAME_LIMIT}
use Rattle.tn_text.specs.Faults.{bare}
use Rattle.tn_text.specs.Numbers.{begins_number}
use Rattle.tn_text.specs.Places.{name_at, number_at}
use Rattle.tn_text.specs.Reading.{result_then}
use Rattle.tn_module.specs.declared.modules.Kind.{Kind}
use Rattle.tn_module.specs.declared.modules.Operand.{Operand}
use Rattle.tn_module.specs.declared.modules.Operand.TheVariants.{Number}
use Rattle.tn_module.specs.declared.modules.Item.{Item}
use Rattle.tn_module.specs.declared.modules.Item.TheVariants as item
use Rattle.tn_module.specs.declared.modules.Cell.{Cell}
use Rattle.tn_module.specs.declared.modules.Cell.TheVariants as cell
use Rattle.tn_modtext.specs.LinesAt.{no_token, one_token, two_tokens}
use Rattle.tn_modtext.specs.Operands.{named_operand_at}
use Rattle.tn_modtext.specs.Tokens.{kind_at}
use Rattle.tn_asm.specs.declared.statements.Section.{Section}
use Rattle.tn_asm.specs.declared.statements.Statement.{Statement}
use Rattle.tn_asm.specs.declared.statements.Statement.TheVariants as statement
use Rattle.tn_asm.specs.declared.forms.Form.{Form}
use Rattle.tn_asm.specs.declared.forms.Form.TheVariants as form
use Rattle.tn_asm.specs.declared.forms.ItemForm.{ItemForm}
use Rattle.tn_asm.specs.declared.forms.ItemForm.TheVariants as item_form
use Rattle.tn_asm.specs.declared.forms.CellForm.{CellForm}
use Rattle.tn_asm.specs.declared.forms.CellForm.TheVariants as cell_form
use Rattle.tn_asm.specs.Forms.{form_at, body_form, shaped}
use Rattle.tn_asm.specs.Labels.{label_of, label_said}

-- ---- the classes of tokens

-- the word of a number, of at most so much as an unsigned word
abbrev pub up_to : ℕ → ℕ → Result ℕ Cause
up_to limit word = if nat_le word limit then Ok word else Err (bare BadNumber)

abbrev pub limited_at : ℕ → List ℕ → Result ℕ Cause
limited_at limit token = result_then (number_at token) (up_to limit)

-- an operand: a number, taken as a signed word, NAME, NAME-NAME or @NAME
unfoldable pub operand_at : List ℕ → Result Operand Cause
operand_at token =
    if begins_number token
    then result_then (number_at token) (λ word. Ok (Number (cast_signed w32 word)))
    else named_operand_at token

-- ---- the tokens behind a first word

-- a token that is read, and what is made of it
abbrev pub made : {A B : Type 0} → (List ℕ → Result A Cause) → (A → B) → List ℕ → Result B Cause
made read make t = result_then (read t) (λ a. Ok (make a))

abbrev pub imported : Kind → List ℕ → Statement
imported kind name = statement.Import (record { kind = kind; name = name })

abbrev pub import_said : List (List ℕ) → Result Statement Cause
import_said args = two_tokens args (λ t u. result_then (kind_at t) (λ k. made (name_at NAME_LIMIT) (imported k) u))

abbrev pub as_item : {A : Type 0} → (A → Item) → A → Statement
as_item make a = statement.Item (make a)

abbrev pub as_cell : {A : Type 0} → (A → Cell) → A → Statement
as_cell make a = statement.Cell (make a)

abbrev pub item_said : ItemForm → List (List ℕ) → Result Statement Cause
item_said (item_form.Function f) args = one_token args (made operand_at (as_item (item.Direct f)))
item_said (item_form.Operation op) args = no_token args (statement.Item (item.Plain op))
item_said item_form.Byte args = one_token args (made (limited_at 255) (as_item item.Byte))

abbrev pub cell_said : CellForm → List (List ℕ) → Result Statement Cause
cell_said cell_form.Word args = one_token args (made number_at (as_cell cell.Word))
cell_said cell_form.Address args = one_token args (made (name_at NAME_LIMIT) (as_cell cell.Address))
cell_said cell_form.Byte args = one_token args (made (limited_at 255) (as_cell cell.Byte))
cell_said cell_form.Space args = one_token args (made (limited_at 1048576) (as_cell cell.Space))
cell_said cell_form.Align args = no_token args (statement.Cell cell.Align)

abbrev pub arguments_said : Form → List (List ℕ) → Result Statement Cause
arguments_said form.Module args = one_token args (made (name_at NAME_LIMIT) statement.Module)
arguments_said form.Import args = import_said args
arguments_said form.Export args = one_token args (made (name_at NAME_LIMIT) statement.Export)
arguments_said form.Code args = no_token args statement.Code
arguments_said form.Data args = no_token args statement.Data
arguments_said (form.Item f) args = item_said f args
arguments_said (form.Cell f) args = cell_said f args

-- ---- the tokens of a line

-- a statement by its form and the tokens behind its first word
abbrev pub statement_said : Option Form → List (List ℕ) → Result Statement Cause
statement_said f args = result_then (shaped f args) (λ g. arguments_said g args)

-- a label and a statement behind it
abbrev pub both_said : Section → List ℕ → Option Form → List (List ℕ) → Result (Statement × Statement) Cause
both_said s label f args =
    result_then (shaped f args)
    (λ g. result_then (label_said s label) (λ l. result_then (arguments_said g args) (λ x. Ok (l, x))))

-- a label, and what stands behind it
abbrev pub labelled_said : Section → List ℕ → List (List ℕ) → Result (List Statement) Cause
labelled_said s label [] = result_then (label_said s label) (λ l. Ok (l ∷ []))
labelled_said s label (word ∷ args) =
    result_then (both_said s label (body_form (form_at s word)) args) (λ b. Ok (b.0 ∷ b.1 ∷ []))

-- a line whose first token is this label, or none
abbrev pub first_said : Section → Option (List ℕ) → List ℕ → List (List ℕ) → Result (List Statement) Cause
first_said s None word args = result_then (statement_said (form_at s word) args) (λ x. Ok (x ∷ []))
first_said s (Some label) word args = labelled_said s label args

unfoldable pub words_said : Section → List (List ℕ) → Result (List Statement) Cause
words_said s [] = Ok []
words_said s (word ∷ args) = first_said s (label_of word) word args
