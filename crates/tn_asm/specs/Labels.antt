-- Labels of a source.
use Rattle.std.specs.Prelude.{ℕ, ◌-◌, ◌&&◌, ◌==◌, List, length, take, slice_index, Option, Some, None, Result, Ok, Err, if◌then◌else◌}
use Rattle.tn_text.specs.declared.faults.Cause.{Cause}
use Rattle.tn_text.specs.declared.faults.FaultCode.TheVariants.{BadLine}
use Rattle.tn_text.specs.declared.limits.TheConstants.{NAME_LIMIT}
use Rattle.tn_text.specs.Faults.{bare}
use Rattle.tn_text.specs.Names.{is_name_spelling}
use Rattle.tn_text.specs.Places.{name_at}
use Rattle.tn_text.specs.Reading.{result_then}
use Rattle.tn_module.specs.declared.modules.Item.TheVariants as item
use Rattle.tn_module.specs.declared.modules.Cell.TheVariants as cell
use Rattle.tn_asm.specs.declared.statements.Section.{Section}
use Rattle.tn_asm.specs.declared.statements.Section.TheVariants as section
use Rattle.tn_asm.specs.declared.statements.Statement.{Statement}
use Rattle.tn_asm.specs.declared.statements.Statement.TheVariants as statement

-- a token without its last byte
abbrev pub front : List ℕ → List ℕ
front token = take (length token - 1) token

-- the name, however long, of a token that is a label: a name and a colon
unfoldable pub label_of : List ℕ → Option (List ℕ)
label_of token =
    if slice_index token (length token - 1) == 58 && is_name_spelling (front token) then Some (front token) else None

-- a label is an item in the code, and a cell in the data; none stands before the module is named
abbrev pub label_said : Section → List ℕ → Result Statement Cause
label_said section.Head name = Err (bare BadLine)
label_said section.Code name = result_then (name_at NAME_LIMIT name) (λ n. Ok (statement.Item (item.Label n)))
label_said section.Data name = result_then (name_at NAME_LIMIT name) (λ n. Ok (statement.Cell (cell.Label n)))
