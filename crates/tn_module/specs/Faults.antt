-- What is wrong at a place of a module, and the first place where anything is.
use Rattle.std.specs.Prelude.{◌≡◌, ⊤, ℕ, ◌<◌, Bool, not, ◌⊎◌, List, [], ◌∷◌, ◌++◌, map, take, slice_get, Option, Some}
use Rattle.std.specs.Prelude.{option_and_then, Result, IfErr}
use Rattle.tn_isa.specs.declared.functions.Fun.{Fun}
use Rattle.tn_text.specs.declared.faults.Cause.{Cause}
use Rattle.tn_text.specs.declared.faults.FaultCode.{FaultCode}
use Rattle.tn_text.specs.declared.faults.FaultCode.TheVariants.{DuplicateName, NoSuchName, WrongOperand, WrongKind, Misaligned}
use Rattle.tn_text.specs.declared.faults.Detail.TheVariants.{Named}
use Rattle.tn_text.specs.Faults.{bare}
use Rattle.tn_text.specs.Firsts.{IsFirstWrong, first_cause}
use Rattle.tn_module.specs.declared.faults.Place.{Place}
use Rattle.tn_module.specs.declared.faults.Place.TheVariants as place
use Rattle.tn_module.specs.declared.faults.ModuleFault.{ModuleFault}
use Rattle.tn_module.specs.declared.faults.CheckFault.{CheckFault}
use Rattle.tn_module.specs.declared.faults.CheckFault.TheVariants as check
use Rattle.tn_module.specs.declared.modules.Import.{Import}
use Rattle.tn_module.specs.declared.modules.Operand.{Operand}
use Rattle.tn_module.specs.declared.modules.Item.{Item}
use Rattle.tn_module.specs.declared.modules.Item.TheVariants as item
use Rattle.tn_module.specs.declared.modules.Cell.{Cell}
use Rattle.tn_module.specs.declared.modules.Cell.TheVariants as cell
use Rattle.tn_module.specs.Modules.{Parts}
use Rattle.tn_module.specs.Names.{is_among, import_names, code_labels, cell_labels, defined_names, code_names, cell_names, labels}
use Rattle.tn_module.specs.Names.{misaligned, code_uses, cell_uses, takes}

-- what a module says of a name
pub record Known : Type 0 where
  pub defined : List ℕ → Bool
  pub code : List ℕ → Bool
  pub cell : List ℕ → Bool
  pub label : List ℕ → Bool
  pub misaligned : List ℕ → Bool

abbrev pub known : Parts → Known
known m =
    record {
      defined = is_among (defined_names m);
      code = is_among (code_names m);
      cell = is_among (cell_names m);
      label = is_among (labels m);
      misaligned = is_among (misaligned m);
    }

-- a fault that names a name, and one for each of some names
abbrev pub named : FaultCode → List ℕ → Cause
named code name = record { code = code; detail = Named name }

abbrev pub each : FaultCode → (List ℕ → Bool) → List (List ℕ) → List (Bool × Cause)
each code test names = map (λ name. (test name, named code name)) names

-- a name that stands again
abbrev pub again : List (List ℕ) → List ℕ → Bool × Cause
again before name = (is_among before name, named DuplicateName name)

-- what may be wrong at an import, an export, an item and a cell, with the names before it among
-- those that it has to differ from, in order
abbrev pub import_causes : List (List ℕ) → Import → List (Bool × Cause)
import_causes before import = again before import.name ∷ []

abbrev pub export_causes : Known → List (List ℕ) → List ℕ → List (Bool × Cause)
export_causes known before name =
    again before name ∷ (not (known.label name), named NoSuchName name) ∷ (known.misaligned name, named Misaligned name) ∷ []

abbrev pub operand_causes : Known → Fun → Operand → List (Bool × Cause)
operand_causes known f o =
    each NoSuchName (λ name. not (known.defined name)) (code_uses o ++ cell_uses o)
    ++ (not (takes f o), bare WrongOperand) ∷ []
    ++ each WrongKind (λ name. not (known.code name)) (code_uses o)
    ++ each WrongKind (λ name. not (known.cell name)) (cell_uses o)
    ++ each Misaligned known.misaligned (cell_uses o)

abbrev pub item_causes : Known → List (List ℕ) → Item → List (Bool × Cause)
item_causes known before (item.Direct f o) = operand_causes known f o
item_causes known before (item.Plain op) = []
item_causes known before (item.Byte b) = []
item_causes known before (item.Label name) = again before name ∷ []

abbrev pub cell_causes : Known → List (List ℕ) → Cell → List (Bool × Cause)
cell_causes known before (cell.Word w) = []
cell_causes known before (cell.Address name) = (not (known.defined name), named NoSuchName name) ∷ []
cell_causes known before (cell.Byte b) = []
cell_causes known before (cell.Space n) = []
cell_causes known before cell.Align = []
cell_causes known before (cell.Label name) = again before name ∷ []

-- what is wrong at a place: imports stand before labels of code, and these before those of cells
unfoldable pub cause_at : Parts → Place → Option Cause
cause_at m (place.Import i) = option_and_then (λ x. first_cause (import_causes (import_names (take i m.imports)) x)) (slice_get m.imports i)
cause_at m (place.Export i) = option_and_then (λ x. first_cause (export_causes (known m) (take i m.exports) x)) (slice_get m.exports i)
cause_at m (place.Item i) =
    option_and_then (λ x. first_cause (item_causes (known m) (import_names m.imports ++ code_labels (take i m.items)) x))
    (slice_get m.items i)
cause_at m (place.Cell i) =
    option_and_then (λ x. first_cause (cell_causes (known m)
    ((import_names m.imports ++ code_labels m.items) ++ cell_labels (take i m.cells)) x)) (slice_get m.cells i)

-- the order of places: imports, exports, items, cells, and by index among each
abbrev pub list_number : Place → ℕ
list_number (place.Import i) = 0
list_number (place.Export i) = 1
list_number (place.Item i) = 2
list_number (place.Cell i) = 3

abbrev pub index : Place → ℕ
index (place.Import i) = i
index (place.Export i) = i
index (place.Item i) = i
index (place.Cell i) = i

abbrev pub IsBefore : Place → Place → Type 0
IsBefore p q = (list_number p < list_number q) ⊎ ((list_number p ≡ list_number q) × (index p < index q))

-- the cause is what is wrong at the place
abbrev pub IsWrong : Parts → Place → Cause → Type 0
IsWrong m p cause = cause_at m p ≡ Some cause

-- the fault is what is wrong first
abbrev pub IsFirstFault : Parts → ModuleFault → Type 0
IsFirstFault m fault = IsFirstWrong IsBefore (IsWrong m) fault.place (record { code = fault.code; detail = fault.detail })

-- what holds of the fault in an answer, if it has one
abbrev pub IfFault : CheckFault → (ModuleFault → Type 0) → Type 0
IfFault (check.Fault fault) P = P fault
IfFault check.NoMemory P = ⊤

abbrev pub OnFault : {T : Type 0} → Result T CheckFault → (ModuleFault → Type 0) → Type 0
OnFault result P = IfErr result (λ e. IfFault e P)
