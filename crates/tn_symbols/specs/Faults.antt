-- What is wrong with the names of chosen modules, and what of it comes first.
use Rattle.std.specs.Prelude.{◌≡◌, ⊤, ℕ, ◌<◌, ◌⊎◌, List, take, slice_get, Option, Some, None, option_and_then, if◌then◌else◌}
use Rattle.tn_text.specs.Firsts.{IsFirstWrong, NothingIsWrong}
use Rattle.tn_module.specs.declared.modules.Kind.{Kind}
use Rattle.tn_module.specs.Modules.{Parts}
use Rattle.tn_module.specs.Names.{is_among}
use Rattle.tn_symbols.specs.declared.choices.Definition.{Definition}
use Rattle.tn_symbols.specs.declared.choices.ChooseFault.{ChooseFault}
use Rattle.tn_symbols.specs.declared.choices.ChooseFault.TheVariants.{Undefined, Duplicate, WrongKind, NoMemory}
use Rattle.tn_symbols.specs.declared.choices.Source.{Source}
use Rattle.tn_symbols.specs.Choices.{exported, module_at}
use Rattle.tn_symbols.specs.Sources.{Offer, modules_of, IsChoice}
use Rattle.tn_symbols.specs.Definitions.{definition_of, same_kind}

-- a place in a list of modules: that of an export or of an import, by module and index
pub data Site : Type 0 where
  ExportAt : ℕ → ℕ → Site
  ImportAt : ℕ → ℕ → Site

-- an export whose name an earlier module exports
abbrev pub export_fault : ℕ → ℕ → List (List ℕ) → List ℕ → Option ChooseFault
export_fault m i before name = if is_among before name then Some (Duplicate m i) else None

-- an import whose name has this definition
abbrev pub import_fault : ℕ → ℕ → Kind → Option Definition → Option ChooseFault
import_fault m i kind None = Some (Undefined m i)
import_fault m i kind (Some definition) = if same_kind definition.kind kind then None else Some (WrongKind m i)

-- what is wrong at a place
abbrev pub fault_at : List Parts → Site → Option ChooseFault
fault_at modules (ExportAt m i) = option_and_then (λ name. export_fault m i (exported (take m modules)) name)
    (slice_get (module_at modules m).exports i)
fault_at modules (ImportAt m i) =
    option_and_then (λ import. import_fault m i import.kind (definition_of modules import.name)) (slice_get (module_at modules m).imports i)

-- the order of places: all exports come before all imports, each by module and then by index
abbrev pub list_number : Site → ℕ
list_number (ExportAt m i) = 0
list_number (ImportAt m i) = 1

abbrev pub module_number : Site → ℕ
module_number (ExportAt m i) = m
module_number (ImportAt m i) = m

abbrev pub index : Site → ℕ
index (ExportAt m i) = i
index (ImportAt m i) = i

abbrev pub IsBefore : Site → Site → Type 0
IsBefore p q =
    (list_number p < list_number q)
    ⊎ ((list_number p ≡ list_number q) × ((module_number p < module_number q)
    ⊎ ((module_number p ≡ module_number q) × (index p < index q))))

abbrev pub IsWrong : List Parts → Site → ChooseFault → Type 0
IsWrong modules p fault = fault_at modules p ≡ Some fault

-- nothing is wrong
abbrev pub AreSound : List Parts → Type 0
AreSound modules = NothingIsWrong (IsWrong modules)

-- the fault is what is wrong first
pub record IsFirstFault (modules : List Parts) (fault : ChooseFault) : Type 0 where
  pub site : Site
  pub first : IsFirstWrong IsBefore (IsWrong modules) site fault

-- the fault is what is wrong first with the chosen modules
pub record IsFaultOf (o : Offer) (fault : ChooseFault) : Type 0 where
  pub sources : List Source
  pub choice : IsChoice o sources
  pub first : IsFirstFault (modules_of o sources) fault

-- what holds of a fault of names
abbrev pub IfFault : ChooseFault → (ChooseFault → Type 0) → Type 0
IfFault (Undefined m i) P = P (Undefined m i)
IfFault (Duplicate m i) P = P (Duplicate m i)
IfFault (WrongKind m i) P = P (WrongKind m i)
IfFault NoMemory P = ⊤
