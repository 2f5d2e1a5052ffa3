-- What names stand for in a list of modules.
use Rattle.std.specs.Prelude.{◌≡◌, ℕ, ◌<◌, Bool, true, false, List, length, slice_get, position, Option, Some, if◌then◌else◌}
use Rattle.std.specs.Option.{option_map}
use Rattle.tn_module.specs.declared.modules.Kind.{Kind}
use Rattle.tn_module.specs.declared.modules.Kind.TheVariants as kind
use Rattle.tn_module.specs.declared.modules.Import.{Import}
use Rattle.tn_module.specs.Modules.{Parts}
use Rattle.tn_module.specs.Names.{is_among, code_labels}
use Rattle.tn_symbols.specs.declared.choices.Definition.{Definition}
use Rattle.tn_symbols.specs.Choices.{module_at}

-- the place of the first module that exports the name
abbrev pub first_exporter : List Parts → List ℕ → Option ℕ
first_exporter modules name = position (λ m. is_among m.exports name) modules

-- what a label of the module stands for
abbrev pub kind_of : Parts → List ℕ → Kind
kind_of m name = if is_among (code_labels m.items) name then kind.Code else kind.Cell

abbrev pub definition_in : List Parts → List ℕ → ℕ → Definition
definition_in modules name k = record { «module» = k; kind = kind_of (module_at modules k) name }

-- the first definition of a name: the first module that exports it, and what it stands for there
abbrev pub definition_of : List Parts → List ℕ → Option Definition
definition_of modules name = option_map (definition_in modules name) (first_exporter modules name)

abbrev pub same_kind : Kind → Kind → Bool
same_kind kind.Code kind.Code = true
same_kind kind.Code kind.Cell = false
same_kind kind.Cell kind.Code = false
same_kind kind.Cell kind.Cell = true

-- the import's name has a definition of the import's kind
pub record IsDefined (modules : List Parts) (import : Import) : Type 0 where
  pub definition : Definition
  pub found : definition_of modules import.name ≡ Some definition
  pub kind : same_kind definition.kind import.kind ≡ true

-- each import of the modules has one
abbrev pub AreDefined : List Parts → Type 0
AreDefined modules = (m i : ℕ) (import : Import) → m < length modules → slice_get (module_at modules m).imports i ≡ Some import
    → IsDefined modules import
