-- Tables of names in the code, and what they tell.
use Rattle.std.specs.Prelude.{◌≡◌, ℕ, ◌≤◌, true, List, take, is_some, Option, option_and_then, All}
use Rattle.std.specs.Option.{option_or}
use Rattle.indexmap.specs.IndexMap.{get}
use Rattle.tn_text.specs.declared.limits.TheConstants.{CELL_LIMIT}
use Rattle.tn_module.specs.Modules.{Parts}
use Rattle.tn_module.specs.Names.{same_name, is_code}
use Rattle.tn_symbols.specs.Definitions.{first_exporter}
use Rattle.tn_link.specs.declared.tables.Target.{Target}
use Rattle.tn_link.specs.declared.tables.Scope.{Scope}
use Rattle.tn_link.specs.Places.{label}

-- what a name stands for by the tables of a module
abbrev pub found : Scope → List ℕ → Option Target
found scope name = option_or (get same_name scope.labels.now name) (get same_name scope.exports.now name)

-- the names are found
abbrev pub AreFound : (List ℕ → Option Target) → List (List ℕ) → Type 0
AreFound found names = All (λ name. is_some (found name) ≡ true) names

-- each place is one of memory, and those of code are among so many
pub record AreNear (n : ℕ) (target_of : List ℕ → Target) : Type 0 where
  pub near : (name : List ℕ) → (target_of name).place ≤ CELL_LIMIT
  pub code : (name : List ℕ) → is_code (target_of name).kind ≡ true → (target_of name).place ≤ n

-- what the first modules export
abbrev pub label_among : List Parts → ℕ → List ℕ → Option Target
label_among modules n name = option_and_then (λ k. label modules k name) (first_exporter (take n modules) name)
