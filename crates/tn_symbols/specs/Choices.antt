-- Which modules a program is made of: the named ones, and then those of libraries that others need.
use Rattle.std.specs.Prelude.{◌≡◌, ℕ, ◌<◌, Bool, true, false, not, ◌&&◌, nat_eq, List, [], ◌++◌, map, length, take, slice_index}
use Rattle.std.specs.Prelude.{slice_index_or}
use Rattle.std.specs.List.{list_any, flat_map}
use Rattle.tn_module.specs.Modules.{Parts}
use Rattle.tn_module.specs.Names.{is_among, import_names}

-- the names that modules import, and that they export
abbrev pub imported : List Parts → List (List ℕ)
imported modules = flat_map (λ m. import_names m.imports) modules

abbrev pub exported : List Parts → List (List ℕ)
exported modules = flat_map (λ m. m.exports) modules

-- whether one of the modules imports the name and none exports it
abbrev pub is_lacking : List Parts → List ℕ → Bool
is_lacking modules name = is_among (imported modules) name && not (is_among (exported modules) name)

-- whether the module exports a name that these lack
abbrev pub is_wanted : List Parts → Parts → Bool
is_wanted modules m = list_any (is_lacking modules) m.exports

-- the module at a place
abbrev pub module_at : List Parts → ℕ → Parts
module_at modules k = slice_index_or modules k (record { name = []; imports = []; exports = []; items = []; cells = [] })

-- the named modules and those at the places of the libraries' modules that were picked
abbrev pub with_picks : List Parts → List Parts → List ℕ → List Parts
with_picks named stock picks = named ++ map (module_at stock) picks

-- the module at the place was not picked, and exports a name that the ones so far lack
pub record IsCandidate (named stock : List Parts) (picks : List ℕ) (k : ℕ) : Type 0 where
  pub here : k < length stock
  pub new : list_any (nat_eq k) picks ≡ false
  pub wanted : is_wanted (with_picks named stock picks) (module_at stock k) ≡ true

-- the first of these
pub record IsNext (named stock : List Parts) (picks : List ℕ) (k : ℕ) : Type 0 where
  pub candidate : IsCandidate named stock picks k
  pub first : (j : ℕ) → j < k → IsCandidate named stock picks j → ⊥

-- each pick is the next after those before it, and none is left
pub record IsChosen (named stock : List Parts) (picks : List ℕ) : Type 0 where
  pub each : (i : ℕ) → i < length picks → IsNext named stock (take i picks) (slice_index picks i)
  pub last : (k : ℕ) → IsCandidate named stock picks k → ⊥

-- exactly one list is chosen
pub record OneIsChosen (named stock : List Parts) : Type 0 where
  pub picks : List ℕ
  pub chosen : IsChosen named stock picks
  pub only : (others : List ℕ) → IsChosen named stock others → others ≡ picks
