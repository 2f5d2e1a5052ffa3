-- Sets of names in the code.
use Rattle.std.specs.Prelude.{◌≡◌, ℕ, ◌<◌, List, None, Some}
use Rattle.tn_module.specs.declared.faults.Place.{Place}
use Rattle.tn_module.specs.declared.faults.ModuleFault.{ModuleFault}
use Rattle.tn_module.specs.declared.name_sets.NameSets.{NameSets}
use Rattle.tn_module.specs.Modules.{Parts}
use Rattle.tn_module.specs.Names.{is_among}
use Rattle.tn_module.specs.Faults.{Known, cause_at}

-- the same names are among those as among these
pub record HaveSameNames (those these : List (List ℕ)) : Type 0 where
  pub same : (name : List ℕ) → is_among those name ≡ is_among these name

-- what a module's sets say of a name
abbrev pub known_by : NameSets → Known
known_by sets =
    record {
      defined = is_among sets.defined.keys;
      code = is_among sets.code.keys;
      cell = is_among sets.cells.keys;
      label = is_among sets.labels.keys;
      misaligned = is_among sets.misaligned.keys;
    }

-- nothing is wrong anywhere
abbrev pub IsSound : Parts → Type 0
IsSound m = (p : Place) → cause_at m p ≡ None

-- nothing is wrong at the places of one list
abbrev pub AreSound : (ℕ → Place) → Parts → Type 0
AreSound at m = (i : ℕ) → cause_at m (at i) ≡ None

-- the fault is what is wrong at its place in one list, and nothing is wrong before in that list
pub record IsFirstIn (at : ℕ → Place) (m : Parts) (fault : ModuleFault) : Type 0 where
  pub index : ℕ
  pub placed : fault.place ≡ at index
  pub here : cause_at m (at index) ≡ Some (record { code = fault.code; detail = fault.detail })
  pub before : (i : ℕ) → i < index → cause_at m (at i) ≡ None
