-- The text of a library: its head, the texts of its modules, and its end; and what is wrong with a
-- text that is none.
use Rattle.std.specs.Prelude.{◌≡◌, ⊤, ℕ, ◌+◌, ◌⊎◌, List, ◌∷◌, ◌++◌, length, All, Result, Ok, Err, codes}
use Rattle.std.specs.List.{flat_map}
use Rattle.tn_text.specs.declared.faults.Fault.{Fault}
use Rattle.tn_text.specs.declared.faults.ReadFault.{ReadFault}
use Rattle.tn_text.specs.declared.faults.ReadFault.TheVariants as read
use Rattle.tn_module.specs.declared.faults.ModuleFault.{ModuleFault}
use Rattle.tn_module.specs.Modules.{Parts}
use Rattle.tn_module.specs.Validity.{IsValid}
use Rattle.tn_module.specs.Ranges.{IsInRange}
use Rattle.tn_module.specs.Faults.{IsFirstFault}
use Rattle.tn_modtext.specs.Lines.{lines_of, spelling, HasSpelling}
use Rattle.tn_modtext.specs.ModuleTexts.{fault_in}
use Rattle.tn_modtext.specs.LibraryFaults.{IsLibraryLineFault}

abbrev pub library_spelling : List Parts → List ℕ
library_spelling modules = codes "tlib 1\n" ++ flat_map spelling modules ++ codes "endlib\n"

-- the text is that of the library of these valid modules
pub record IsLibraryText (text : List ℕ) (modules : List Parts) : Type 0 where
  pub valid : All IsValid modules
  pub ranges : All IsInRange modules
  pub spelled : text ≡ library_spelling modules

-- the fault is the first of the first module that has one, where so many lines stand before them all
pub record IsFirstModuleFault (lines : ℕ) (modules : List Parts) (fault : Fault) : Type 0 where
  pub before : List Parts
  pub parts : Parts
  pub behind : List Parts
  pub found : ModuleFault
  pub split : modules ≡ before ++ parts ∷ behind
  pub valid : All IsValid before
  pub first : IsFirstFault parts found
  pub placed : fault ≡ fault_in (lines + length (flat_map lines_of before)) parts found

-- the lines of the text spell modules, and the fault is the first of the first that has one
pub record IsFaultOfLibrary (text : List ℕ) (fault : Fault) : Type 0 where
  pub modules : List Parts
  pub have_spelling : All HasSpelling modules
  pub spelled : text ≡ library_spelling modules
  pub first : IsFirstModuleFault 1 modules fault

-- the fault of a text that is none: that of a line comes before those of modules
abbrev pub IsLibraryTextFault : List ℕ → Fault → Type 0
IsLibraryTextFault text fault = IsLibraryLineFault text fault ⊎ IsFaultOfLibrary text fault

-- what a check of modules, before which so many lines stand, gives
abbrev pub AreChecked : ℕ → List Parts → Result (List Parts) ReadFault → Type 0
AreChecked lines modules (Ok checked) = (checked ≡ modules) × All IsValid modules × All IsInRange modules
AreChecked lines modules (Err (read.Fault fault)) = IsFirstModuleFault lines modules fault
AreChecked lines modules (Err read.NoMemory) = ⊤
