-- The text of a module, and what is wrong with a text that is none.
use Rattle.std.specs.Prelude.{◌≡◌, ⊤, ℕ, ◌+◌, ◌⊎◌, List, length, Result, Ok, Err}
use Rattle.tn_text.specs.declared.faults.Fault.{Fault}
use Rattle.tn_text.specs.declared.faults.ReadFault.{ReadFault}
use Rattle.tn_text.specs.declared.faults.ReadFault.TheVariants as read
use Rattle.tn_module.specs.declared.faults.Place.{Place}
use Rattle.tn_module.specs.declared.faults.Place.TheVariants as place
use Rattle.tn_module.specs.declared.faults.ModuleFault.{ModuleFault}
use Rattle.tn_module.specs.Modules.{Parts}
use Rattle.tn_module.specs.Validity.{IsValid}
use Rattle.tn_module.specs.Ranges.{IsInRange}
use Rattle.tn_module.specs.Faults.{IsFirstFault}
use Rattle.tn_modtext.specs.Lines.{spelling, HasSpelling}
use Rattle.tn_modtext.specs.LineFaults.{IsLineFault}

-- the line of a place in a module with so many imports, exports and items, counted from the module's
-- first line as 1
abbrev pub line_with : ℕ → ℕ → ℕ → Place → ℕ
line_with imports exports items (place.Import i) = 3 + i
line_with imports exports items (place.Export i) = 3 + imports + i
line_with imports exports items (place.Item i) = 4 + imports + exports + i
line_with imports exports items (place.Cell i) = 5 + imports + exports + items + i

abbrev pub line_in : Parts → Place → ℕ
line_in m p = line_with (length m.imports) (length m.exports) (length m.items) p

-- a fault of a module at its line, where so many lines stand before the module
abbrev pub fault_in : ℕ → Parts → ModuleFault → Fault
fault_in before m fault = record { code = fault.code; line = before + line_in m fault.place; detail = fault.detail }

-- the text is that of the valid module
pub record IsModuleText (text : List ℕ) (m : Parts) : Type 0 where
  pub valid : IsValid m
  pub ranges : IsInRange m
  pub spelled : text ≡ spelling m

-- the lines of the text spell a module, and the fault is the module's first
pub record IsFaultOfModule (text : List ℕ) (fault : Fault) : Type 0 where
  pub parts : Parts
  pub found : ModuleFault
  pub has_spelling : HasSpelling parts
  pub spelled : text ≡ spelling parts
  pub first : IsFirstFault parts found
  pub placed : fault ≡ fault_in 0 parts found

-- the fault of a text that is none: that of a line comes before that of the module
abbrev pub IsModuleTextFault : List ℕ → Fault → Type 0
IsModuleTextFault text fault = IsLineFault text fault ⊎ IsFaultOfModule text fault

-- what a check of parts, before which so many lines stand, gives
abbrev pub IsChecked : ℕ → Parts → Result Parts ReadFault → Type 0
IsChecked before m (Ok n) = (n ≡ m) × IsValid m × IsInRange m
IsChecked before m (Err (read.Fault fault)) = (f : ModuleFault) × IsFirstFault m f × (fault ≡ fault_in before m f) × (IsValid m → ⊥)
IsChecked before m (Err read.NoMemory) = ⊤
