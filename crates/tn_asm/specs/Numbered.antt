-- The parts of a module with the lines at which they stand.
use Rattle.std.specs.Prelude.{ℕ, List, slice_index}
use Rattle.tn_text.specs.declared.faults.Fault.{Fault}
use Rattle.tn_module.specs.declared.faults.Place.{Place}
use Rattle.tn_module.specs.declared.faults.Place.TheVariants as place
use Rattle.tn_module.specs.declared.faults.ModuleFault.{ModuleFault}
use Rattle.tn_module.specs.Modules.{Parts}

-- the numbers of the lines of imports, exports, items and cells
pub record LineNumbers : Type 0 where
  pub imports : List ℕ
  pub exports : List ℕ
  pub items : List ℕ
  pub cells : List ℕ

pub record NumberedParts : Type 0 where
  pub parts : Parts
  pub lines : LineNumbers

-- the line of a place
abbrev pub line_in : LineNumbers → Place → ℕ
line_in l (place.Import i) = slice_index l.imports i
line_in l (place.Export i) = slice_index l.exports i
line_in l (place.Item i) = slice_index l.items i
line_in l (place.Cell i) = slice_index l.cells i

-- a fault of the module at the line of its place
abbrev pub fault_in : LineNumbers → ModuleFault → Fault
fault_in l f = record { code = f.code; line = line_in l f.place; detail = f.detail }
