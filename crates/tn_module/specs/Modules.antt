-- Modules as contracts see them.
use Rattle.std.specs.Prelude.{ℕ, ◌^◌, ◌<◌, List, length}
use Rattle.tn_module.specs.declared.modules.Import.{Import}
use Rattle.tn_module.specs.declared.modules.Item.{Item}
use Rattle.tn_module.specs.declared.modules.Cell.{Cell}
use Rattle.tn_module.specs.declared.modules.RawModule.{RawModule}

-- the parts of a module, with a name as the list of its bytes
pub record Parts : Type 0 where
  pub name : List ℕ
  pub imports : List Import
  pub exports : List (List ℕ)
  pub items : List Item
  pub cells : List Cell

-- the parts of a module as the code holds it
abbrev pub module_of : RawModule → Parts
module_of raw =
    record { name = raw.name; imports = raw.imports.items; exports = raw.exports.items; items = raw.items.items; cells = raw.cells.items }

-- each list is short enough for its indices to be words
pub record IsShort (m : Parts) : Type 0 where
  pub imports : length m.imports < 2 ^ 30
  pub exports : length m.exports < 2 ^ 30
  pub items : length m.items < 2 ^ 30
  pub cells : length m.cells < 2 ^ 30
