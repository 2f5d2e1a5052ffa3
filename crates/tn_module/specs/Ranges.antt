-- The ranges of what stands in a module: names are names, bytes are bytes, words are words, and
-- operands are signed words.
use Rattle.std.specs.Prelude.{◌≡◌, ⊤, ℕ, ◌^◌, ◌<◌, true, List, All, FitsSigned}
use Rattle.std.specs.Int.{w32}
use Rattle.tn_text.specs.Names.{is_name}
use Rattle.tn_module.specs.declared.modules.Import.{Import}
use Rattle.tn_module.specs.declared.modules.Operand.{Operand}
use Rattle.tn_module.specs.declared.modules.Operand.TheVariants as operand
use Rattle.tn_module.specs.declared.modules.Item.{Item}
use Rattle.tn_module.specs.declared.modules.Item.TheVariants as item
use Rattle.tn_module.specs.declared.modules.Cell.{Cell}
use Rattle.tn_module.specs.declared.modules.Cell.TheVariants as cell
use Rattle.tn_module.specs.Modules.{Parts}

abbrev pub IsName : List ℕ → Type 0
IsName name = is_name name ≡ true

abbrev pub IsOperand : Operand → Type 0
IsOperand (operand.Number v) = FitsSigned w32 v
IsOperand (operand.To name) = IsName name
IsOperand (operand.Difference high low) = IsName high × IsName low
IsOperand (operand.CellWord name) = IsName name

abbrev pub IsItem : Item → Type 0
IsItem (item.Direct f o) = IsOperand o
IsItem (item.Plain op) = ⊤
IsItem (item.Byte b) = b < 2 ^ 8
IsItem (item.Label name) = IsName name

abbrev pub IsCell : Cell → Type 0
IsCell (cell.Word w) = w < 2 ^ 32
IsCell (cell.Address name) = IsName name
IsCell (cell.Byte b) = b < 2 ^ 8
IsCell (cell.Space n) = n < 2 ^ 32
IsCell cell.Align = ⊤
IsCell (cell.Label name) = IsName name

abbrev pub IsImport : Import → Type 0
IsImport import = IsName import.name

pub record IsInRange (m : Parts) : Type 0 where
  pub name : IsName m.name
  pub imports : All IsImport m.imports
  pub exports : All IsName m.exports
  pub items : All IsItem m.items
  pub cells : All IsCell m.cells
