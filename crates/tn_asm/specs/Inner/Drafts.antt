-- What the code holds of a source that is read.
use Rattle.std.specs.Prelude.{◌≡◌, ◌<◌, List, [], ◌∷◌, length}
use Rattle.tn_module.specs.declared.faults.Place.{Place}
use Rattle.tn_module.specs.declared.faults.Place.TheVariants as place
use Rattle.tn_module.specs.Modules.{module_of}
use Rattle.tn_asm.specs.declared.drafts.PlaceLines.{PlaceLines}
use Rattle.tn_asm.specs.declared.drafts.Source.{Source}
use Rattle.tn_asm.specs.declared.drafts.Draft.{Draft}
use Rattle.tn_asm.specs.declared.statements.Statement.{Statement}
use Rattle.tn_asm.specs.declared.said.Said.{Said}
use Rattle.tn_asm.specs.declared.said.Said.TheVariants as said
use Rattle.tn_asm.specs.Numbered.{LineNumbers, NumberedParts}
use Rattle.tn_asm.specs.Assembling.{Gathered}

abbrev pub statements_in : Said → List Statement
statements_in said.Nothing = []
statements_in (said.One x) = x ∷ []
statements_in (said.Both l x) = l ∷ x ∷ []

abbrev pub lines_held : PlaceLines → LineNumbers
lines_held l =
    record { imports = l.imports.items; exports = l.exports.items; items = l.items.items; cells = l.cells.items }

abbrev pub source_of : Source → NumberedParts
source_of s = record { parts = module_of s.raw; lines = lines_held s.lines }

abbrev pub drawn : Draft → Gathered
drawn d =
    record {
      line = d.line;
      section = d.section;
      name = d.name;
      imports = d.imports.items;
      exports = d.exports.items;
      items = d.items.items;
      cells = d.cells.items;
      lines = lines_held d.lines;
    }

-- the place is one of those that have a line
abbrev pub IsPlaceOf : LineNumbers → Place → Type 0
IsPlaceOf l (place.Import i) = i < length l.imports
IsPlaceOf l (place.Export i) = i < length l.exports
IsPlaceOf l (place.Item i) = i < length l.items
IsPlaceOf l (place.Cell i) = i < length l.cells

-- each import, export, item and cell has its line
pub record HasLines (n : NumberedParts) : Type 0 where
  pub imports : length n.lines.imports ≡ length n.parts.imports
  pub exports : length n.lines.exports ≡ length n.parts.exports
  pub items : length n.lines.items ≡ length n.parts.items
  pub cells : length n.lines.cells ≡ length n.parts.cells
