-- Linked code and linked cells: bytes at an address, and the places of what they are the bytes of.
use Rattle.std.specs.Prelude.{ℕ, List}
use Rattle.tn_link.specs.declared.linking.Linked.{Linked}
use Rattle.tn_link.specs.declared.linking.Placed.{Placed}

pub record Stretch : Type 0 where
  pub base : ℕ
  pub bytes : List ℕ
  pub places : List Placed

-- the code of linked modules, and their cells
abbrev pub code_of : Linked → Stretch
code_of l = record { base = l.code_base; bytes = l.code.items; places = l.placed.items }

abbrev pub cells_of : Linked → Stretch
cells_of l = record { base = l.cell_base; bytes = l.cells.items; places = l.cell_places.items }
