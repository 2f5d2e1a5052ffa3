-- What contracts see of programs: their modules, and what these were linked to.
use Rattle.std.specs.Prelude.{◌≡◌, ℕ, List}
use Rattle.tn_module.specs.Modules.{Parts}
use Rattle.tn_link.specs.declared.linking.Placed.{Placed}
use Rattle.tn_link.specs.declared.linking.Linked.{Linked}
use Rattle.tn_link.specs.Linking.{IsLinked}
use Rattle.tn_sym.specs.declared.programs.Program.{Program}

-- linked modules: the bases, the bytes, and the places of items and of cells
pub record LinkedState : Type 0 where
  pub code_base : ℕ
  pub code : List ℕ
  pub cell_base : ℕ
  pub cells : List ℕ
  pub placed : List Placed
  pub cell_places : List Placed

abbrev pub linked_of : Linked → LinkedState
linked_of l =
    record {
      code_base = l.code_base;
      code = l.code.items;
      cell_base = l.cell_base;
      cells = l.cells.items;
      placed = l.placed.items;
      cell_places = l.cell_places.items;
    }

-- the modules that were chosen, and what they were linked to
pub record ProgramState : Type 0 where
  pub modules : List Parts
  pub linked : LinkedState

abbrev pub program_of : Program → ProgramState
program_of g = record { modules = g.chosen.modules.items; linked = linked_of g.linked }

-- this is seen of what the modules are linked to, at these bases and with the least sizes
pub record IsLinkedTo (modules : List Parts) (code_base cell_base : ℕ) (l : LinkedState) : Type 0 where
  pub linked : Linked
  pub is_linked : IsLinked modules code_base cell_base linked
  pub seen : linked_of linked ≡ l
