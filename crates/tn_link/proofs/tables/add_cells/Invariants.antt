use Rattle.std.proofs.Common.{◌≡◌, ℕ, List, take, position}
use Rattle.std.specs.Option.{option_or, option_map}
use Rattle.indexmap.specs.IndexMap.{get}
use Rattle.tn_module.specs.Names.{same_name}
use Rattle.tn_link.specs.Places.{cell_offset, is_cell_label, cell_target}
use Rattle.tn_link.proofs.tables.add_cells.Given as goal

abbrev pub invariant-loop-cell : goal.invariant-loop-cell
invariant-loop-cell l = record {
  at : l.at ≡ cell_offset l.cells l.cell-index;
  told : (name : List ℕ) → get same_name l.table name
      ≡ option_or (get same_name l.initial.table name)
      (option_map (cell_target l.start l.cells) (position (is_cell_label name) (take l.cell-index l.cells)));
}
