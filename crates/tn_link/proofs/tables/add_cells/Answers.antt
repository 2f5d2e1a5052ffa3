use Rattle.std.proofs.Common.{◌+◌, List, ℕ, Option, false, ap, sym, ◌∙◌, arith}
use Rattle.std.specs.Option.{option_map_or}
use Rattle.indexmap.specs.IndexMap.{get}
use Rattle.tn_module.specs.declared.modules.Kind.TheVariants as kind
use Rattle.tn_module.specs.Names.{same_name}
use Rattle.tn_link.specs.declared.tables.Target.{Target}
use Rattle.tn_link.specs.Places.{is_cell_label, cell_target}
use Rattle.tn_link.proofs.Ends.{offset-le, at-next}
use Rattle.tn_link.proofs.Labels.{noted, noted-not}
use Rattle.tn_link.proofs.tables.add_cells.Goals as goal
use Rattle.tn_link.proofs.tables.add_cells.Goals.{in-Some+in_ok-note, in_default}

pub overflow_cast-at : goal.overflow_cast-at
overflow_cast-at c = record { fits = omega (arith, c.loop-cell.invariant.at, offset-le c.args.cells.now c.loop-cell.cell-index) }

pub overflow_add-start : goal.overflow_add-start
overflow_add-start c = record { fits = omega (arith, c.loop-cell.invariant.at, offset-le c.args.cells.now c.loop-cell.cell-index) }

abbrev cell_at_distance : ℕ → Target
cell_at_distance place = record { kind = kind.Cell; place = place }

pub loop-cell-preserved : goal.loop-cell-preserved
loop-cell-preserved c = record {
  at = at-next c.args.cells.now c.loop-cell.cell-index c.cell-item.result c.loop-cell.at c.end_of-at.result c.loop-cell-test.true
      c.cell-item.is
      c.loop-cell.invariant.at (omega (arith, c.requires)) c.end_of-at.ensures;
  told = λ q. elim c.match-cell_label.branch [
    | in-Some+in_ok-note w ↦
        rw w.table-is
        (noted (is_cell_label q) (cell_target c.args.start c.args.cells.now) c.args.cells.now c.loop-cell.cell-index c.cell-item.result
        (get same_name c.args.table.now q) (get same_name c.loop-cell.table q) (get same_name w.note.new.table q)
        (same_name q w.in-Some.name)
        (cell_at_distance (c.args.start.cell + c.loop-cell.at)) c.loop-cell-test.true c.cell-item.is
        (ap (λ (o : Option (List ℕ)). option_map_or (same_name q) o false) (sym c.cell_label.ensures ∙ w.in-Some.is))
        (ap (λ n. cell_at_distance (c.args.start.cell + n)) c.loop-cell.invariant.at) (c.loop-cell.invariant.told q)
        (w.in_ok-note.ensures q))
    | in_default w ↦
        rw w.table-is
        (noted-not (is_cell_label q) (cell_target c.args.start c.args.cells.now) c.args.cells.now c.loop-cell.cell-index c.cell-item.result
        (get same_name c.args.table.now q) (get same_name c.loop-cell.table q) c.loop-cell-test.true c.cell-item.is
        (ap (λ (o : Option (List ℕ)). option_map_or (same_name q) o false) (sym c.cell_label.ensures ∙ w.in_default.is))
        (c.loop-cell.invariant.told q))
  ];
}
