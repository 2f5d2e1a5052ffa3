use Rattle.std.proofs.Common.{◌+◌, ◌-◌, ◌++◌, [], ◌∷◌, ap, ◌∙◌, arith}
use Rattle.tn_link.specs.declared.linking.Placed.{Placed}
use Rattle.tn_link.specs.Places.{cell_offset}
use Rattle.tn_link.specs.Linking.{placed_cell}
use Rattle.tn_link.proofs.Ends.{end-after, offset-le, offset-next, at-next, placed-is}
use Rattle.tn_link.proofs.Ranges.{mapped-grown}
use Rattle.tn_link.proofs.placing.add_cells.Goals as goal

pub overflow_cast-at : goal.overflow_cast-at
overflow_cast-at c = record {
  fits = omega (arith, c.loop-item.invariant.at, offset-le c.args.cells.now c.loop-item.item, c.requires.size);
}

pub overflow_add-from : goal.overflow_add-from
overflow_add-from c = record {
  fits = omega (arith, c.loop-item.invariant.at, offset-le c.args.cells.now c.loop-item.item, c.requires.size, c.requires.from);
}

pub overflow_sub-end : goal.overflow_sub-end
overflow_sub-end c =
    let next = at-next c.args.cells.now c.loop-item.item c.index-cells-item.result c.loop-item.at c.end_of-end.result c.loop-item-test.true
    c.index-cells-item.is c.loop-item.invariant.at c.requires.size c.end_of-end.ensures in
    omega (
      arith,
      next,
      c.loop-item.invariant.at,
      offset-next c.args.cells.now c.loop-item.item c.index-cells-item.result c.loop-item-test.true c.index-cells-item.is,
      end-after (cell_offset c.args.cells.now c.loop-item.item) c.index-cells-item.result,
    )

pub overflow_cast-end : goal.overflow_cast-end
overflow_cast-end c =
    let next = at-next c.args.cells.now c.loop-item.item c.index-cells-item.result c.loop-item.at c.end_of-end.result c.loop-item-test.true
    c.index-cells-item.is c.loop-item.invariant.at c.requires.size c.end_of-end.ensures in
    record { fits = omega (arith, next, offset-le c.args.cells.now (c.loop-item.item + 1), c.requires.size) }

pub loop-item-preserved : goal.loop-item-preserved
loop-item-preserved c =
    let next = at-next c.args.cells.now c.loop-item.item c.index-cells-item.result c.loop-item.at c.end_of-end.result c.loop-item-test.true
    c.index-cells-item.is c.loop-item.invariant.at c.requires.size c.end_of-end.ensures in
    record {
      at = next;
      places = mapped-grown (placed_cell c.args.«module» c.args.cells.now c.args.from) c.args.places.now.items c.loop-item.item
          c.loop-item.places.items c.push.new.self.items c.loop-item.invariant.places
          (c.in_ok-push.ensures.items
          ∙ ap (λ (p : Placed). c.loop-item.places.items ++ p ∷ [])
          (placed-is c.args.«module» c.loop-item.item (c.args.from + c.loop-item.at) (c.args.from + cell_offset c.args.cells.now
          c.loop-item.item)
          (c.end_of-end.result - c.loop-item.at)
          (cell_offset c.args.cells.now (c.loop-item.item + 1) - cell_offset c.args.cells.now c.loop-item.item)
          (ap (λ n. c.args.from + n) c.loop-item.invariant.at) (omega (arith, next, c.loop-item.invariant.at))));
    }
