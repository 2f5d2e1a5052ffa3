use Rattle.std.proofs.Common.{◌≡◌, ◌+◌, ◌++◌, List, length, ap, ◌∙◌, arith}
use Rattle.tn_module.specs.declared.modules.Cell.{Cell}
use Rattle.tn_module.specs.Modules.{Parts, module_of}
use Rattle.tn_symbols.specs.Choices.{module_at}
use Rattle.tn_symbols.proofs.FirstFaults.{part-at}
use Rattle.tn_link.specs.declared.tables.Start.{Start}
use Rattle.tn_link.specs.Places.{cells_size, start}
use Rattle.tn_link.specs.Linking.{placed_cells, module_cells}
use Rattle.tn_link.proofs.Ends.{starts-long, start-at, start_from, cells-within}
use Rattle.tn_link.proofs.Ranges.{joined-grown}
use Rattle.tn_link.proofs.placing.cell_places.Goals as goal

pub bounds-plan-m : goal.bounds-plan-m
bounds-plan-m c = starts-long c.args.plan.now.modules.now c.args.plan.now.starts.now c.requires.plan.starts c.loop-m.m c.loop-m-test.true

pub overflow_add-from : goal.overflow_add-from
overflow_add-from c = record {
  fits = omega (
    arith,
    ap (λ (s : Start). s.cell)
        (start-at c.args.plan.now.modules.now c.args.plan.now.starts.now c.requires.plan.starts c.loop-m.m c.loop-m-test.true
        (start_from 0 0)),
    cells-within c.args.plan.now.modules.now c.loop-m.m c.loop-m-test.true,
    c.requires.plan.cells,
    c.requires.base.below,
  );
}

pub add_cells-requires-clause-size : goal.add_cells-requires-clause-size
add_cells-requires-clause-size c =
    let same = part-at (λ (p : Parts). p) c.args.plan.now.modules.now c.loop-m.m (module_of c.raw-raw.result.now) c.module-item.result
    c.loop-m-test.true c.module-item.is c.raw-raw.ensures.parts in
    omega (
      arith,
      ap (λ (l : List Cell). cells_size l) (c.deref.ensures.value ∙ ap (λ (p : Parts). p.cells) same),
      cells-within c.args.plan.now.modules.now c.loop-m.m c.loop-m-test.true,
      c.requires.plan.cells,
    )

pub add_cells-requires-clause-from : goal.add_cells-requires-clause-from
add_cells-requires-clause-from c = omega (
  arith,
  ap (λ (s : Start). s.cell)
      (start-at c.args.plan.now.modules.now c.args.plan.now.starts.now c.requires.plan.starts c.loop-m.m c.loop-m-test.true
      (start_from 0 0)),
  cells-within c.args.plan.now.modules.now c.loop-m.m c.loop-m-test.true,
  c.requires.plan.cells,
  c.requires.base.below,
)

pub loop-m-preserved : goal.loop-m-preserved
loop-m-preserved c =
    let same : module_of c.raw-raw.result.now ≡ module_at c.args.plan.now.modules.now c.loop-m.m = part-at (λ (p : Parts). p)
    c.args.plan.now.modules.now c.loop-m.m (module_of c.raw-raw.result.now) c.module-item.result c.loop-m-test.true c.module-item.is
    c.raw-raw.ensures.parts in
    joined-grown (module_cells c.args.plan.now.modules.now c.args.cell_base) c.loop-m.m c.loop-m.places.items c.add_cells.new.places.items
    c.loop-m.invariant
    (c.in_ok-add_cells.ensures
    ∙ ap (λ n. c.loop-m.places.items ++ placed_cells c.loop-m.m c.deref.result.now (c.args.cell_base + n) (length c.deref.result.now))
    (ap (λ (s : Start). s.cell)
    (start-at c.args.plan.now.modules.now c.args.plan.now.starts.now c.requires.plan.starts c.loop-m.m c.loop-m-test.true (start_from 0 0)))
    ∙ ap (λ (l : List Cell). c.loop-m.places.items ++ placed_cells c.loop-m.m l
    (c.args.cell_base + (start c.args.plan.now.modules.now c.loop-m.m).cell) (length l))
    (c.deref.ensures.value ∙ ap (λ (p : Parts). p.cells) same))
