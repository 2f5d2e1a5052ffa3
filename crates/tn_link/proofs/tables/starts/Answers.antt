use Rattle.std.proofs.Common.{◌≡◌, ◌-◌, ◌^◌, min, ◌++◌, [], ◌∷◌, length, take, ap, ◌∙◌, arith}
use Rattle.tn_module.specs.Modules.{Parts, module_of}
use Rattle.tn_module.specs.Names.{aligned}
use Rattle.tn_symbols.specs.Choices.{module_at}
use Rattle.tn_symbols.proofs.FirstFaults.{part-at}
use Rattle.tn_link.specs.declared.tables.Start.{Start}
use Rattle.tn_link.specs.Places.{cells_size, cells_end, start}
use Rattle.tn_link.proofs.Ends.{ends-le, ends-more, cells-within, items-more, aligned-exact, size-exact, start-is}
use Rattle.tn_link.proofs.Ranges.{mapped-grown}
use Rattle.tn_link.proofs.tables.starts.Goals as goal

cell-is : (c : goal.After-cells_size) → c.aligned-cell.result ≡ aligned (cells_end (take c.loop-module.module-index c.args.modules.now))
cell-is c =
    aligned-exact c.loop-module.end (cells_end (take c.loop-module.module-index c.args.modules.now)) c.aligned-cell.result
    c.loop-module.invariant.end (omega (arith, ends-le c.args.modules.now c.loop-module.module-index, c.requires.cells))
    c.aligned-cell.ensures

same : (c : goal.After-cells_size) → module_of c.raw-raw.result.now ≡ module_at c.args.modules.now c.loop-module.module-index
same c = part-at (λ (p : Parts). p) c.args.modules.now c.loop-module.module-index (module_of c.raw-raw.result.now) c.module-item.result
    c.loop-module-test.true c.module-item.is c.raw-raw.ensures.parts

size-is : (c : goal.After-cells_size) → c.cells_size.result ≡ cells_size (module_at c.args.modules.now c.loop-module.module-index).cells
size-is c =
    size-exact c.cells_size.result (module_at c.args.modules.now c.loop-module.module-index).cells
    (omega (arith, cells-within c.args.modules.now c.loop-module.module-index c.loop-module-test.true, c.requires.cells))
    (c.cells_size.ensures ∙ ap (λ l. min (cells_size l) (2 ^ 64 - 1)) (c.deref.ensures.value ∙ ap (λ (p : Parts). p.cells) (same c)))

pub overflow_cast-cell : goal.overflow_cast-cell
overflow_cast-cell c =
    let at = aligned-exact c.loop-module.end (cells_end (take c.loop-module.module-index c.args.modules.now)) c.aligned-cell.result
    c.loop-module.invariant.end (omega (arith, ends-le c.args.modules.now c.loop-module.module-index, c.requires.cells))
    c.aligned-cell.ensures in
    record { fits = omega (arith, at, cells-within c.args.modules.now c.loop-module.module-index c.loop-module-test.true) }

pub overflow_add-end : goal.overflow_add-end
overflow_add-end c = record {
  fits = omega (
    arith,
    cell-is c,
    size-is c,
    cells-within c.args.modules.now c.loop-module.module-index c.loop-module-test.true,
    c.requires.cells,
  );
}

pub loop-module-preserved : goal.loop-module-preserved
loop-module-preserved c = record {
  starts = mapped-grown (start c.args.modules.now) [] c.loop-module.module-index c.loop-module.starts.items c.push.new.self.items
      c.loop-module.invariant.starts
      (c.in_ok-push.ensures.items
      ∙ ap (λ (s : Start). c.loop-module.starts.items ++ s ∷ [])
      (start-is c.loop-module.item c.aligned-cell.result c.args.modules.now c.loop-module.module-index c.loop-module.invariant.item
      (cell-is c)));
  item = omega (
    arith,
    c.len.ensures,
    c.raw-raw.result.now.items.ok,
    ap (λ (p : Parts). length p.items) (same c),
    c.loop-module.invariant.item,
    items-more c.args.modules.now c.loop-module.module-index c.loop-module-test.true,
  );
  end = omega (arith, cell-is c, size-is c, ends-more c.args.modules.now c.loop-module.module-index c.loop-module-test.true);
}
