use Rattle.std.proofs.Common.{◌≡◌, ◌+◌, ℕ, List, Some, take, ap, sym, ◌∙◌, subst, arith, position}
use Rattle.std.specs.Option.{option_map}
use Rattle.tn_module.specs.declared.modules.Cell.{Cell}
use Rattle.tn_module.specs.Modules.{Parts, module_of}
use Rattle.tn_module.specs.Validity.{IsValid}
use Rattle.tn_symbols.specs.Choices.{module_at}
use Rattle.tn_symbols.proofs.FirstFaults.{part-at}
use Rattle.tn_link.specs.Places.{cells_size, cell_offset, cells_end, start, is_cell_label, cell_target}
use Rattle.tn_link.proofs.Ends.{ends-le, cells-within, offset-le, aligned-exact, size-exact}
use Rattle.tn_link.proofs.addresses.cell_address.Goals as goal

same : (c : goal.After-cells_size-offset) → module_of c.raw-raw.result.now ≡ module_at c.args.modules.now c.args.m
same c = part-at (λ (p : Parts). p) c.args.modules.now c.args.m (module_of c.raw-raw.result.now) c.index-modules-m.result c.requires.here
    c.index-modules-m.is c.raw-raw.ensures.parts

begins : (c : goal.After-cells_size-offset) → c.aligned-start.result ≡ (start c.args.modules.now c.args.m).cell
begins c = aligned-exact c.cell_count.result (cells_end (take c.args.m c.args.modules.now)) c.aligned-start.result
    (omega (arith, c.cell_count.ensures, ends-le c.args.modules.now c.args.m, c.requires.cells))
    (omega (arith, ends-le c.args.modules.now c.args.m, c.requires.cells)) c.aligned-start.ensures

behind : (c : goal.After-cells_size-offset) → c.cells_size-offset.result ≡ cell_offset (module_at c.args.modules.now c.args.m).cells
    c.in_ok-cell.cell
behind c =
    let listed = c.deref-2.ensures.value ∙ ap (λ (p : Parts). p.cells) (same c) in
    let is : cells_size (take c.in_ok-cell.cell c.deref-2.result.now) ≡ cell_offset (module_at c.args.modules.now c.args.m).cells
    c.in_ok-cell.cell =
    ap (λ (l : List Cell). cell_offset l c.in_ok-cell.cell) listed in
    size-exact c.cells_size-offset.result (take c.in_ok-cell.cell c.deref-2.result.now)
    (omega (
      arith,
      is,
      offset-le (module_at c.args.modules.now c.args.m).cells c.in_ok-cell.cell,
      cells-within c.args.modules.now c.args.m c.requires.here,
      c.requires.cells,
    )) c.cells_size-offset.ensures ∙ is

pub overflow_add-result : goal.overflow_add-result
overflow_add-result c = record {
  fits = omega (
    arith,
    begins c,
    behind c,
    offset-le (module_at c.args.modules.now c.args.m).cells c.in_ok-cell.cell,
    cells-within c.args.modules.now c.args.m c.requires.here,
    c.requires.cells,
  );
}

pub overflow_cast-result : goal.overflow_cast-result
overflow_cast-result c = record {
  fits = omega (
    arith,
    begins c,
    behind c,
    offset-le (module_at c.args.modules.now c.args.m).cells c.in_ok-cell.cell,
    cells-within c.args.modules.now c.args.m c.requires.here,
    c.requires.cells,
  );
}

pub overflow_add-result-2 : goal.overflow_add-result-2
overflow_add-result-2 c = record {
  fits = omega (
    arith,
    begins c,
    behind c,
    offset-le (module_at c.args.modules.now c.args.m).cells c.in_ok-cell.cell,
    cells-within c.args.modules.now c.args.m c.requires.here,
    c.requires.cells,
    c.requires.base.below,
  );
}

pub returns-clause-valid : goal.returns-clause-valid
returns-clause-valid c = subst IsValid (sym c.raw-raw.ensures.parts ∙ same c) c.raw-raw.ensures.valid

pub returns-clause-address : goal.returns-clause-address
returns-clause-address c =
    let found : position (is_cell_label c.args.name.now) (module_at c.args.modules.now c.args.m).cells ≡ Some c.in_ok-cell.cell =
    ap (position (is_cell_label c.args.name.now)) (sym (c.deref.ensures.value ∙ ap (λ (p : Parts). p.cells) (same c)))
    ∙ sym c.cell_of.ensures ∙ c.in_ok-cell.was in
    let sums : c.args.cell_base + (c.aligned-start.result + c.cells_size-offset.result)
    ≡ c.args.cell_base + ((start c.args.modules.now c.args.m).cell + cell_offset (module_at c.args.modules.now c.args.m).cells
    c.in_ok-cell.cell)
    = omega (arith, begins c, behind c) in
    ap Some sums
    ∙ sym (ap (option_map (λ (i : ℕ). c.args.cell_base
    + (cell_target (start c.args.modules.now c.args.m) (module_at c.args.modules.now c.args.m).cells i).place)) found)
