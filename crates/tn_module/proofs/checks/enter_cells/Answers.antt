use Rattle.std.proofs.Common.{◌≡◌, ◌<◌, ◌≤◌, ◌∙◌, ◌++◌, length, get_or, subst, below_more}
use Rattle.tn_module.specs.declared.faults.Place.TheVariants as place
use Rattle.tn_module.specs.Modules.{module_of}
use Rattle.tn_module.specs.Names.{import_names, code_labels}
use Rattle.tn_module.specs.Inner.Sets.{known_by}
use Rattle.tn_module.proofs.Places.{at_cell, cells_grown, cells_sound, first_in, all-grown, all-seen}
use Rattle.tn_module.specs.Ranges.{IsCell}
use Rattle.tn_module.proofs.checks.enter_cells.Goals as goal

pub returns-in-Some-clause-fault : goal.returns-in-Some-clause-fault
returns-in-Some-clause-fault c =
    first_in place.Cell (module_of c.args.raw.now) c.loop-i.i c.in-Some.cause c.fault_at.result c.fault_at.ensures
    (at_cell (module_of c.args.raw.now) c.loop-i.seen.keys c.loop-i.i c.in_ok-cause.field-0
    (known_by c.args.names.now) c.requires.names c.cell-item.result
    (subst (λ l. c.loop-i.i < length l) c.deref-cell-items.ensures.value c.loop-i-test.true)
    (subst (λ l. c.cell-item.result
    ≡ get_or l c.loop-i.i c.cell-item.result) c.deref-cell-items.ensures.value c.cell-item.is) c.loop-i.invariant.seen
    c.in_ok-cause.ensures.cause ∙ c.in-Some.is)
    c.loop-i.invariant.sound

pub loop-i-preserved : goal.loop-i-preserved
loop-i-preserved c = record {
  seen =
      cells_grown (import_names c.args.raw.now.imports.items
      ++ code_labels c.args.raw.now.items.items) c.loop-i.seen.keys c.cell_cause.new.seen.keys c.args.raw.now.cells.items
      c.loop-i.i c.cell-item.result (subst
      (λ l. c.loop-i.i < length l) c.deref-cell-items.ensures.value c.loop-i-test.true) (subst
      (λ l. c.cell-item.result ≡ get_or l c.loop-i.i c.cell-item.result) c.deref-cell-items.ensures.value c.cell-item.is)
      c.loop-i.invariant.seen c.in_ok-cause.ensures.seen;
  sound =
      below_more _ _ c.loop-i.invariant.sound (at_cell (module_of c.args.raw.now) c.loop-i.seen.keys c.loop-i.i c.in_ok-cause.field-0
      (known_by c.args.names.now) c.requires.names c.cell-item.result
      (subst (λ l. c.loop-i.i < length l) c.deref-cell-items.ensures.value c.loop-i-test.true)
      (subst (λ l. c.cell-item.result
      ≡ get_or l c.loop-i.i c.cell-item.result) c.deref-cell-items.ensures.value c.cell-item.is) c.loop-i.invariant.seen
      c.in_ok-cause.ensures.cause ∙ c.in_default.is);
  ranges =
      all-grown IsCell c.args.raw.now.cells.items c.loop-i.i c.cell-item.result
      (subst (λ l. c.loop-i.i < length l) c.deref-cell-items.ensures.value c.loop-i-test.true)
      (subst (λ l. c.cell-item.result
      ≡ get_or l c.loop-i.i c.cell-item.result) c.deref-cell-items.ensures.value c.cell-item.is) c.loop-i.invariant.ranges
      c.cell_cause.ensures.range;
}

pub returns-clause-sound : goal.returns-clause-sound
returns-clause-sound c =
    cells_sound (module_of c.args.raw.now) c.loop-i.i
    (subst (λ l. length l ≤ c.loop-i.i) c.deref-cell-items.ensures.value c.loop-i-test.false) c.loop-i.invariant.sound

pub returns-clause-ranges : goal.returns-clause-ranges
returns-clause-ranges c =
    all-seen IsCell c.args.raw.now.cells.items c.loop-i.i
    (subst (λ l. length l ≤ c.loop-i.i) c.deref-cell-items.ensures.value c.loop-i-test.false) c.loop-i.invariant.ranges
