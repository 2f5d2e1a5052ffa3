use Rattle.std.proofs.Common.{◌≡◌, ◌<◌, ◌≤◌, ◌∙◌, length, get_or, subst, below_more}
use Rattle.tn_module.specs.declared.faults.Place.TheVariants as place
use Rattle.tn_module.specs.Modules.{module_of}
use Rattle.tn_module.proofs.Places.{at_import, imports_grown, imports_sound, first_in, all-grown, all-seen}
use Rattle.tn_module.specs.Ranges.{IsImport}
use Rattle.tn_module.proofs.checks.enter_imports.Goals as goal

pub returns-in-Some-clause-fault : goal.returns-in-Some-clause-fault
returns-in-Some-clause-fault c =
    first_in place.Import (module_of c.args.raw.now) c.loop-i.i c.in-Some.cause c.fault_at.result c.fault_at.ensures
    (at_import (module_of c.args.raw.now) c.loop-i.seen.keys c.loop-i.i c.in_ok-cause.field-0 c.import-item.result
    (subst (λ l. c.loop-i.i < length l) c.deref-import-items.ensures.value c.loop-i-test.true)
    (subst (λ l. c.import-item.result
    ≡ get_or l c.loop-i.i c.import-item.result) c.deref-import-items.ensures.value c.import-item.is) c.loop-i.invariant.seen
    c.in_ok-cause.ensures.cause ∙ c.in-Some.is)
    c.loop-i.invariant.sound

pub loop-i-preserved : goal.loop-i-preserved
loop-i-preserved c = record {
  seen =
      imports_grown c.loop-i.seen.keys c.again.new.seen.keys c.args.raw.now.imports.items c.loop-i.i c.import-item.result
      (subst (λ l. c.loop-i.i < length l) c.deref-import-items.ensures.value c.loop-i-test.true)
      (subst (λ l. c.import-item.result
      ≡ get_or l c.loop-i.i c.import-item.result) c.deref-import-items.ensures.value c.import-item.is)
      c.loop-i.invariant.seen c.in_ok-cause.ensures.seen;
  sound =
      below_more _ _ c.loop-i.invariant.sound (at_import
      (module_of c.args.raw.now) c.loop-i.seen.keys c.loop-i.i c.in_ok-cause.field-0 c.import-item.result
      (subst (λ l. c.loop-i.i < length l) c.deref-import-items.ensures.value c.loop-i-test.true)
      (subst (λ l. c.import-item.result
      ≡ get_or l c.loop-i.i c.import-item.result) c.deref-import-items.ensures.value c.import-item.is)
      c.loop-i.invariant.seen c.in_ok-cause.ensures.cause ∙ c.in_default.is);
  ranges =
      all-grown IsImport c.args.raw.now.imports.items c.loop-i.i c.import-item.result
      (subst (λ l. c.loop-i.i < length l) c.deref-import-items.ensures.value c.loop-i-test.true)
      (subst (λ l. c.import-item.result
      ≡ get_or l c.loop-i.i c.import-item.result) c.deref-import-items.ensures.value c.import-item.is)
      c.loop-i.invariant.ranges c.again.ensures.name;
}

pub returns-clause-sound : goal.returns-clause-sound
returns-clause-sound c =
    imports_sound (module_of c.args.raw.now) c.loop-i.i
    (subst (λ l. length l ≤ c.loop-i.i) c.deref-import-items.ensures.value c.loop-i-test.false) c.loop-i.invariant.sound

pub returns-clause-ranges : goal.returns-clause-ranges
returns-clause-ranges c =
    all-seen IsImport c.args.raw.now.imports.items c.loop-i.i
    (subst (λ l. length l ≤ c.loop-i.i) c.deref-import-items.ensures.value c.loop-i-test.false) c.loop-i.invariant.ranges
