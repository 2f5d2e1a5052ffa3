use Rattle.std.proofs.Common.{◌≡◌, ◌<◌, ◌≤◌, ◌∙◌, length, get_or, subst, below_more}
use Rattle.tn_module.specs.declared.faults.Place.TheVariants as place
use Rattle.tn_module.specs.Modules.{module_of}
use Rattle.tn_module.specs.Inner.Sets.{known_by}
use Rattle.tn_module.proofs.Places.{at_export, exports_grown, exports_sound, first_in, all-grown, all-seen}
use Rattle.tn_module.specs.Ranges.{IsName}
use Rattle.tn_module.proofs.checks.enter_exports.Goals as goal

pub returns-in-Some-clause-fault : goal.returns-in-Some-clause-fault
returns-in-Some-clause-fault c =
    first_in place.Export (module_of c.args.raw.now) c.loop-i.i c.in-Some.cause c.fault_at.result c.fault_at.ensures
    (at_export (module_of c.args.raw.now) c.loop-i.seen.keys c.loop-i.i c.in_ok-cause.field-0
    (known_by c.args.names.now) c.requires.names c.name-item.result
    (subst (λ l. c.loop-i.i < length l) c.deref-name-items.ensures.value c.loop-i-test.true)
    (subst (λ l. c.name-item.result
    ≡ get_or l c.loop-i.i c.name-item.result) c.deref-name-items.ensures.value c.name-item.is) c.loop-i.invariant.seen
    c.in_ok-cause.ensures.cause ∙ c.in-Some.is)
    c.loop-i.invariant.sound

pub loop-i-preserved : goal.loop-i-preserved
loop-i-preserved c = record {
  seen =
      exports_grown c.loop-i.seen.keys c.export_cause.new.seen.keys c.args.raw.now.exports.items c.loop-i.i c.name-item.result
      (subst (λ l. c.loop-i.i < length l) c.deref-name-items.ensures.value c.loop-i-test.true)
      (subst (λ l. c.name-item.result
      ≡ get_or l c.loop-i.i c.name-item.result) c.deref-name-items.ensures.value c.name-item.is) c.loop-i.invariant.seen
      (c.in_ok-cause.ensures.seen c.in_default.is);
  sound =
      below_more _ _ c.loop-i.invariant.sound (at_export (module_of c.args.raw.now) c.loop-i.seen.keys c.loop-i.i c.in_ok-cause.field-0
      (known_by c.args.names.now) c.requires.names c.name-item.result
      (subst (λ l. c.loop-i.i < length l) c.deref-name-items.ensures.value c.loop-i-test.true)
      (subst (λ l. c.name-item.result
      ≡ get_or l c.loop-i.i c.name-item.result) c.deref-name-items.ensures.value c.name-item.is) c.loop-i.invariant.seen
      c.in_ok-cause.ensures.cause ∙ c.in_default.is);
  ranges =
      all-grown IsName c.args.raw.now.exports.items c.loop-i.i c.name-item.result
      (subst (λ l. c.loop-i.i < length l) c.deref-name-items.ensures.value c.loop-i-test.true)
      (subst (λ l. c.name-item.result
      ≡ get_or l c.loop-i.i c.name-item.result) c.deref-name-items.ensures.value c.name-item.is) c.loop-i.invariant.ranges
      c.export_cause.ensures.name;
}

pub returns-clause-sound : goal.returns-clause-sound
returns-clause-sound c =
    exports_sound (module_of c.args.raw.now) c.loop-i.i
    (subst (λ l. length l ≤ c.loop-i.i) c.deref-name-items.ensures.value c.loop-i-test.false) c.loop-i.invariant.sound

pub returns-clause-ranges : goal.returns-clause-ranges
returns-clause-ranges c =
    all-seen IsName c.args.raw.now.exports.items c.loop-i.i
    (subst (λ l. length l ≤ c.loop-i.i) c.deref-name-items.ensures.value c.loop-i-test.false) c.loop-i.invariant.ranges
