use Rattle.std.proofs.Common.{Some, None, take, ap, sym, ◌∙◌, arith, if◌then◌else◌}
use Rattle.std.specs.Option.{option_or}
use Rattle.std.proofs.lemmas.List.{take_more, length-take-le}
use Rattle.indexmap.specs.IndexMap.{get}
use Rattle.tn_module.specs.Modules.{Parts, module_of}
use Rattle.tn_module.specs.Names.{same_name, is_among}
use Rattle.tn_symbols.specs.Choices.{module_at}
use Rattle.tn_symbols.specs.Definitions.{definition_of, kind_of}
use Rattle.tn_symbols.specs.Faults.{ExportAt, fault_at}
use Rattle.tn_symbols.specs.Inner.Searches.{IsFirstIn}
use Rattle.tn_symbols.proofs.Exporting.{definition-more}
use Rattle.tn_symbols.proofs.FirstFaults.{found-same, first-in, none-more, none-in, exports-same, exports-past, fault-if, part-at}
use Rattle.tn_symbols.proofs.faults.check_exports.Goals as goal

pub returns-in-Some-clause-fault : goal.returns-in-Some-clause-fault
returns-in-Some-clause-fault c =
    let is = c.deref.ensures.value
    ∙ part-at (λ (m : Parts). m.exports) c.args.modules.now c.loop-m.m (module_of c.raw-raw.result.now) c.index-modules-m.result
    c.loop-m-test.true c.index-modules-m.is c.raw-raw.ensures.parts in
    fault-if (IsFirstIn (λ m i. fault_at c.args.modules.now (ExportAt m i))) c.in-Some.fault
    (first-in (λ m i. fault_at c.args.modules.now (ExportAt m i)) c.loop-m.m c.loop-m.invariant.sound
    c.repeated.result c.in-Some.fault c.in-Some.is
    (found-same _ (λ i. fault_at c.args.modules.now (ExportAt c.loop-m.m i))
    (exports-same c.args.modules.now c.loop-m.m c.deref.result.now (get same_name c.loop-m.definitions) is c.loop-m.invariant.definitions)
    c.repeated.result c.repeated.ensures))

pub loop-m-preserved : goal.loop-m-preserved
loop-m-preserved c =
    let is = c.deref.ensures.value
    ∙ part-at (λ (m : Parts). m.exports) c.args.modules.now c.loop-m.m (module_of c.raw-raw.result.now) c.index-modules-m.result
    c.loop-m-test.true c.index-modules-m.is c.raw-raw.ensures.parts in
    let same = part-at (λ (m : Parts). m) c.args.modules.now c.loop-m.m (module_of c.raw-raw.result.now) c.index-modules-m.result
    c.loop-m-test.true c.index-modules-m.is c.raw-raw.ensures.parts in
    let before = take c.loop-m.m c.args.modules.now in
    let m = module_at c.args.modules.now c.loop-m.m in
    record {
      definitions = λ name. c.in_ok-define.ensures.told name
          ∙ ap (λ o. option_or o (if is_among (module_of c.raw-raw.result.now).exports name
          then Some (record { «module» = c.loop-m.m; kind = kind_of (module_of c.raw-raw.result.now) name }) else None))
          (c.loop-m.invariant.definitions name)
          ∙ ap (λ (x : Parts). option_or (definition_of before name) (if is_among x.exports name
          then Some (record { «module» = c.loop-m.m; kind = kind_of x name }) else None)) same
          ∙ ap (λ k. option_or (definition_of before name) (if is_among m.exports name
          then Some (record { «module» = k; kind = kind_of m name }) else None))
          (sym (length-take-le c.loop-m.m c.args.modules.now (omega arith)))
          ∙ sym (definition-more before m name)
          ∙ ap (λ ms. definition_of ms name) (sym (take_more c.args.modules.now c.loop-m.m _ c.loop-m-test.true));
      sound =
          none-more (λ m i. fault_at c.args.modules.now (ExportAt m i)) c.loop-m.m c.loop-m.invariant.sound c.repeated.result
          c.in_default.is
          (found-same _ (λ i. fault_at c.args.modules.now (ExportAt c.loop-m.m i))
          (exports-same c.args.modules.now c.loop-m.m c.deref.result.now (get same_name c.loop-m.definitions) is
          c.loop-m.invariant.definitions)
          c.repeated.result c.repeated.ensures);
    }

pub returns-clause-sound : goal.returns-clause-sound
returns-clause-sound c =
    none-in (λ m i. fault_at c.args.modules.now (ExportAt m i)) c.loop-m.m c.loop-m.invariant.sound
    (λ k i h. exports-past c.args.modules.now k i (omega (arith, h, c.loop-m-test.false)))
