use Rattle.std.proofs.Common.{◌∙◌, arith}
use Rattle.indexmap.specs.IndexMap.{get}
use Rattle.tn_module.specs.Modules.{Parts, module_of}
use Rattle.tn_module.specs.Names.{same_name}
use Rattle.tn_symbols.specs.Faults.{ImportAt, fault_at}
use Rattle.tn_symbols.specs.Inner.Searches.{IsFirstIn}
use Rattle.tn_symbols.proofs.FirstFaults.{found-same, first-in, none-more, none-in, imports-same, imports-past, fault-if, part-at}
use Rattle.tn_symbols.proofs.faults.check_imports.Goals as goal

pub returns-in-Some-clause-fault : goal.returns-in-Some-clause-fault
returns-in-Some-clause-fault c =
    let is = c.deref.ensures.value
    ∙ part-at (λ (m : Parts). m.imports) c.args.modules.now c.loop-m.m (module_of c.raw-raw.result.now) c.index-modules-m.result
    c.loop-m-test.true c.index-modules-m.is c.raw-raw.ensures.parts in
    fault-if (IsFirstIn (λ m i. fault_at c.args.modules.now (ImportAt m i))) c.in-Some.fault
    (first-in (λ m i. fault_at c.args.modules.now (ImportAt m i)) c.loop-m.m c.loop-m.invariant
    c.refused.result c.in-Some.fault c.in-Some.is
    (found-same _ (λ i. fault_at c.args.modules.now (ImportAt c.loop-m.m i))
    (imports-same c.args.modules.now c.loop-m.m c.deref.result.now (get same_name c.args.definitions.now) is c.requires.definitions)
    c.refused.result c.refused.ensures))

pub loop-m-preserved : goal.loop-m-preserved
loop-m-preserved c =
    let is = c.deref.ensures.value
    ∙ part-at (λ (m : Parts). m.imports) c.args.modules.now c.loop-m.m (module_of c.raw-raw.result.now) c.index-modules-m.result
    c.loop-m-test.true c.index-modules-m.is c.raw-raw.ensures.parts in
    none-more (λ m i. fault_at c.args.modules.now (ImportAt m i)) c.loop-m.m c.loop-m.invariant c.refused.result c.in_default.is
    (found-same _ (λ i. fault_at c.args.modules.now (ImportAt c.loop-m.m i))
    (imports-same c.args.modules.now c.loop-m.m c.deref.result.now (get same_name c.args.definitions.now) is c.requires.definitions)
    c.refused.result c.refused.ensures)

pub returns-clause-sound : goal.returns-clause-sound
returns-clause-sound c =
    none-in (λ m i. fault_at c.args.modules.now (ImportAt m i)) c.loop-m.m c.loop-m.invariant
    (λ k i h. imports-past c.args.modules.now k i (omega (arith, h, c.loop-m-test.false)))
