use Rattle.tn_system.specs.Sources.{HasFewLines}
use Rattle.tn_top.specs.ModulePlans.{module_plan}
use Rattle.tn_top.proofs.ReadLoops.{HasRead}
use Rattle.tn_top.proofs.reading.read_modules.Given as goal

-- the files so far were read, one after the other
abbrev pub invariant-loop-source : goal.invariant-loop-source
invariant-loop-source g l =
    HasRead HasFewLines module_plan l.sources l.source-index l.modules.items (g.S.Store.stored l.initial.store)
    (g.S.Store.stored l.store)
