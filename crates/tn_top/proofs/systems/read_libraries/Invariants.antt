use Rattle.std.specs.Prelude.{map}
use Rattle.tn_system.specs.Sources.{IsShortLibrary}
use Rattle.tn_top.specs.SystemPlans.{library_file_plan}
use Rattle.tn_top.proofs.ReadLoops.{HasRead}
use Rattle.tn_top.proofs.systems.read_libraries.Given as goal

-- the files so far were read, one after the other
abbrev pub invariant-loop-file : goal.invariant-loop-file
invariant-loop-file g l =
    HasRead IsShortLibrary library_file_plan l.files l.file-index (map (λ k. k.modules.items) l.shelf.items)
    (g.S.Store.stored l.initial.store) (g.S.Store.stored l.store)
