use Rattle.std.proofs.Common.{take}
use Rattle.tn_sym.specs.Programs.{AreModules}
use Rattle.tn_sym.proofs.beginnings.are_modules.Given as goal

abbrev pub invariant-loop-module : goal.invariant-loop-module
invariant-loop-module l = AreModules (take l.module-index l.modules)
