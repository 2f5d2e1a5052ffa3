use Rattle.std.proofs.Common.{◌≡◌, ◌++◌, take}
use Rattle.std.specs.List.{flat_map}
use Rattle.tn_modtext.specs.Lines.{spelling}
use Rattle.tn_modtext.proofs.library_writers.put_modules.Given as goal

abbrev pub invariant-loop-module : goal.invariant-loop-module
invariant-loop-module l = l.out.items ≡ l.initial.out.items ++ flat_map spelling (take l.module-index l.modules)
