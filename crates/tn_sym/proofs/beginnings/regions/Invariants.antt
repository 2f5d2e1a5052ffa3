use Rattle.std.proofs.Common.{◌≡◌, map, take}
use Rattle.tn_sym.specs.Inner.Readings.{region_at}
use Rattle.tn_sym.proofs.beginnings.regions.Given as goal

abbrev pub invariant-loop-program : goal.invariant-loop-program
invariant-loop-program l = l.regions.items ≡ map region_at (take l.program-index l.programs)
