use Rattle.std.proofs.Common.{◌≡◌, ◌-◌, ◌^◌, min, take}
use Rattle.tn_link.specs.Places.{cells_end}
use Rattle.tn_link.proofs.counts.cell_count.Given as goal

abbrev pub invariant-loop-module : goal.invariant-loop-module
invariant-loop-module l = l.end ≡ min (cells_end (take l.module-index l.modules)) (2 ^ 64 - 1)
