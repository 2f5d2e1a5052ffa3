use Rattle.std.proofs.Common.{◌≡◌, ◌-◌, ◌^◌, min, take}
use Rattle.tn_link.specs.Places.{cells_size}
use Rattle.tn_link.proofs.counts.cells_size.Given as goal

abbrev pub invariant-loop-cell : goal.invariant-loop-cell
invariant-loop-cell l = l.at ≡ min (cells_size (take l.cell-index l.cells)) (2 ^ 64 - 1)
