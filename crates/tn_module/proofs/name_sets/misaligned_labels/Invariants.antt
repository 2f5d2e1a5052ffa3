use Rattle.std.proofs.Common.{◌≡◌, ◌*◌, ◌^◌, ◌≤◌, ◌++◌, drop}
use Rattle.tn_module.specs.Names.{misaligned_from}
use Rattle.tn_module.proofs.name_sets.misaligned_labels.Given as goal

-- those found, and those among the cells that are left, are all
abbrev pub invariant-loop-cell : goal.invariant-loop-cell
invariant-loop-cell l =
    (l.names.items ++ misaligned_from l.at (drop l.cell-index l.cells) ≡ misaligned_from 0 l.cells) × (l.at ≤ 2 ^ 32 * l.cell-index)
