use Rattle.std.proofs.Common.{◌≡◌, None, length}
use Rattle.tn_list.specs.Symbols.{nearest}
use Rattle.tn_list.proofs.symbols.nearest.Given as goal

-- going on from what was found gives what going over all gives
abbrev pub invariant-loop-rest : goal.invariant-loop-rest
invariant-loop-rest l = nearest l.modules l.address l.found l.rest ≡ nearest l.modules l.address None l.placed

abbrev pub decreases-loop-rest : goal.decreases-loop-rest
decreases-loop-rest l = length l.rest
