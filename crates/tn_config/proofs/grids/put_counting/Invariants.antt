use Rattle.std.proofs.Common.{◌≡◌, ◌++◌}
use Rattle.tn_config.specs.Grids.{texts_of, counting}
use Rattle.tn_config.proofs.grids.put_counting.Given as goal

abbrev pub invariant-loop-number : goal.invariant-loop-number
invariant-loop-number l = l.out.items ≡ l.initial.out.items ++ texts_of counting l.number
