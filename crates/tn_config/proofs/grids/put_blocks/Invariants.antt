use Rattle.std.proofs.Common.{◌≡◌, ◌++◌}
use Rattle.tn_config.specs.Grids.{texts_of, cell_block}
use Rattle.tn_config.proofs.grids.put_blocks.Given as goal

abbrev pub invariant-loop-k : goal.invariant-loop-k
invariant-loop-k l = l.out.items ≡ l.initial.out.items ++ texts_of (cell_block l.n) l.k
