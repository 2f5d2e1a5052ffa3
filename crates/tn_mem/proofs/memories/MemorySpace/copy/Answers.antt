use Rattle.std.proofs.Common.{arith}
use Rattle.std.proofs.lemmas.Grind.{common_steps}
use Rattle.tn_mem.proofs.memories.MemorySpace.copy.Goals as goal

pub returns-then-n-gt0 : goal.returns-then-n-gt0
unfolding Rattle.tn_mem.specs.Memories.copy_block Rattle.tn_mem.specs.Memories.put Rattle.tn_mem.specs.Memories.block
returns-then-n-gt0 c = grind (arith, common_steps)
