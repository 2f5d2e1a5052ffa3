use Rattle.std.proofs.Common.{◌≡◌, ℕ, ◌+◌, ◌<◌, slice_index}
use Rattle.tn_mem.specs.Memories.{most_neg}
use Rattle.tn_sym.specs.Same.{IsElsewhere}
use Rattle.tn_sym.proofs.comparing.same_elsewhere.Given as goal

abbrev pub invariant-loop-i : goal.invariant-loop-i
invariant-loop-i l = (j : ℕ) → j < l.i → IsElsewhere l.code (most_neg + j) → slice_index l.memory j ≡ slice_index l.other j
