-- What the tests of accesses say.
use Rattle.std.proofs.Common.{◌≡◌, ℕ, ◌+◌, ◌-◌, ◌%◌, ◌^◌, ◌≤◌, true, arith}
use Rattle.std.proofs.lemmas.Bool.Decides.{nat_tests}
use Rattle.tn_mem.specs.Memories.{most_neg, reachable, allows_word}

-- a block that is reachable lies inside the memory, above word 8
pub fits-reachable : (size a n : ℕ) → reachable size a n ≡ true → (most_neg + 36 ≤ a) × (a - most_neg + n ≤ size)
fits-reachable size a n test = (grind (arith, nat_tests), grind (arith, nat_tests))

pub reachable-fits : (size a n : ℕ) → most_neg + 36 ≤ a → a - most_neg + n ≤ size → a + n ≤ 2 ^ 32 → reachable size a n ≡ true
reachable-fits size a n lowest highest end = grind (arith, nat_tests)

-- a word that is allowed is aligned and reachable
pub reachable-allows_word : (size a : ℕ) → allows_word size a ≡ true → (a % 4 ≡ 0) × (reachable size a 4 ≡ true)
reachable-allows_word size a test = (grind (arith, nat_tests), grind (arith, nat_tests))
