-- Arithmetic where nothing wraps.
use Rattle.std.proofs.Common.{◌≡◌, ℕ, ◌+◌, ◌-◌, ◌/◌, ◌%◌, ◌^◌, ◌<◌, ◌≤◌, false, Some, pos, ◌+ℤ◌, ◌-ℤ◌, arith}
use Rattle.std.proofs.lemmas.Int.{ints}
use Rattle.std.proofs.lemmas.Bool.Decides.{nat_tests}
use Rattle.tn_alu.specs.SignedWords.{signed}
use Rattle.tn_alu.specs.Checked.{checked}
use Rattle.tn_alu.specs.Divisions.{quotient, remainder}

-- a word below 2 ^ 31 stands for itself
pub signed-small : (word : ℕ) → word < 2 ^ 31 → signed word ≡ pos word
signed-small word small = grind (arith, ints, nat_tests)

-- a sum that is below 2 ^ 31
pub sum-small : (b a : ℕ) → b + a < 2 ^ 31 → checked (signed b +ℤ signed a) ≡ record { value = Some (b + a); error = false }
sum-small b a small = grind (arith, ints, nat_tests)

-- a sum of an address, which is MostNeg or above, and an offset
pub sum-address :
    (b a : ℕ) → 2 ^ 31 ≤ b → a < 2 ^ 31 → b + a < 2 ^ 32 → checked (signed b +ℤ signed a) ≡ record { value = Some (b + a); error = false }
sum-address b a address offset in_word = grind (arith, ints, nat_tests)

-- a difference of numbers below 2 ^ 31 that is no less than 0
pub difference-small : (b a : ℕ) → b < 2 ^ 31 → a ≤ b → checked (signed b -ℤ signed a) ≡ record { value = Some (b - a); error = false }
difference-small b a small less = grind (arith, ints, nat_tests)

-- a division of numbers below 2 ^ 31
pub quotient-small : (b a : ℕ) → b < 2 ^ 31 → a < 2 ^ 31 → 0 < a → quotient b a ≡ record { value = Some (b / a); error = false }
quotient-small b a b_small a_small above = grind (arith, ints, nat_tests)

pub remainder-small : (b a : ℕ) → b < 2 ^ 31 → a < 2 ^ 31 → 0 < a → remainder b a ≡ record { value = Some (b % a); error = false }
remainder-small b a b_small a_small above = grind (arith, ints, nat_tests)
