-- The host's bytes.
use Rattle.std.proofs.Common.{◌≡◌, ℕ, zero, suc, Bool, true, false, List, [], ◌∷◌, length, drop, ◌∙◌, arith}
use Rattle.std.specs.Prelude.{nat_lt, is_some}
use Rattle.std.proofs.lemmas.Bool.Decides.{nat_tests}
use Rattle.tn_network.specs.Hosts.{next_byte}

none_below : (n : ℕ) → false ≡ nat_lt n 0
none_below n = grind (arith, nat_tests)

below_suc : (n : ℕ) → true ≡ nat_lt 0 (suc n)
below_suc n = grind (arith, nat_tests)

both_suc : (m n : ℕ) → nat_lt m n ≡ nat_lt (suc m) (suc n)
both_suc m n = grind (arith, nat_tests)

-- a byte is left where fewer were sent than there are
pub next_byte_drop : (bytes : List ℕ) (given : ℕ) → is_some (next_byte (drop given bytes)) ≡ nat_lt given (length bytes)
next_byte_drop [] zero = none_below 0
next_byte_drop [] (suc given) = none_below (suc given)
next_byte_drop (byte ∷ bytes) zero = below_suc (length bytes)
next_byte_drop (byte ∷ bytes) (suc given) = next_byte_drop bytes given ∙ both_suc given (length bytes)
