-- The coding of an instruction: prefix bytes for what the operand needs beyond four bits, and
-- then the function's own byte.
use Rattle.std.specs.Prelude.{ℕ, zero, suc, ◌+◌, ◌-◌, ◌*◌, ◌/◌, ◌%◌, ◌^◌, ℤ, pos, negsuc, Bool, false, List, [], ◌∷◌, ◌++◌, if◌then◌else◌}
use Rattle.std.specs.Prelude.{nat_lt, find, unwrap_or}
use Rattle.tn_isa.specs.Functions.{code_of}
use Rattle.tn_isa.specs.declared.functions.Fun.{Fun}
use Rattle.tn_isa.specs.declared.functions.Fun.TheVariants.{Pfix, Nfix}

-- the byte of a function with the low four bits of an operand
abbrev pub instruction : Fun → ℕ → ℕ
instruction f operand = code_of f * 16 + operand % 16

-- the coding of f with an unsigned n, of at most so many prefix bytes: where n has more than four
-- bits, the coding of pfix with n / 16 comes before the byte of f
unfoldable pub coding_up_to : ℕ → Fun → ℕ → List ℕ
coding_up_to zero f n = instruction f n ∷ []
coding_up_to (suc more) f n = if nat_lt n 16 then instruction f n ∷ [] else coding_up_to more Pfix (n / 16) ++ instruction f n ∷ []

-- the coding of f with an unsigned operand below 2 ^ 32
abbrev pub unsigned_coding : Fun → ℕ → List ℕ
unsigned_coding f n = coding_up_to 7 f n

-- the coding of f with an operand from -2 ^ 31 to 2 ^ 31 - 1. For a negative one, whose
-- complement is n, the coding of nfix with n / 16 comes before the byte with its low four bits
unfoldable pub coding : Fun → ℤ → List ℕ
coding f (pos n) = unsigned_coding f n
coding f (negsuc n) = unsigned_coding Nfix (n / 16) ++ instruction f (15 - n % 16) ∷ []

-- whether 0 ≤ e < 16
abbrev pub is_nibble : ℤ → Bool
is_nibble (pos n) = nat_lt n 16
is_nibble (negsuc n) = false

-- whether -bound ≤ e < bound, where negsuc n is -(n + 1)
abbrev pub lies_within : ℕ → ℤ → Bool
lies_within bound (pos n) = nat_lt n bound
lies_within bound (negsuc n) = nat_lt n bound

-- how many bytes the coding of e has: 1 from 0 to 15, else the least n from 2 to 8 with
-- -16 ^ n ≤ e < 16 ^ n
unfoldable pub coding_length : ℤ → ℕ
coding_length e = if is_nibble e then 1 else unwrap_or (find (λ n. lies_within (16 ^ n) e) (2 ∷ 3 ∷ 4 ∷ 5 ∷ 6 ∷ 7 ∷ [])) 8
