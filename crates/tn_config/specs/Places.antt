-- The ranges of the numbers in a configuration, and what a token is in the place of such a number.
use Rattle.std.specs.Prelude.{ℕ, ◌%◌, Bool, ◌&&◌, ◌==◌, nat_le, nat_lt, List, Result, Ok, Err, if◌then◌else◌}
use Rattle.tn_text.specs.declared.faults.Cause.{Cause}
use Rattle.tn_text.specs.declared.faults.FaultCode.TheVariants.{BadNumber}
use Rattle.tn_text.specs.declared.limits.TheConstants.{NAME_LIMIT}
use Rattle.tn_text.specs.Faults.{bare}
use Rattle.tn_text.specs.Places.{number_at, name_at}
use Rattle.tn_text.specs.Reading.{result_then}

-- the size of a memory: whole words, 4096 to 1048576 bytes
abbrev pub is_size : ℕ → Bool
is_size n = nat_le 4096 n && (nat_le n 1048576 && n % 4 == 0)

-- an address: one that the greatest memory has
abbrev pub is_address : ℕ → Bool
is_address n = nat_le 0x8000_0000 n && nat_le n 0x800f_ffff

-- a number of words of workspace
abbrev pub is_count : ℕ → Bool
is_count n = nat_le n 262144

-- the number of a link
abbrev pub is_link : ℕ → Bool
is_link n = nat_lt n 4

-- the word of the number, which is to lie in the range
abbrev pub number_in : (ℕ → Bool) → List ℕ → Result ℕ Cause
number_in range token = result_then (number_at token) (λ n. if range n then Ok n else Err (bare BadNumber))

unfoldable pub size_at : List ℕ → Result ℕ Cause
size_at token = number_in is_size token

unfoldable pub address_at : List ℕ → Result ℕ Cause
address_at token = number_in is_address token

unfoldable pub count_at : List ℕ → Result ℕ Cause
count_at token = number_in is_count token

unfoldable pub link_at : List ℕ → Result ℕ Cause
link_at token = number_in is_link token

-- the word of an argument
unfoldable pub argument_at : List ℕ → Result ℕ Cause
argument_at token = number_at token

-- the name of a processor or a label
unfoldable pub whole_name_at : List ℕ → Result (List ℕ) Cause
whole_name_at token = name_at NAME_LIMIT token
