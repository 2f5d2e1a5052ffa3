-- What a token is in each place of a schedule.
use Rattle.std.specs.Prelude.{◌≡◌, ℕ, Bool, ◌==◌, nat_le, List, Option, Some, None, position, Result, Ok, Err, if◌then◌else◌}
use Rattle.std.specs.Str.{bytes_eq}
use Rattle.tn_text.specs.declared.faults.Cause.{Cause}
use Rattle.tn_text.specs.declared.faults.Detail.TheVariants.{Named}
use Rattle.tn_text.specs.declared.faults.FaultCode.TheVariants.{BadNumber, UnknownProcessor}
use Rattle.tn_text.specs.declared.limits.TheConstants.{NAME_LIMIT}
use Rattle.tn_text.specs.Faults.{bare}
use Rattle.tn_text.specs.Places.{number_at, name_at}
use Rattle.tn_text.specs.Reading.{result_then}

-- the number, from 0 to the greatest of its place
unfoldable pub number_up_to : ℕ → List ℕ → Result ℕ Cause
number_up_to most token = result_then (number_at token) (λ n. if nat_le n most then Ok n else Err (bare BadNumber))

-- a byte
abbrev pub byte_at : List ℕ → Result ℕ Cause
byte_at token = number_up_to 255 token

-- the number of a link
abbrev pub link_at : List ℕ → Result ℕ Cause
link_at token = number_up_to 3 token

-- how many picks to make at most
abbrev pub picks_at : List ℕ → Result ℕ Cause
picks_at token = number_up_to 100000000 token

-- the place of a byte that the host got
abbrev pub place_at : List ℕ → Result ℕ Cause
place_at token = number_up_to 65535 token

-- 0 or 1
unfoldable pub flag_at : List ℕ → Result Bool Cause
flag_at token = result_then (number_up_to 1 token) (λ n. Ok (n == 1))

-- any number, as a word
unfoldable pub word_at : List ℕ → Result ℕ Cause
word_at token = number_at token

-- the name of a processor
unfoldable pub whole_name_at : List ℕ → Result (List ℕ) Cause
whole_name_at token = name_at NAME_LIMIT token

-- the first processor that has a name is the one at this place
abbrev pub IsProcessor : List (List ℕ) → List ℕ → ℕ → Type 0
IsProcessor names name p = position (λ n. bytes_eq n name) names ≡ Some p

-- no processor has the name
abbrev pub unknown : List ℕ → Cause
unknown name = record { code = UnknownProcessor; detail = Named name }

abbrev pub or_unknown : List ℕ → Option ℕ → Result ℕ Cause
or_unknown name None = Err (unknown name)
or_unknown name (Some p) = Ok p

-- the processor that has a name
unfoldable pub processor_named : List (List ℕ) → List ℕ → Result ℕ Cause
processor_named names name = or_unknown name (position (λ n. bytes_eq n name) names)
