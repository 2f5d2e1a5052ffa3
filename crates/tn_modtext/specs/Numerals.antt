-- Numbers in a module text: decimal, without leading zeros and without `-0`.
use Rattle.std.specs.Prelude.{ℕ, ◌^◌, ℤ, pos, neg_ℤ, Bool, false, ◌&&◌, ◌==◌, nat_lt, nat_le, List, [], ◌∷◌, Option, Some, None, Result}
use Rattle.std.specs.Prelude.{Ok, Err}
use Rattle.std.specs.Prelude.{if◌then◌else◌}
use Rattle.tn_text.specs.declared.faults.Cause.{Cause}
use Rattle.tn_text.specs.declared.faults.FaultCode.TheVariants.{BadNumber}
use Rattle.tn_text.specs.Faults.{bare}
use Rattle.tn_text.specs.Numbers.{natural_of}

-- more digits stand behind a zero
abbrev pub has_leading_zero : List ℕ → Bool
has_leading_zero [] = false
has_leading_zero (c ∷ []) = false
has_leading_zero (c ∷ d ∷ ds) = c == 48

-- the value of one to ten decimal digits without leading zeros
unfoldable pub plain_natural : List ℕ → Option ℕ
plain_natural digits = if has_leading_zero digits then None else natural_of 10 10 digits

abbrev pub up_to : ℕ → Option ℕ → Result ℕ Cause
up_to limit None = Err (bare BadNumber)
up_to limit (Some n) = if nat_le n limit then Ok n else Err (bare BadNumber)

-- a number of at most so much
unfoldable pub natural_at : ℕ → List ℕ → Result ℕ Cause
natural_at limit token = up_to limit (plain_natural token)

abbrev pub negative_at : Option ℕ → Result ℤ Cause
negative_at None = Err (bare BadNumber)
negative_at (Some n) = if nat_le 1 n && nat_le n (2 ^ 31) then Ok (neg_ℤ (pos n)) else Err (bare BadNumber)

abbrev pub positive_at : Option ℕ → Result ℤ Cause
positive_at None = Err (bare BadNumber)
positive_at (Some n) = if nat_lt n (2 ^ 31) then Ok (pos n) else Err (bare BadNumber)

-- a signed word
unfoldable pub signed_at : List ℕ → Result ℤ Cause
signed_at [] = Err (bare BadNumber)
signed_at (c ∷ cs) = if c == 45 then negative_at (plain_natural cs) else positive_at (plain_natural (c ∷ cs))
