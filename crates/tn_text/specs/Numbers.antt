-- Numbers in texts, and the words that they stand for.
use Rattle.std.specs.Prelude.{ℕ, ◌-◌, ◌%◌, ◌^◌, Bool, false, ◌&&◌, ◌||◌, ◌==◌, nat_lt, nat_le, List, [], ◌∷◌, length, Option, Some, None}
use Rattle.std.specs.Prelude.{option_and_then, if◌then◌else◌}
use Rattle.std.specs.List.{list_all}
use Rattle.std.specs.Char.{is_ascii_digit, is_digit}
use Rattle.std.specs.Str.Parse.{digits_value}

-- the value of one to so many digits of a radix
unfoldable pub natural_of : ℕ → ℕ → List ℕ → Option ℕ
natural_of radix most digits =
    if nat_le 1 (length digits) && (nat_le (length digits) most && list_all (λ c. is_digit c radix) digits) then Some
    (digits_value radix digits) else None

-- the words of n and of -n, where they are signed words
abbrev pub positive : ℕ → Option ℕ
positive n = if nat_lt n (2 ^ 31) then Some n else None

abbrev pub negative : ℕ → Option ℕ
negative n = if nat_le n (2 ^ 31) then Some ((2 ^ 32 - n) % 2 ^ 32) else None

-- the word of a number: # and one to eight hexadecimal digits, or one to ten decimal digits, with
-- or without a minus sign, of a value from -2 ^ 31 to 2 ^ 31 - 1
unfoldable pub number_of : List ℕ → Option ℕ
number_of [] = None
number_of (c ∷ cs) =
    if c == 35 then natural_of 16 8 cs else (if c == 45 then option_and_then negative
    (natural_of 10 10 cs) else option_and_then positive (natural_of 10 10 (c ∷ cs)))

-- a token that is taken for a number where a name may stand too
abbrev pub begins_number : List ℕ → Bool
begins_number [] = false
begins_number (c ∷ cs) = is_ascii_digit c || (c == 45 || c == 35)
