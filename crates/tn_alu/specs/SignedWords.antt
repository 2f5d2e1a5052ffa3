-- Words and the numbers that they stand for.
use Rattle.std.specs.Prelude.{ℕ, ◌^◌, ℤ, pos, neg_ℤ, unsigned_abs, Bool, ◌&&◌, int_lt, int_le}
use Rattle.std.specs.Int.{w32, cast_signed, int_rem_euclid}

-- the signed number that a word stands for
abbrev pub signed : ℕ → ℤ
signed word = cast_signed w32 word

-- a number modulo 2 ^ 32
abbrev pub word_of : ℤ → ℕ
word_of number = unsigned_abs (int_rem_euclid number (pos (2 ^ 32)))

-- some word stands for this signed number
abbrev pub is_signed_word : ℤ → Bool
is_signed_word number = int_le (neg_ℤ (pos (2 ^ 31))) number && int_lt number (pos (2 ^ 31))
