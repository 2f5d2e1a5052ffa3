-- Arithmetic on numbers of two words.
use Rattle.std.specs.Prelude.{ℕ, ◌+◌, ◌*◌, ◌/◌, ◌%◌, ◌^◌, pos, ◌-ℤ◌, nat_lt, if◌then◌else◌}
use Rattle.tn_alu.specs.SignedWords.{word_of}

-- the low word and the high word of a number
abbrev pub low_word : ℕ → ℕ
low_word number = number % 2 ^ 32

abbrev pub high_word : ℕ → ℕ
high_word number = number / 2 ^ 32

-- the product of a and b, with c added
abbrev pub long_product : ℕ → ℕ → ℕ → ℕ
long_product a b c = a * b + c

-- the sum of b, a and the lowest bit of c
abbrev pub long_sum : ℕ → ℕ → ℕ → ℕ
long_sum a b c = b + a + c % 2

-- the low word of b less a less the lowest bit of c
abbrev pub low_difference : ℕ → ℕ → ℕ → ℕ
low_difference a b c = word_of (pos b -ℤ pos (a + c % 2))

-- 1 where a and the lowest bit of c are together more than b, else 0
abbrev pub borrow_of : ℕ → ℕ → ℕ → ℕ
borrow_of a b c = if nat_lt b (a + c % 2) then 1 else 0
