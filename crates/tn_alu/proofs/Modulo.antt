-- Numbers modulo 2 ^ 32: the words that arithmetic on signed words leaves, by the unsigned words.
use Rattle.std.proofs.Common.{◌≡◌, ℕ, ◌+◌, ◌-◌, ◌*◌, ◌%◌, ◌^◌, ◌<◌, ◌≤◌, ℤ, pos, ◌+ℤ◌, ◌-ℤ◌, ◌*ℤ◌, sym, ap, ◌∙◌, refl, lit<, arith}
use Rattle.std.specs.Prelude.{unsigned_abs}
use Rattle.std.specs.Int.{w32, cast_unsigned, int_wrap}
use Rattle.std.proofs.lemmas.Int.{ints, int_rem_euclid_is, of_z-to_z, wrapping_add-bits, wrapping_sub-bits, wrapping_mul-bits}
use Rattle.tn_alu.specs.SignedWords.{signed, word_of}

-- a difference, where the number that is taken away is no greater than b and k borrowed words
pub word_of-difference : (b taken k : ℕ) → taken ≤ b + k * 2 ^ 32 → word_of (pos b -ℤ pos taken) ≡ (b + k * 2 ^ 32 - taken) % 2 ^ 32
word_of-difference b taken k enough =
    ap unsigned_abs
    (int_rem_euclid_is (pos b -ℤ pos taken) (pos (2 ^ 32)) (2 ^ 32) k (b + k * 2 ^ 32 - taken) (lit< tt) refl (omega (arith, ints)))

-- the word of a number is a word
pub word_of-below : (number : ℤ) → word_of number < 2 ^ 32
word_of-below number = grind (arith, ints)

-- the word of the signed number that a word stands for is that word
pub word_of-signed : (word : ℕ) → word < 2 ^ 32 → word_of (signed word) ≡ word
word_of-signed word in_word = grind (arith, ints)

-- two words that stand for one signed number are equal
same_word : (v w : ℕ) → v < 2 ^ 32 → w < 2 ^ 32 → signed v ≡ signed w → v ≡ w
same_word v w v_below w_below e =
    sym (of_z-to_z w32 v v_below) ∙ ap (cast_unsigned w32) e ∙ of_z-to_z w32 w w_below

-- a number and a word that wrap to one signed number
wraps_to : (number : ℤ) (w : ℕ) → w < 2 ^ 32 → signed w ≡ int_wrap w32 number → word_of number ≡ w
unfolding int_wrap
wraps_to number w w_below e = same_word (word_of number) w (word_of-below number) w_below (sym e)

-- the wrapped sum, difference and product of signed words are those of the unsigned words
pub word_of-sum : (b a : ℕ) → b < 2 ^ 32 → a < 2 ^ 32 → word_of (signed b +ℤ signed a) ≡ (b + a) % 2 ^ 32
word_of-sum b a hb ha = wraps_to (signed b +ℤ signed a) ((b + a) % 2 ^ 32) (omega arith) (wrapping_add-bits w32 b a hb ha)

pub word_of-signed_difference : (b a : ℕ) → b < 2 ^ 32 → a < 2 ^ 32 → word_of (signed b -ℤ signed a) ≡ (b + (2 ^ 32 - a)) % 2 ^ 32
word_of-signed_difference b a hb ha =
    wraps_to (signed b -ℤ signed a) ((b + (2 ^ 32 - a)) % 2 ^ 32) (omega arith) (wrapping_sub-bits w32 b a hb ha)

pub word_of-product : (b a : ℕ) → b < 2 ^ 32 → a < 2 ^ 32 → word_of (signed b *ℤ signed a) ≡ (b * a) % 2 ^ 32
word_of-product b a hb ha = wraps_to (signed b *ℤ signed a) ((b * a) % 2 ^ 32) (omega arith) (wrapping_mul-bits w32 b a hb ha)
