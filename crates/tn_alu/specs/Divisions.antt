-- Division of signed words.
use Rattle.std.specs.Prelude.{ℕ, ℤ, ◌==◌, ◌||◌, ◌&&◌, Bool, true, false, if◌then◌else◌, Some, None, int_div, int_rem}
use Rattle.tn_alu.specs.declared.answers.Answer.{Answer}
use Rattle.tn_alu.specs.SignedWords.{signed, word_of}

-- no signed word is the quotient: the divisor is 0, or MostNeg is divided by -1
abbrev pub has_no_quotient : ℕ → ℕ → Bool
has_no_quotient b a = a == 0 || (b == 0x80000000 && a == 0xFFFFFFFF)

-- the word of a number, or Error and no word where there is no quotient
abbrev pub divided : ℕ → ℕ → ℤ → Answer
divided b a number =
    if has_no_quotient b a then record { value = None; error = true } else record { value = Some (word_of number); error = false }

-- the quotient of b by a, rounded towards zero
abbrev pub quotient : ℕ → ℕ → Answer
quotient b a = divided b a (int_div (signed b) (signed a))

-- the remainder of b by a, with the sign of b
abbrev pub remainder : ℕ → ℕ → Answer
remainder b a = divided b a (int_rem (signed b) (signed a))
