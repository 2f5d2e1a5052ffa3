-- Shifts of words.
use Rattle.std.specs.Prelude.{ℕ, ◌*◌, ◌/◌, ◌%◌, ◌^◌, nat_lt, false, if◌then◌else◌, Some, None}
use Rattle.tn_alu.specs.declared.answers.Answer.{Answer}

-- the word, undefined where the shift is by 32 places or more
abbrev pub shifted : ℕ → ℕ → Answer
shifted places word = record { value = if nat_lt places 32 then Some word else None; error = false }

-- b shifted left by a places
abbrev pub shifted_left : ℕ → ℕ → Answer
shifted_left b a = shifted a (b * 2 ^ a % 2 ^ 32)

-- b shifted right by a places
abbrev pub shifted_right : ℕ → ℕ → Answer
shifted_right b a = shifted a (b / 2 ^ a)
