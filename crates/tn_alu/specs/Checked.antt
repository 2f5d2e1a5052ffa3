-- What checked arithmetic leaves.
use Rattle.std.specs.Prelude.{ℤ, not, Some}
use Rattle.tn_alu.specs.declared.answers.Answer.{Answer}
use Rattle.tn_alu.specs.SignedWords.{word_of, is_signed_word}

-- the wrapped result, with Error where the true result is no signed word
abbrev pub checked : ℤ → Answer
checked number = record { value = Some (word_of number); error = not (is_signed_word number) }
