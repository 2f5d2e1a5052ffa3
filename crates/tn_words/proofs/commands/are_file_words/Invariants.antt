use Rattle.std.proofs.Common.{◌≡◌, true, take, string_bytes}
use Rattle.std.specs.List.{list_all}
use Rattle.tn_words.specs.CommandWords.{is_file_word}
use Rattle.tn_words.proofs.commands.are_file_words.Given as goal

-- the words so far may name files
abbrev pub invariant-loop-word : goal.invariant-loop-word
invariant-loop-word l = list_all (λ w. is_file_word (string_bytes w)) (take l.word-index l.words) ≡ true
