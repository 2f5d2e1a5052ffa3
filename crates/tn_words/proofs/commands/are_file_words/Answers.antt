use Rattle.std.proofs.Common.{◌≡◌, ◌∙◌, take, String, Global, string_bytes, sym, ap, arith}
use Rattle.std.specs.List.{list_all}
use Rattle.std.proofs.lemmas.List.{take_all}
use Rattle.std.proofs.lemmas.List.Folds.{list_all-map, list_all_at}
use Rattle.tn_words.specs.CommandWords.{is_file_word}
use Rattle.tn_words.proofs.commands.are_file_words.Goals as goal

pub returns-then-not-is_file_word : goal.returns-then-not-is_file_word
returns-then-not-is_file_word c =
    sym (list_all-map is_file_word string_bytes c.args.words.now
    ∙ list_all_at (λ (w : String Global). is_file_word
    (string_bytes w)) c.args.words.now c.loop-word.word-index c.word-item.result c.loop-word-test.true
    (ap (λ (w : String Global). is_file_word (string_bytes w)) (sym c.word-item.is)
    ∙ (rw c.deref.ensures at (sym c.is_file_word.ensures ∙ c.if-not-is_file_word.true))))

pub returns : goal.returns
returns c =
    let all : take c.loop-word.word-index c.args.words.now ≡ c.args.words.now = take_all c.loop-word.word-index c.args.words.now
    (omega arith) in
    sym (list_all-map is_file_word string_bytes c.args.words.now
    ∙ (ap (list_all (λ (w : String Global). is_file_word (string_bytes w))) (sym all) ∙ c.loop-word.invariant))
