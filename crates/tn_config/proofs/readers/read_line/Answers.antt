use Rattle.std.proofs.Common.{ℕ, ◌+◌, ◌-◌, Bor, List, length, drop, IsTrue}
use Rattle.std.proofs.lemmas.List.Elements.{All-same, All-take, All-drop}
use Rattle.tn_text.specs.Lines.{is_ascii_line}
use Rattle.tn_config.proofs.Words.{words_ascii}
use Rattle.tn_config.proofs.readers.read_line.Goals as goal

pub words_said-requires : goal.words_said-requires
words_said-requires c =
    All-take (λ (w : Bor (List ℕ)). IsTrue (is_ascii_line w.now)) (length c.as_slice.result.now - 1) (drop 1 c.as_slice.result.now)
    (All-drop (λ (w : Bor (List ℕ)). IsTrue (is_ascii_line w.now)) 1 c.as_slice.result.now
    (All-same (λ (w : Bor (List ℕ)). IsTrue (is_ascii_line w.now)) c.as_slice.result.now c.in_ok-tokens.tokens.items
    c.as_slice.ensures.value (words_ascii (c.args.reader.now.lines + 1) c.args.line.now c.in_ok-tokens.tokens.items
    c.in_ok-tokens.ensures)))
