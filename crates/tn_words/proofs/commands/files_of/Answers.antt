use Rattle.std.proofs.Common.{◌≡◌, ◌∙◌, ℕ, List, [], get_or, Bor, map, take, ap, arith}
use Rattle.std.proofs.lemmas.List.{take_all}
use Rattle.tn_words.proofs.WordReading.{unnamed, named-at}
use Rattle.tn_words.proofs.commands.files_of.Goals as goal

abbrev nothing : Bor (List ℕ)
nothing = record { ref_ptr = (0, 0); now = [] }

pub returns-in-None : goal.returns-in-None
returns-in-None c h =
    unnamed c.of.result (get_or c.args.words.now c.loop-word.word-index nothing).now
    (named-at c.args.words.now c.loop-word.word-index nothing c.loop-word-test.true h) c.of.ensures c.in-None.is

pub returns : goal.returns
returns c h =
    let all : take c.loop-word.word-index c.args.words.now ≡ c.args.words.now = take_all c.loop-word.word-index c.args.words.now
    (omega arith) in
    c.loop-word.invariant ∙ ap (map (λ (w : Bor (List ℕ)). w.now)) all
