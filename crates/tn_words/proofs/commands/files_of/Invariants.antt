use Rattle.std.proofs.Common.{◌≡◌, ℕ, List, Bor, map, take}
use Rattle.tn_words.proofs.commands.files_of.Given as goal

-- the names so far are the words so far
abbrev pub invariant-loop-word : goal.invariant-loop-word
invariant-loop-word l = l.files.items ≡ map (λ (w : Bor (List ℕ)). w.now) (take l.word-index l.words)
