-- Words that name no option.
use Rattle.std.specs.Prelude.{ℕ, Bool, false, not, ◌==◌, List, [], ◌∷◌}

-- such a word isn't empty, and doesn't begin with a minus sign
abbrev pub is_plain_word : List ℕ → Bool
is_plain_word [] = false
is_plain_word (c ∷ cs) = not (c == 45)
