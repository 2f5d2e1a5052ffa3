-- The tokens behind the first word of a line, a blank before each.
use Rattle.std.specs.Prelude.{ℕ, List, [], ◌∷◌, ◌++◌}

abbrev pub args_text : List (List ℕ) → List ℕ
args_text [] = []
args_text (a ∷ []) = 32 ∷ a
args_text (a ∷ b ∷ more) = (32 ∷ a) ++ args_text (b ∷ more)
