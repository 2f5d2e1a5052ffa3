-- Words and numbers as texts print them.
use Rattle.std.specs.Prelude.{ℕ, ◌/◌, ◌%◌, ◌^◌, true, List, [], ◌∷◌, ◌++◌, map, codes}
use Rattle.std.specs.Fmt.{digit_glyph}

-- the hexadecimal digit of a word at a place, of which the lowest is 0
abbrev pub digit_at : ℕ → ℕ → ℕ
digit_at word place = digit_glyph true (word / 16 ^ place % 16)

-- a word: # and eight upper-case hexadecimal digits
unfoldable pub word_text : ℕ → List ℕ
word_text word = 35 ∷ map (digit_at word) (7 ∷ 6 ∷ 5 ∷ 4 ∷ 3 ∷ 2 ∷ 1 ∷ 0 ∷ [])

-- a word with a blank before it
unfoldable pub spaced : List ℕ → List ℕ
spaced word = codes " " ++ word
