-- The bytes of lines, and the tokens of a line.
use Rattle.std.specs.Prelude.{ℕ, Bool, not, ◌&&◌, ◌||◌, ◌==◌, nat_le, List, length, filter}
use Rattle.std.specs.List.{list_all, slice_split, before_first}

-- a byte that may stand in a line: a blank, a tab or a graphic character
abbrev pub is_line_byte : ℕ → Bool
is_line_byte c = (nat_le 32 c && nat_le c 126) || c == 9

-- only such bytes stand in the line, in its comment too
unfoldable pub is_ascii_line : List ℕ → Bool
is_ascii_line line = list_all is_line_byte line

-- what ends a line
abbrev pub is_feed : ℕ → Bool
is_feed c = c == 10

-- what separates tokens: blanks and tabs
abbrev pub is_blank : ℕ → Bool
is_blank c = c == 32 || c == 9

-- what begins a comment, which ends with the line
abbrev pub begins_comment : ℕ → Bool
begins_comment c = c == 59

-- what a token is: some bytes at least
abbrev pub is_nonempty : List ℕ → Bool
is_nonempty bytes = not (length bytes == 0)

-- the tokens of a line
unfoldable pub tokens : List ℕ → List (List ℕ)
tokens line = filter is_nonempty (slice_split is_blank (before_first begins_comment line))
