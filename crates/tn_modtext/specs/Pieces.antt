-- The lines of a module text, and the tokens of such a line.
use Rattle.std.specs.Prelude.{ℕ, Bool, true, false, ◌&&◌, ◌==◌, nat_le, List, [], ◌∷◌, Result, Ok, Err, if◌then◌else◌}
use Rattle.std.specs.List.{list_all, slice_split}
use Rattle.tn_text.specs.declared.faults.Cause.{Cause}
use Rattle.tn_text.specs.declared.faults.FaultCode.TheVariants.{NotAscii, BadLine}
use Rattle.tn_text.specs.Faults.{bare}
use Rattle.tn_text.specs.Lines.{is_feed, is_nonempty}

-- what stands before the line feeds, and behind the last where that is something, each with whether
-- a line feed ends it
abbrev pub pieces_of_parts : List (List ℕ) → List (List ℕ × Bool)
pieces_of_parts [] = []
pieces_of_parts (part ∷ []) = if is_nonempty part then (part, false) ∷ [] else []
pieces_of_parts (part ∷ next ∷ parts) = (part, true) ∷ pieces_of_parts (next ∷ parts)

unfoldable pub pieces : List ℕ → List (List ℕ × Bool)
pieces text = pieces_of_parts (slice_split is_feed text)

-- a byte that may stand in a line: a blank or a graphic character
abbrev pub is_strict_byte : ℕ → Bool
is_strict_byte c = nat_le 32 c && nat_le c 126

unfoldable pub is_strict_line : List ℕ → Bool
is_strict_line line = list_all is_strict_byte line

abbrev pub is_space : ℕ → Bool
is_space c = c == 32

-- the tokens of a line that ends with a line feed, one blank apart
unfoldable pub strict_tokens : List ℕ × Bool → Result (List (List ℕ)) Cause
strict_tokens piece =
    if is_strict_line piece.0
    then (if piece.1 && list_all is_nonempty (slice_split is_space piece.0) then Ok (slice_split is_space piece.0) else Err (bare BadLine))
    else Err (bare NotAscii)
