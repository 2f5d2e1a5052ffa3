-- Names in texts: a letter or an underscore, then letters, digits and underscores.
use Rattle.std.specs.Prelude.{ℕ, Bool, false, ◌&&◌, ◌||◌, ◌==◌, nat_le, List, [], ◌∷◌, length}
use Rattle.std.specs.List.{list_all}
use Rattle.std.specs.Char.{is_ascii_alphabetic, is_ascii_alphanumeric}
use Rattle.tn_text.specs.declared.limits.TheConstants.{NAME_LIMIT}

-- what a name begins with: a letter or an underscore
abbrev pub begins_name : ℕ → Bool
begins_name c = is_ascii_alphabetic c || c == 95

-- what a name goes on with
abbrev pub continues_name : ℕ → Bool
continues_name c = is_ascii_alphanumeric c || c == 95

-- the spelling of a name, however long
unfoldable pub is_name_spelling : List ℕ → Bool
is_name_spelling [] = false
is_name_spelling (c ∷ cs) = begins_name c && list_all continues_name cs

-- a name of at most so many bytes
abbrev pub is_name_up_to : ℕ → List ℕ → Bool
is_name_up_to limit bytes = is_name_spelling bytes && nat_le (length bytes) limit

-- a name
abbrev pub is_name : List ℕ → Bool
is_name bytes = is_name_up_to NAME_LIMIT bytes
