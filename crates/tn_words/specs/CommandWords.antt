-- The words of a command line.
use Rattle.std.specs.Prelude.{⊤, ℕ, ◌-◌, ◌<◌, ◌≤◌, Bool, ◌&&◌, nat_le, List, [], ◌∷◌, length, Option, Some, None, codes}
use Rattle.std.specs.Prelude.{if◌then◌else◌}
use Rattle.std.specs.List.{list_all}
use Rattle.std.specs.Option.{option_map}
use Rattle.std.specs.Str.{bytes_eq}
use Rattle.tn_words.specs.PlainWords.{is_plain_word}
use Rattle.tn_text.specs.declared.limits.TheConstants.{FILE_NAME_LIMIT}

-- what words ask for
pub data Asked : Type 0 where
  flat : (source target : List ℕ) → Asked
  one : (source target : List ℕ) (link : ℕ) → Asked
  asm : (source target : List ℕ) → Asked
  lib : (target : List ℕ) (sources : List (List ℕ)) → Asked
  build : (config target : List ℕ) → Asked
  list : (config : List ℕ) → Asked
  tree : (config : List ℕ) → Asked
  replay : (config schedule : List ℕ) → Asked
  grid : (size : ℕ) → Asked

-- a word that may name a file: it isn't empty, doesn't begin with a minus sign, and has at most 255 bytes
abbrev pub is_file_word : List ℕ → Bool
is_file_word word = is_plain_word word && nat_le (length word) FILE_NAME_LIMIT

-- the link that a word names, 0 to 3
unfoldable pub link_named : List ℕ → Option ℕ
link_named (c ∷ []) = if nat_le 48 c && nat_le c 51 then Some (c - 48) else None
link_named _ = None

-- the size of a grid that a word names, 1 to 8
unfoldable pub size_named : List ℕ → Option ℕ
size_named (c ∷ []) = if nat_le 49 c && nat_le c 56 then Some (c - 48) else None
size_named _ = None

-- two files
abbrev pub two_files : List (List ℕ) → Option (List ℕ × List ℕ)
two_files (first ∷ second ∷ []) = if is_file_word first && is_file_word second then Some (first, second) else None
two_files _ = None

-- one file
abbrev pub one_file : List (List ℕ) → Option (List ℕ)
one_file (file ∷ []) = if is_file_word file then Some file else None
one_file _ = None

-- two files and a link
abbrev pub one_asked : List (List ℕ) → Option Asked
one_asked (source ∷ target ∷ link ∷ []) =
    if is_file_word source && is_file_word target then option_map (λ k. one source target k) (link_named link) else None
one_asked _ = None

-- a file and others, one at least
abbrev pub lib_asked : List (List ℕ) → Option Asked
lib_asked (target ∷ source ∷ sources) =
    if list_all is_file_word (target ∷ source ∷ sources) then Some (lib target (source ∷ sources)) else None
lib_asked _ = None

-- the size of a grid
abbrev pub grid_asked : List (List ℕ) → Option Asked
grid_asked (size ∷ []) = option_map grid (size_named size)
grid_asked _ = None

-- what the words behind the word of a command ask for
abbrev pub asked_of : List ℕ → List (List ℕ) → Option Asked
asked_of command words =
    if bytes_eq command (codes "flat") then option_map (λ f. flat f.0 f.1) (two_files words)
    else (if bytes_eq command (codes "one") then one_asked words
    else (if bytes_eq command (codes "asm") then option_map (λ f. asm f.0 f.1) (two_files words)
    else (if bytes_eq command (codes "lib") then lib_asked words
    else (if bytes_eq command (codes "build") then option_map (λ f. build f.0 f.1) (two_files words)
    else (if bytes_eq command (codes "list") then option_map list (one_file words)
    else (if bytes_eq command (codes "tree") then option_map tree (one_file words)
    else (if bytes_eq command (codes "replay") then option_map (λ f. replay f.0 f.1) (two_files words)
    else (if bytes_eq command (codes "grid") then grid_asked words else None))))))))

-- what the words after the program's name ask for, if they spell a command
unfoldable pub asked : List (List ℕ) → Option Asked
asked [] = None
asked (command ∷ words) = asked_of command words

-- a link of a command is below 4, and the size of a grid from 1 to 8
abbrev pub IsInRange : Asked → Type 0
IsInRange (one source target link) = link < 4
IsInRange (grid size) = (1 ≤ size) × (size ≤ 8)
IsInRange _ = ⊤
