-- Files as contracts see them: names with bytes. A name stands for its first file.
use Rattle.std.specs.Prelude.{◌≡◌, ⊤, ℕ, ◌<◌, length, slice_index_or, slice_set, IsSome, IfSome, List, [], ◌∷◌, ◌++◌, take, Option, Some}
use Rattle.std.specs.Prelude.{None, unwrap_or, if◌then◌else◌}
use Rattle.std.specs.Str.{bytes_eq}

abbrev pub Files : Type 0
Files = List (List ℕ × List ℕ)

-- the bytes under a name
unfoldable pub held : Files → List ℕ → Option (List ℕ)
held [] name = None
held (file ∷ files) name = if bytes_eq file.0 name then Some file.1 else held files name

-- these bytes under a name: in its place where it has one, else behind all files
unfoldable pub with_file : List ℕ → List ℕ → Files → Files
with_file name bytes [] = (name, bytes) ∷ []
with_file name bytes (file ∷ files) = if bytes_eq file.0 name then (name, bytes) ∷ files else file ∷ with_file name bytes files

-- more bytes behind those under a name
unfoldable pub with_more : List ℕ → List ℕ → Files → Files
with_more name more files = with_file name (unwrap_or (held files name) [] ++ more) files

-- only the first bytes of those under a name
unfoldable pub with_front : List ℕ → ℕ → Files → Files
with_front name count files = with_file name (take count (unwrap_or (held files name) [])) files

-- the name's file stands at this place
pub record IsPlace (files : Files) (name : List ℕ) (i : ℕ) : Type 0 where
  pub within : i < length files
  pub named : (slice_index_or files i ([], [])).0 ≡ name
  pub bytes : held files name ≡ Some (slice_index_or files i ([], [])).1
  pub replaced : (bytes : List ℕ) → with_file name bytes files ≡ slice_set files i (name, bytes)

-- the name has no file
pub record HasNoPlace (files : Files) (name : List ℕ) : Type 0 where
  pub bytes : held files name ≡ None
  pub added : (bytes : List ℕ) → with_file name bytes files ≡ files ++ (name, bytes) ∷ []

-- no name stands twice
unfoldable pub HasDistinctNames : Files → Type 0
HasDistinctNames [] = ⊤
HasDistinctNames (file ∷ files) = (held files file.0 ≡ None) × HasDistinctNames files

-- a name, if there is one, has a file
abbrev pub IsHeld : Option (List ℕ) → Files → Type 0
IsHeld opened files = IfSome opened (λ name. IsSome (held files name))
