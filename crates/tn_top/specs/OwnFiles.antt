-- Plans over files of their own: what such a plan comes to depends on no store.
use Rattle.std.specs.Prelude.{ℕ, ◌+◌, nat_lt, List, length, Option, Some, None, if◌then◌else◌}
use Rattle.tn_io.specs.FileLists.{Files, held}
use Rattle.tn_text.specs.declared.limits.TheConstants.{FILE_LIMIT}
use Rattle.tn_text.specs.declared.limits.Limit.TheVariants.{File}
use Rattle.tn_top.specs.Plans.{unread, limit, Plan, gives, stops, reads, settles}

-- what is read of a file: its text, unless it isn't there or is longer than a file may be
abbrev pub read_own : {A : Type 0} → List ℕ → Option (List ℕ) → (List ℕ → Plan A) → Plan A
read_own file None next = stops (unread file)
read_own file (Some text) next = if nat_lt FILE_LIMIT (length text) then stops (limit File (FILE_LIMIT + 1)) else next text

-- a plan, each file that it reads being one of these
unfoldable pub over : {A : Type 0} → Files → Plan A → Plan A
over files (gives value) = gives value
over files (stops answer) = stops answer
over files (reads file next) = read_own file (held files file) (λ text. over files (next text))
over files (settles sources next) = settles sources (λ y. over files (next y))
