-- The lines of a library text: its head, the lines of its modules, and its end.
use Rattle.std.specs.Prelude.{ℕ, Bool, false, ◌&&◌, List, [], ◌∷◌, Result, Ok, Err, codes, if◌then◌else◌}
use Rattle.std.specs.Str.{bytes_eq}
use Rattle.tn_text.specs.declared.faults.Cause.{Cause}
use Rattle.tn_text.specs.declared.faults.FaultCode.TheVariants.{BadLine}
use Rattle.tn_text.specs.Faults.{bare}
use Rattle.tn_text.specs.Reading.{result_then}
use Rattle.tn_modtext.specs.declared.forms.Section.{Section}
use Rattle.tn_modtext.specs.declared.forms.Section.TheVariants as section
use Rattle.tn_modtext.specs.declared.library_lines.LibrarySection.{LibrarySection}
use Rattle.tn_modtext.specs.declared.library_lines.LibrarySection.TheVariants as library
use Rattle.tn_modtext.specs.declared.library_lines.LibraryLine.{LibraryLine}
use Rattle.tn_modtext.specs.declared.library_lines.LibraryLine.TheVariants as line
use Rattle.tn_modtext.specs.Forms.{section_after}
use Rattle.tn_modtext.specs.Lines.{line_form}
use Rattle.tn_modtext.specs.LinesAt.{line_at}
use Rattle.tn_modtext.specs.LineFaults.{is_end}

-- whether tokens are the first line, `tlib 1`, and the last, `endlib`
abbrev pub is_head : List (List ℕ) → Bool
is_head [] = false
is_head (t ∷ []) = false
is_head (t ∷ u ∷ []) = bytes_eq t (codes "tlib") && bytes_eq u (codes "1")
is_head (t ∷ u ∷ v ∷ ts) = false

abbrev pub is_last : List (List ℕ) → Bool
is_last [] = false
is_last (t ∷ []) = bytes_eq t (codes "endlib")
is_last (t ∷ u ∷ ts) = false

-- the line of a module that tokens are in a section of it
abbrev pub module_line_at : Section → List (List ℕ) → Result LibraryLine Cause
module_line_at s words = result_then (line_at s words) (λ l. Ok (line.Module l))

-- the line that tokens are in a section of a library: between modules one may begin, or the library end
abbrev pub library_line_at : LibrarySection → List (List ℕ) → Result LibraryLine Cause
library_line_at library.Head words = if is_head words then Ok line.Head else Err (bare BadLine)
library_line_at library.Between words = if is_last words then Ok line.End else module_line_at section.Head words
library_line_at (library.Inside s) words = module_line_at s words
library_line_at library.End words = Err (bare BadLine)

-- the section behind a line
abbrev pub within : Section → LibrarySection
within s = if is_end s then library.Between else library.Inside s

abbrev pub library_section_after : LibraryLine → LibrarySection
library_section_after line.Head = library.Between
library_section_after (line.Module l) = within (section_after (line_form l))
library_section_after line.End = library.End
