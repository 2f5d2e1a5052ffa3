-- The first line of a text that is no line of a library text at its place.
use Rattle.std.specs.Prelude.{ℕ, Bool, ◌⊎◌, List, Result, Ok, Err}
use Rattle.tn_text.specs.declared.faults.Cause.{Cause}
use Rattle.tn_text.specs.declared.faults.Fault.{Fault}
use Rattle.tn_text.specs.declared.faults.FaultCode.TheVariants.{Missing}
use Rattle.tn_text.specs.declared.faults.Detail.TheVariants.{Lacks}
use Rattle.tn_text.specs.declared.faults.Lack.TheVariants.{Endlib}
use Rattle.tn_text.specs.Reading.{result_then, IsFirstBadLine, IsLacking}
use Rattle.tn_modtext.specs.declared.library_lines.LibrarySection.{LibrarySection}
use Rattle.tn_modtext.specs.declared.library_lines.LibrarySection.TheVariants as library
use Rattle.tn_modtext.specs.Pieces.{pieces, strict_tokens}
use Rattle.tn_modtext.specs.LineFaults.{lacks_end}
use Rattle.tn_modtext.specs.LibraryLines.{library_line_at, library_section_after}

-- the section behind a line, or what is wrong with the line in its section
abbrev pub library_section_said : LibrarySection → List (List ℕ) → Result LibrarySection Cause
library_section_said s words = result_then (library_line_at s words) (λ l. Ok (library_section_after l))

unfoldable pub library_section_step : LibrarySection → List ℕ × Bool → Result LibrarySection Cause
library_section_step s piece = result_then (strict_tokens piece) (library_section_said s)

-- a text that stops early: a module lacks its end, else the library lacks its own
abbrev pub lacks_endlib : Cause
lacks_endlib = record { code = Missing; detail = Lacks Endlib }

abbrev pub library_ends_at : LibrarySection → Result (Unit {0}) Cause
library_ends_at library.Head = Err lacks_endlib
library_ends_at library.Between = Err lacks_endlib
library_ends_at (library.Inside s) = Err lacks_end
library_ends_at library.End = Ok tt

-- the fault is that of the first line that may not stand at its place, else a text that stops early
abbrev pub IsLibraryLineFault : List ℕ → Fault → Type 0
IsLibraryLineFault text fault =
    IsFirstBadLine library_section_step library.Head (pieces text) fault
    ⊎ IsLacking {A = Unit {0}} library_section_step library_ends_at library.Head (pieces text) fault
