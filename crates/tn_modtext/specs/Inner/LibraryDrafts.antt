-- Reading a library text line by line: what was read so far, and where the next line stands.
use Rattle.std.specs.Prelude.{ℕ, Bool, true, false, List, [], ◌∷◌, ◌++◌, map, Result, Ok, Err}
use Rattle.tn_text.specs.declared.faults.Cause.{Cause}
use Rattle.tn_text.specs.declared.faults.Fault.{Fault}
use Rattle.tn_text.specs.Reading.{result_then, read_lines}
use Rattle.tn_module.specs.Modules.{Parts, module_of}
use Rattle.tn_modtext.specs.declared.library_lines.LibrarySection.{LibrarySection}
use Rattle.tn_modtext.specs.declared.library_lines.LibrarySection.TheVariants as library
use Rattle.tn_modtext.specs.declared.library_lines.LibraryLine.{LibraryLine}
use Rattle.tn_modtext.specs.declared.library_lines.LibraryLine.TheVariants as line
use Rattle.tn_modtext.specs.declared.library_drafts.LibraryDraft.{LibraryDraft}
use Rattle.tn_modtext.specs.Forms.{section_after}
use Rattle.tn_modtext.specs.Lines.{line_form}
use Rattle.tn_modtext.specs.Pieces.{pieces, strict_tokens}
use Rattle.tn_modtext.specs.LineFaults.{is_end}
use Rattle.tn_modtext.specs.LibraryLines.{library_line_at}
use Rattle.tn_modtext.specs.LibraryFaults.{library_ends_at}
use Rattle.tn_modtext.specs.Inner.Drafts.{Drawn, drawn, blank, after, whole}

pub record DrawnLibrary : Type 0 where
  pub section : LibrarySection
  pub modules : List Parts
  pub draft : Drawn

-- the draft as the code holds it
abbrev pub drawn_library : LibraryDraft → DrawnLibrary
drawn_library d = record { section = d.section; modules = map module_of d.modules.items; draft = drawn d.draft }

-- nothing was read
abbrev pub blank_library : DrawnLibrary
blank_library = record { section = library.Head; modules = []; draft = blank }

-- the module that was read, if it is whole
abbrev pub read_whole : Result Parts Cause → List Parts
read_whole (Ok m) = m ∷ []
read_whole (Err cause) = []

-- the library with a module's draft, which its last line ends
abbrev pub with_draft : DrawnLibrary → Drawn → Bool → DrawnLibrary
with_draft d e true = record { section = library.Between; modules = d.modules ++ read_whole (whole e); draft = blank }
with_draft d e false = record { section = library.Inside e.section; modules = d.modules; draft = e }

-- the draft with what a line says
abbrev pub after_library_line : DrawnLibrary → LibraryLine → DrawnLibrary
after_library_line d line.Head = record d { section = library.Between }
after_library_line d (line.Module l) = with_draft d (after d.draft l) (is_end (section_after (line_form l)))
after_library_line d line.End = record d { section = library.End }

-- the modules, where the last line was read
abbrev pub whole_library : DrawnLibrary → Result (List Parts) Cause
whole_library d = result_then (library_ends_at d.section) (λ _. Ok d.modules)

-- the step over a line, and what reading a text gives
abbrev pub library_said : DrawnLibrary → List (List ℕ) → Result DrawnLibrary Cause
library_said d words = result_then (library_line_at d.section words) (λ l. Ok (after_library_line d l))

abbrev pub library_step : DrawnLibrary → List ℕ × Bool → Result DrawnLibrary Cause
library_step d piece = result_then (strict_tokens piece) (library_said d)

abbrev pub library_read : List ℕ → Result (List Parts) Fault
library_read text = read_lines library_step whole_library blank_library 0 (pieces text)
