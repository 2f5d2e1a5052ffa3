-- The first line of a text that is no line of a module text at its place.
use Rattle.std.specs.Prelude.{ℕ, Bool, true, false, ◌⊎◌, List, if◌then◌else◌, Result, Ok, Err}
use Rattle.tn_text.specs.declared.faults.Cause.{Cause}
use Rattle.tn_text.specs.declared.faults.Fault.{Fault}
use Rattle.tn_text.specs.declared.faults.FaultCode.TheVariants.{Missing}
use Rattle.tn_text.specs.declared.faults.Detail.TheVariants.{Lacks}
use Rattle.tn_text.specs.declared.faults.Lack.TheVariants.{End}
use Rattle.tn_text.specs.Reading.{result_then, IsFirstBadLine, IsLacking}
use Rattle.tn_modtext.specs.declared.forms.Section.{Section}
use Rattle.tn_modtext.specs.declared.forms.Section.TheVariants as section
use Rattle.tn_modtext.specs.Forms.{section_after}
use Rattle.tn_modtext.specs.Lines.{line_form}
use Rattle.tn_modtext.specs.Pieces.{pieces, strict_tokens}
use Rattle.tn_modtext.specs.LinesAt.{line_at}

-- the section behind a line, or what is wrong with the line in its section
abbrev pub section_said : Section → List (List ℕ) → Result Section Cause
section_said s words = result_then (line_at s words) (λ l. Ok (section_after (line_form l)))

unfoldable pub section_step : Section → List ℕ × Bool → Result Section Cause
section_step s piece = result_then (strict_tokens piece) (section_said s)

abbrev pub is_end : Section → Bool
is_end section.Head = false
is_end section.Name = false
is_end section.Imports = false
is_end section.Exports = false
is_end section.Items = false
is_end section.Cells = false
is_end section.End = true

-- a text that stops early
abbrev pub lacks_end : Cause
lacks_end = record { code = Missing; detail = Lacks End }

abbrev pub ends_at : Section → Result (Unit {0}) Cause
ends_at s = if is_end s then Ok tt else Err lacks_end

-- the fault is that of the first line that may not stand at its place, else a text that stops early
abbrev pub IsLineFault : List ℕ → Fault → Type 0
IsLineFault text fault =
    IsFirstBadLine section_step section.Head (pieces text) fault
    ⊎ IsLacking {A = Unit {0}} section_step ends_at section.Head (pieces text) fault
