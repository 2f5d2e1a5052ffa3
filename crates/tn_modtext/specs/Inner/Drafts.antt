-- Reading a module text line by line: what was read so far, and where the next line stands.
use Rattle.std.specs.Prelude.{ℕ, Bool, true, false, List, [], ◌∷◌, ◌++◌, Option, Some, None, Result, Ok, Err}
use Rattle.tn_text.specs.declared.faults.Cause.{Cause}
use Rattle.tn_text.specs.declared.faults.Fault.{Fault}
use Rattle.tn_text.specs.Reading.{result_then, read_lines}
use Rattle.tn_module.specs.declared.modules.Import.{Import}
use Rattle.tn_module.specs.declared.modules.Item.{Item}
use Rattle.tn_module.specs.declared.modules.Cell.{Cell}
use Rattle.tn_module.specs.Modules.{Parts}
use Rattle.tn_modtext.specs.declared.forms.Section.{Section}
use Rattle.tn_modtext.specs.declared.forms.Section.TheVariants as section
use Rattle.tn_modtext.specs.declared.drafts.Draft.{Draft}
use Rattle.tn_modtext.specs.declared.lines.Line.{Line}
use Rattle.tn_modtext.specs.declared.lines.Line.TheVariants as line
use Rattle.tn_modtext.specs.Forms.{section_after}
use Rattle.tn_modtext.specs.Lines.{line_form}
use Rattle.tn_modtext.specs.Pieces.{pieces, strict_tokens}
use Rattle.tn_modtext.specs.LinesAt.{line_at}
use Rattle.tn_modtext.specs.LineFaults.{is_end, lacks_end}

pub record Drawn : Type 0 where
  pub section : Section
  pub name : Option (List ℕ)
  pub imports : List Import
  pub exports : List (List ℕ)
  pub items : List Item
  pub cells : List Cell

-- the draft as the code holds it
abbrev pub drawn : Draft → Drawn
drawn d =
    record {
      section = d.section;
      name = d.name;
      imports = d.imports.items;
      exports = d.exports.items;
      items = d.items.items;
      cells = d.cells.items;
    }

-- nothing was read
abbrev pub blank : Drawn
blank = record { section = section.Head; name = None; imports = []; exports = []; items = []; cells = [] }

-- the draft with what a line says
abbrev pub with_line : Drawn → Line → Drawn
with_line d line.Head = d
with_line d (line.Name name) = record d { name = Some name }
with_line d (line.Import import) = record d { imports = d.imports ++ import ∷ [] }
with_line d (line.Export name) = record d { exports = d.exports ++ name ∷ [] }
with_line d line.Code = d
with_line d (line.Item item) = record d { items = d.items ++ item ∷ [] }
with_line d line.Data = d
with_line d (line.Cell cell) = record d { cells = d.cells ++ cell ∷ [] }
with_line d line.End = d

abbrev pub after : Drawn → Line → Drawn
after d l = record (with_line d l) { section = section_after (line_form l) }

-- the module, where the last line was read
abbrev pub parts_with : Drawn → List ℕ → Parts
parts_with d name = record { name = name; imports = d.imports; exports = d.exports; items = d.items; cells = d.cells }

abbrev pub whole_named : Drawn → Option (List ℕ) → Bool → Result Parts Cause
whole_named d None end = Err lacks_end
whole_named d (Some name) false = Err lacks_end
whole_named d (Some name) true = Ok (parts_with d name)

abbrev pub whole : Drawn → Result Parts Cause
whole d = whole_named d d.name (is_end d.section)

-- the step over a line, and what reading a text gives
abbrev pub draft_said : Drawn → List (List ℕ) → Result Drawn Cause
draft_said d words = result_then (line_at d.section words) (λ l. Ok (after d l))

abbrev pub draft_step : Drawn → List ℕ × Bool → Result Drawn Cause
draft_step d piece = result_then (strict_tokens piece) (draft_said d)

abbrev pub parts_read : List ℕ → Result Parts Fault
parts_read text = read_lines draft_step whole blank 0 (pieces text)
