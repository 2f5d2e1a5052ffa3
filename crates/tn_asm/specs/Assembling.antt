-- Assembling a source line by line.
use Rattle.std.specs.Prelude.{ℕ, ◌+◌, List, [], ◌∷◌, ◌++◌, Option, Some, None, Result, Ok, Err}
use Rattle.std.specs.Str.Lines.{lines}
use Rattle.tn_text.specs.declared.faults.Cause.{Cause}
use Rattle.tn_text.specs.declared.faults.Fault.{Fault}
use Rattle.tn_text.specs.declared.faults.FaultCode.TheVariants.{Missing}
use Rattle.tn_text.specs.declared.faults.Detail.TheVariants.{Lacks}
use Rattle.tn_text.specs.declared.faults.Lack.TheVariants as lack
use Rattle.tn_text.specs.Reading.{result_then, line_tokens, read_lines}
use Rattle.tn_module.specs.declared.modules.Import.{Import}
use Rattle.tn_module.specs.declared.modules.Item.{Item}
use Rattle.tn_module.specs.declared.modules.Cell.{Cell}
use Rattle.tn_module.specs.declared.faults.ModuleFault.{ModuleFault}
use Rattle.tn_module.specs.Modules.{Parts}
use Rattle.tn_modtext.specs.ModuleReading.{first_fault}
use Rattle.tn_asm.specs.declared.statements.Section.{Section}
use Rattle.tn_asm.specs.declared.statements.Section.TheVariants as section
use Rattle.tn_asm.specs.declared.statements.Statement.{Statement}
use Rattle.tn_asm.specs.declared.statements.Statement.TheVariants as statement
use Rattle.tn_asm.specs.Said.{words_said}
use Rattle.tn_asm.specs.Numbered.{LineNumbers, NumberedParts, fault_in}

-- what the lines so far have said, and the number of the last
pub record Gathered : Type 0 where
  pub line : ℕ
  pub section : Section
  pub name : Option (List ℕ)
  pub imports : List Import
  pub exports : List (List ℕ)
  pub items : List Item
  pub cells : List Cell
  pub lines : LineNumbers

abbrev pub no_lines : LineNumbers
no_lines = record { imports = []; exports = []; items = []; cells = [] }

abbrev pub nothing_gathered : Gathered
nothing_gathered =
    record { line = 0; section = section.Head; name = None; imports = []; exports = []; items = []; cells = []; lines = no_lines }

-- one statement of the line more
abbrev pub after : Gathered → Statement → Gathered
after g (statement.Module name) = record g { section = section.Code; name = Some name }
after g (statement.Import import) =
    record g { imports = g.imports ++ import ∷ []; lines = record g.lines { imports = g.lines.imports ++ g.line ∷ [] } }
after g (statement.Export name) =
    record g { exports = g.exports ++ name ∷ []; lines = record g.lines { exports = g.lines.exports ++ g.line ∷ [] } }
after g statement.Code = record g { section = section.Code }
after g statement.Data = record g { section = section.Data }
after g (statement.Item item) =
    record g { items = g.items ++ item ∷ []; lines = record g.lines { items = g.lines.items ++ g.line ∷ [] } }
after g (statement.Cell cell) =
    record g { cells = g.cells ++ cell ∷ []; lines = record g.lines { cells = g.lines.cells ++ g.line ∷ [] } }

abbrev pub with_all : Gathered → List Statement → Gathered
with_all g [] = g
with_all g (x ∷ xs) = with_all (after g x) xs

abbrev pub words_taken : Gathered → List (List ℕ) → Result Gathered Cause
words_taken g words = result_then (words_said g.section words) (λ xs. Ok (with_all g xs))

-- one line more
abbrev pub counted : Gathered → Gathered
counted g = record g { line = g.line + 1 }

unfoldable pub source_line : Gathered → List ℕ → Result Gathered Cause
source_line g line = result_then (line_tokens line) (words_taken (counted g))

-- the end of the text, where the module was named
abbrev pub lacks_module : Cause
lacks_module = record { code = Missing; detail = Lacks lack.Module }

abbrev pub named_parts : Gathered → List ℕ → NumberedParts
named_parts g name =
    record {
      parts = record { name = name; imports = g.imports; exports = g.exports; items = g.items; cells = g.cells };
      lines = g.lines;
    }

abbrev pub finished : Gathered → Option (List ℕ) → Result NumberedParts Cause
finished g None = Err lacks_module
finished g (Some name) = Ok (named_parts g name)

abbrev pub finish : Gathered → Result NumberedParts Cause
finish g = finished g g.name

-- what reading the lines of a text gives
abbrev pub source_read : List ℕ → Result NumberedParts Fault
source_read text = read_lines source_line finish nothing_gathered 0 (lines text)

-- the parts, where they are a module, else their first fault at its line
abbrev pub judged_by : NumberedParts → Option ModuleFault → Result Parts Fault
judged_by n None = Ok n.parts
judged_by n (Some fault) = Err (fault_in n.lines fault)

abbrev pub judged : NumberedParts → Result Parts Fault
judged n = judged_by n (first_fault n.parts)

-- what a text assembles to
unfoldable pub assembled : List ℕ → Result Parts Fault
assembled text = result_then (source_read text) judged
