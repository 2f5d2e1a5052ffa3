-- Reading a configuration line by line.
use Rattle.std.specs.Prelude.{ℕ, ◌+◌, List, [], ◌∷◌, ◌++◌, Option, Some, None, Result, Ok, Err, if◌then◌else◌}
use Rattle.std.specs.Str.Lines.{lines}
use Rattle.tn_text.specs.declared.faults.Cause.{Cause}
use Rattle.tn_text.specs.declared.faults.Fault.{Fault}
use Rattle.tn_text.specs.declared.faults.FaultCode.TheVariants.{BadLine}
use Rattle.tn_text.specs.declared.faults.Lack.{Lack}
use Rattle.tn_text.specs.declared.faults.Lack.TheVariants as lack
use Rattle.tn_text.specs.Faults.{bare}
use Rattle.tn_text.specs.Reading.{result_then, line_tokens, read_lines}
use Rattle.tn_config.specs.declared.keywords.Keyword.{Keyword}
use Rattle.tn_config.specs.declared.statements.Setting.{Setting}
use Rattle.tn_config.specs.declared.statements.Setting.TheVariants as setting
use Rattle.tn_config.specs.declared.statements.Statement.{Statement}
use Rattle.tn_config.specs.declared.statements.Statement.TheVariants as statement
use Rattle.tn_config.specs.Keywords.{keyword_named}
use Rattle.tn_config.specs.Statements.{statement_said}
use Rattle.tn_config.specs.Configurations.{BlockState, ConfigState}
use Rattle.tn_config.specs.SoFar.{DraftState, ReaderState}
use Rattle.tn_config.specs.ConfigFaults.{may_stand, lacks}

-- a block of which only the first line is read
abbrev pub begun : ℕ → List ℕ → ℕ → DraftState
begun line name size =
    record {
      line = line;
      name = name;
      size = size;
      code = None;
      cells = None;
      workspace = None;
      entry = None;
      modules = [];
      libraries = [];
      args = [];
    }

-- one line of a block more
unfoldable pub set : DraftState → ℕ → Setting → DraftState
set d line (setting.Code address) = record d { code = Some (line, address) }
set d line (setting.Data address) = record d { cells = Some (line, address) }
set d line (setting.Workspace wptr below above) = record d { workspace = Some (line, wptr, below, above) }
set d line (setting.Module file) = record d { modules = d.modules ++ file ∷ [] }
set d line (setting.Library file) = record d { libraries = d.libraries ++ file ∷ [] }
set d line (setting.Entry label) = record d { entry = Some (line, label) }
set d line (setting.Arg word) = record d { args = d.args ++ word ∷ [] }

abbrev pub or_lack : {A B : Type 0} → Lack → Option A → (A → Result B Cause) → Result B Cause
or_lack what None f = Err (lacks what)
or_lack what (Some a) f = f a

abbrev pub nonempty : {A B : Type 0} → Lack → List A → Result B Cause → Result B Cause
nonempty what [] r = Err (lacks what)
nonempty what (x ∷ xs) r = r

-- the block that ends
unfoldable pub ended : DraftState → Result BlockState Cause
ended d =
    or_lack lack.Code d.code (λ code. or_lack lack.Data d.cells (λ cells. or_lack lack.Workspace d.workspace
    (λ workspace. or_lack lack.Entry d.entry (λ entry. nonempty lack.Module d.modules (Ok (record {
      name = d.name;
      size = d.size;
      code = code.1;
      cells = cells.1;
      wptr = workspace.1;
      below = workspace.2;
      above = workspace.3;
      modules = d.modules;
      libraries = d.libraries;
      entry = entry.1;
      args = d.args;
      lines = record {
        processor = d.line;
        code = code.0;
        cells = cells.0;
        workspace = workspace.0;
        entry = entry.0;
      };
    }))))))

abbrev pub set_in : ReaderState → Option DraftState → Setting → ReaderState
set_in s None x = s
set_in s (Some d) x = record s { draft = Some (set d s.lines x) }

abbrev pub end_in : ReaderState → Option DraftState → Result ReaderState Cause
end_in s None = Ok s
end_in s (Some d) = result_then (ended d) (λ b. Ok (record s { blocks = s.blocks ++ b ∷ []; draft = None }))

-- one statement more, on the last line so far
unfoldable pub take : ReaderState → Statement → Result ReaderState Cause
take s (statement.Processor name size) = Ok (record s { draft = Some (begun s.lines name size) })
take s (statement.Host name link) = Ok (record s { host = Some (record { name = name; link = link; line = s.lines }) })
take s (statement.Wire one l two m) =
    Ok (record s { wires = s.wires ++ record { one = one; one_link = l; two = two; two_link = m; line = s.lines } ∷ [] })
take s (statement.Set x) = Ok (set_in s s.draft x)
take s statement.End = end_in s s.draft

abbrev pub standing : ReaderState → Option Keyword → Result Keyword Cause
standing s None = Err (bare BadLine)
standing s (Some k) = if may_stand s k then Ok k else Err (bare BadLine)

-- the statement of the tokens of a line
unfoldable pub words_said : ReaderState → List ℕ → List (List ℕ) → Result Statement Cause
words_said s word arguments = result_then (standing s (keyword_named word)) (λ k. statement_said k arguments)

-- one line more
abbrev pub counted : ReaderState → ReaderState
counted s = record s { lines = s.lines + 1 }

abbrev pub take_words : ReaderState → List (List ℕ) → Result ReaderState Cause
take_words s [] = Ok s
take_words s (word ∷ arguments) = result_then (words_said s word arguments) (take s)

unfoldable pub config_line : ReaderState → List ℕ → Result ReaderState Cause
config_line s line = result_then (line_tokens line) (take_words (counted s))

-- the end of the text
abbrev pub unless_open : ReaderState → Option DraftState → Result ConfigState Cause
unless_open s None = Ok (record { blocks = s.blocks; host = s.host; wires = s.wires; lines = s.lines })
unless_open s (Some d) = Err (lacks lack.End)

unfoldable pub finish : ReaderState → Result ConfigState Cause
finish s = unless_open s s.draft

abbrev pub nothing_read : ReaderState
nothing_read = record { lines = 0; blocks = []; host = None; wires = []; draft = None }

-- what reading a text gives
abbrev pub config_read : List ℕ → Result ConfigState Fault
config_read text = read_lines config_line finish nothing_read 0 (lines text)
