-- The parts of a configuration, and when a text stands for one.
use Rattle.std.specs.Prelude.{◌≡◌, ◌≢◌, ⊤, ℕ, List, [], ◌∷◌, ◌++◌, map, length, Option, Some, None, All}
use Rattle.std.specs.List.{filter_map, flat_map}
use Rattle.std.specs.Option.{option_to_list}
use Rattle.std.specs.Str.Lines.{lines}
use Rattle.tn_config.specs.declared.configurations.HostLine.{HostLine}
use Rattle.tn_config.specs.declared.configurations.WireLine.{WireLine}
use Rattle.tn_config.specs.declared.statements.Setting.{Setting}
use Rattle.tn_config.specs.declared.statements.Setting.TheVariants as setting
use Rattle.tn_config.specs.declared.statements.Statement.{Statement}
use Rattle.tn_config.specs.declared.statements.Statement.TheVariants as statement
use Rattle.tn_config.specs.Configurations.{BlockState, ConfigState}
use Rattle.tn_config.specs.Statements.{LinesSay}

-- what a line of a block, with its number, says of one thing
abbrev pub code_in : ℕ × Setting → Option (ℕ × ℕ)
code_in (line, setting.Code address) = Some (line, address)
code_in (line, _) = None

abbrev pub cells_in : ℕ × Setting → Option (ℕ × ℕ)
cells_in (line, setting.Data address) = Some (line, address)
cells_in (line, _) = None

abbrev pub workspace_in : ℕ × Setting → Option (ℕ × ℕ × ℕ × ℕ)
workspace_in (line, setting.Workspace wptr below above) = Some (line, wptr, below, above)
workspace_in (line, _) = None

abbrev pub entry_in : ℕ × Setting → Option (ℕ × List ℕ)
entry_in (line, setting.Entry label) = Some (line, label)
entry_in (line, _) = None

abbrev pub module_in : ℕ × Setting → Option (List ℕ)
module_in (line, setting.Module file) = Some file
module_in (line, _) = None

abbrev pub library_in : ℕ × Setting → Option (List ℕ)
library_in (line, setting.Library file) = Some file
library_in (line, _) = None

abbrev pub arg_in : ℕ × Setting → Option ℕ
arg_in (line, setting.Arg word) = Some word
arg_in (line, _) = None

-- the lines between the first and the last of a block say this block: one of each, the modules,
-- one at least, the libraries and the arguments in their order
pub record IsBlock (body : List (ℕ × Setting)) (b : BlockState) : Type 0 where
  pub code : filter_map code_in body ≡ (b.lines.code, b.code) ∷ []
  pub cells : filter_map cells_in body ≡ (b.lines.cells, b.cells) ∷ []
  pub workspace : filter_map workspace_in body ≡ (b.lines.workspace, b.wptr, b.below, b.above) ∷ []
  pub entry : filter_map entry_in body ≡ (b.lines.entry, b.entry) ∷ []
  pub modules : filter_map module_in body ≡ b.modules
  pub some : b.modules ≢ []
  pub libraries : filter_map library_in body ≡ b.libraries
  pub args : filter_map arg_in body ≡ b.args

-- a part: a block with the lines between its first and its last, and the number of its last; a line
-- of the host; or a wire
pub data Part : Type 0 where
  ABlock : (b : BlockState) → (body : List (ℕ × Setting)) → (end_line : ℕ) → Part
  AHost : (h : HostLine) → Part
  AWire : (w : WireLine) → Part

abbrev pub inside : ℕ × Setting → ℕ × Statement
inside said = (said.0, statement.Set said.1)

-- the lines of a part, each with its number
abbrev pub part_lines : Part → List (ℕ × Statement)
part_lines (ABlock b body end_line) =
    (b.lines.processor, statement.Processor b.name b.size) ∷ (map inside body ++ (end_line, statement.End) ∷ [])
part_lines (AHost h) = (h.line, statement.Host h.name h.link) ∷ []
part_lines (AWire w) = (w.line, statement.Wire w.one w.one_link w.two w.two_link) ∷ []

-- the lines of a block say it
abbrev pub IsWhole : Part → Type 0
IsWhole (ABlock b body end_line) = IsBlock body b
IsWhole (AHost h) = ⊤
IsWhole (AWire w) = ⊤

abbrev pub block_in : Part → Option BlockState
block_in (ABlock b body end_line) = Some b
block_in (AHost h) = None
block_in (AWire w) = None

abbrev pub host_in : Part → Option HostLine
host_in (ABlock b body end_line) = None
host_in (AHost h) = Some h
host_in (AWire w) = None

abbrev pub wire_in : Part → Option WireLine
wire_in (ABlock b body end_line) = None
wire_in (AHost h) = None
wire_in (AWire w) = Some w

-- The text stands for the configuration: its lines, where they say anything, are those of parts, one
-- after the other; one of them at most is the host's.
pub record IsConfig (text : List ℕ) (c : ConfigState) : Type 0 where
  pub said : List (ℕ × Statement)
  pub parts : List Part
  pub say : LinesSay 0 (lines text) said
  pub are : said ≡ flat_map part_lines parts
  pub whole : All IsWhole parts
  pub blocks : filter_map block_in parts ≡ c.blocks
  pub host : filter_map host_in parts ≡ option_to_list c.host
  pub wires : filter_map wire_in parts ≡ c.wires
  pub count : length (lines text) ≡ c.lines
