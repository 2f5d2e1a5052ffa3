-- What the lines of a configuration have said so far.
use Rattle.std.specs.Prelude.{ℕ, ◌≤◌, List, [], ◌∷◌, ◌++◌, map, length, Option, Some, None, option_map}
use Rattle.std.specs.List.{filter_map}
use Rattle.tn_config.specs.declared.configurations.HostLine.{HostLine}
use Rattle.tn_config.specs.declared.configurations.WireLine.{WireLine}
use Rattle.tn_config.specs.declared.statements.Setting.{Setting}
use Rattle.tn_config.specs.declared.statements.Statement.{Statement}
use Rattle.tn_config.specs.declared.statements.Statement.TheVariants as statement
use Rattle.tn_config.specs.Configurations.{BlockState}
use Rattle.tn_config.specs.Parts.{Part, code_in, cells_in, workspace_in, entry_in, module_in, library_in, arg_in}
use Rattle.tn_config.specs.Parts.{inside, block_in, host_in, wire_in}

-- what has been said of a block that is not ended: each with its line
pub record DraftState : Type 0 where
  pub line : ℕ
  pub name : List ℕ
  pub size : ℕ
  pub code : Option (ℕ × ℕ)
  pub cells : Option (ℕ × ℕ)
  pub workspace : Option (ℕ × ℕ × ℕ × ℕ)
  pub entry : Option (ℕ × List ℕ)
  pub modules : List (List ℕ)
  pub libraries : List (List ℕ)
  pub args : List ℕ

-- what has been said, and on how many lines
pub record ReaderState : Type 0 where
  pub lines : ℕ
  pub blocks : List BlockState
  pub host : Option HostLine
  pub wires : List WireLine
  pub draft : Option DraftState

-- a block that is not ended: its first line, and the lines behind
pub record Opened : Type 0 where
  pub line : ℕ
  pub name : List ℕ
  pub size : ℕ
  pub body : List (ℕ × Setting)

abbrev pub opened_lines : Option Opened → List (ℕ × Statement)
opened_lines None = []
opened_lines (Some o) = (o.line, statement.Processor o.name o.size) ∷ map inside o.body

-- the newer of two, where there is one
abbrev pub newer : {A : Type 0} → Option A → Option A → Option A
newer old None = old
newer old (Some x) = Some x

-- the last of a list, where there is one
abbrev pub latest : {A : Type 0} → List A → Option A
latest [] = None
latest (x ∷ xs) = newer (Some x) (latest xs)

-- a list, and one more where there is one
abbrev pub append_option : {A : Type 0} → List A → Option A → List A
append_option xs None = xs
append_option xs (Some x) = xs ++ x ∷ []

-- what the lines of a block have said
abbrev pub draft_so_far : Opened → DraftState
draft_so_far o =
    record {
      line = o.line;
      name = o.name;
      size = o.size;
      code = latest (filter_map code_in o.body);
      cells = latest (filter_map cells_in o.body);
      workspace = latest (filter_map workspace_in o.body);
      entry = latest (filter_map entry_in o.body);
      modules = filter_map module_in o.body;
      libraries = filter_map library_in o.body;
      args = filter_map arg_in o.body;
    }

-- what so many lines have said, which are those of parts and of a block that is not ended
abbrev pub so_far : ℕ → List Part → Option Opened → ReaderState
so_far n parts opened =
    record {
      lines = n;
      blocks = filter_map block_in parts;
      host = latest (filter_map host_in parts);
      wires = filter_map wire_in parts;
      draft = option_map draft_so_far opened;
    }

-- one at most of the lines says each of these
pub record SaysOnce (body : List (ℕ × Setting)) : Type 0 where
  pub code : length (filter_map code_in body) ≤ 1
  pub cells : length (filter_map cells_in body) ≤ 1
  pub workspace : length (filter_map workspace_in body) ≤ 1
  pub entry : length (filter_map entry_in body) ≤ 1
