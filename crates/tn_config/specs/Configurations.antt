-- Configurations, as contracts see them.
use Rattle.std.specs.Prelude.{ℕ, ◌+◌, List, map, length, Option}
use Rattle.std.specs.List.{flat_map}
use Rattle.tn_config.specs.declared.configurations.Block.{Block}
use Rattle.tn_config.specs.declared.configurations.BlockLines.{BlockLines}
use Rattle.tn_config.specs.declared.configurations.HostLine.{HostLine}
use Rattle.tn_config.specs.declared.configurations.WireLine.{WireLine}
use Rattle.tn_config.specs.declared.configurations.Config.{Config}

-- a block, with lists for its vectors
pub record BlockState : Type 0 where
  pub name : List ℕ
  pub size : ℕ
  pub code : ℕ
  pub cells : ℕ
  pub wptr : ℕ
  pub below : ℕ
  pub above : ℕ
  pub modules : List (List ℕ)
  pub libraries : List (List ℕ)
  pub entry : List ℕ
  pub args : List ℕ
  pub lines : BlockLines

-- a configuration, with lists for its vectors
pub record ConfigState : Type 0 where
  pub blocks : List BlockState
  pub host : Option HostLine
  pub wires : List WireLine
  pub lines : ℕ

abbrev pub block_of : Block → BlockState
block_of b =
    record {
      name = b.name;
      size = b.size;
      code = b.code;
      cells = b.cells;
      wptr = b.wptr;
      below = b.below;
      above = b.above;
      modules = b.modules.items;
      libraries = b.libraries.items;
      entry = b.entry;
      args = b.args.items;
      lines = b.lines;
    }

abbrev pub config_of : Config → ConfigState
config_of c = record { blocks = map block_of c.blocks.items; host = c.host; wires = c.wires.items; lines = c.lines }

-- how many lines name files of modules and of libraries
abbrev pub file_lines : ConfigState → ℕ
file_lines c = length (flat_map (λ b. b.modules) c.blocks) + length (flat_map (λ b. b.libraries) c.blocks)
