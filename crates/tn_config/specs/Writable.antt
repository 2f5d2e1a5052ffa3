-- Which configurations texts stand for, and which text stands for which of them, whatever the
-- numbers of the lines.
use Rattle.std.specs.Prelude.{◌≡◌, ◌≢◌, ◌<◌, ◌^◌, ℕ, Bool, ◌&&◌, ◌==◌, not, nat_le, true, List, [], map, Some, option_map, Ok, All}
use Rattle.std.specs.List.{list_all}
use Rattle.tn_text.specs.Names.{is_name}
use Rattle.tn_text.specs.FileNames.{is_file_name}
use Rattle.tn_config.specs.declared.configurations.HostLine.{HostLine}
use Rattle.tn_config.specs.declared.configurations.WireLine.{WireLine}
use Rattle.tn_config.specs.Places.{is_size, is_address, is_count, is_link}
use Rattle.tn_config.specs.Configurations.{BlockState, ConfigState}
use Rattle.tn_config.specs.ConfigReading.{config_read}

-- a byte of a token: a graphic character but the one that begins a comment
abbrev pub is_token_byte : ℕ → Bool
is_token_byte c = nat_le 33 c && (nat_le c 126 && not (c == 59))

-- the name of a file that is one token
abbrev pub is_file_token : List ℕ → Bool
is_file_token name = is_file_name name && list_all is_token_byte name

-- the numbers of a block lie in their ranges, it has a module, and the names of its files are tokens
pub record IsWritableBlock (b : BlockState) : Type 0 where
  pub name : is_name b.name ≡ true
  pub size : is_size b.size ≡ true
  pub code : is_address b.code ≡ true
  pub cells : is_address b.cells ≡ true
  pub wptr : is_address b.wptr ≡ true
  pub below : is_count b.below ≡ true
  pub above : is_count b.above ≡ true
  pub some : b.modules ≢ []
  pub modules : All (λ file. is_file_token file ≡ true) b.modules
  pub libraries : All (λ file. is_file_token file ≡ true) b.libraries
  pub entry : is_name b.entry ≡ true
  pub args : All (λ word. word < 2 ^ 32) b.args

abbrev pub IsWritableHost : HostLine → Type 0
IsWritableHost h = (is_name h.name ≡ true) × (is_link h.link ≡ true)

abbrev pub IsWritableWire : WireLine → Type 0
IsWritableWire w = (is_name w.one ≡ true) × (is_link w.one_link ≡ true) × (is_name w.two ≡ true) × (is_link w.two_link ≡ true)

-- some text stands for the configuration, but for the numbers of its lines
pub record IsWritable (c : ConfigState) : Type 0 where
  pub blocks : All IsWritableBlock c.blocks
  pub host : (h : HostLine) → c.host ≡ Some h → IsWritableHost h
  pub wires : All IsWritableWire c.wires

-- a configuration without the numbers of its lines
abbrev pub unnumbered_block : BlockState → BlockState
unnumbered_block b = record b { lines = record { processor = 0; code = 0; cells = 0; workspace = 0; entry = 0 } }

abbrev pub unnumbered_host : HostLine → HostLine
unnumbered_host h = record h { line = 0 }

abbrev pub unnumbered_wire : WireLine → WireLine
unnumbered_wire w = record w { line = 0 }

abbrev pub unnumbered : ConfigState → ConfigState
unnumbered c =
    record {
      blocks = map unnumbered_block c.blocks;
      host = option_map unnumbered_host c.host;
      wires = map unnumbered_wire c.wires;
      lines = 0;
    }

-- reading the text gives the configuration, but for the numbers of its lines
abbrev pub IsReadBack : List ℕ → ConfigState → Type 0
IsReadBack text c = (d : ConfigState) × (config_read text ≡ Ok d) × (unnumbered d ≡ unnumbered c)
