-- The commands of the secondary loader.
use Rattle.std.specs.Prelude.{ℕ, List, ◌++◌}
use Rattle.tn_word.specs.Words.{bytes_of_word}

-- a command: its operation and its two arguments, each a word
unfoldable pub command_bytes : ℕ → ℕ → ℕ → List ℕ
command_bytes op x n = bytes_of_word op ++ bytes_of_word x ++ bytes_of_word n

-- LOAD: so many bytes follow, which go to an address
abbrev pub load_command : ℕ → ℕ → List ℕ
load_command address size = command_bytes 0 address size

-- FORWARD: so many bytes follow, which are sent on a channel
abbrev pub forward_command : ℕ → ℕ → List ℕ
forward_command channel size = command_bytes 1 channel size

-- RUN: the program at an entry begins with a workspace pointer
abbrev pub run_command : ℕ → ℕ → List ℕ
run_command entry workspace = command_bytes 2 entry workspace

-- NOP: nothing happens
abbrev pub nop_command : List ℕ
nop_command = command_bytes 3 0 0
