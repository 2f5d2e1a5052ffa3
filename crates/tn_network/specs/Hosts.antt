-- The host: what it sends to the network, and what it keeps of what the network sends.
use Rattle.std.specs.Prelude.{ℕ, Bool, true, false, not, ◌&&◌, nat_lt, List, [], ◌∷◌, ◌++◌, length, Option, Some, None, is_some}
use Rattle.tn_network.specs.declared.hosts.TheConstants.{KEPT_LIMIT}

-- the bytes that it has not sent, whether the last that it sent is not acknowledged, its own latch, and
-- the bytes that it has kept
pub record HostState : Type 0 where
  pub left : List ℕ
  pub sent : Bool
  pub latch : Option ℕ
  pub kept : List ℕ

-- at first, with these bytes to send
abbrev pub new_host : List ℕ → HostState
new_host bytes = record { left = bytes; sent = false; latch = None; kept = [] }

-- the next byte that it sends, and those behind that
abbrev pub next_byte : List ℕ → Option ℕ
next_byte [] = None
next_byte (byte ∷ bytes) = Some byte

abbrev pub other_bytes : List ℕ → List ℕ
other_bytes [] = []
other_bytes (byte ∷ bytes) = bytes

-- what is kept with a byte more, if there is one
abbrev pub kept_with : Option ℕ → List ℕ → List ℕ
kept_with (Some byte) kept = kept ++ byte ∷ []
kept_with None kept = kept

-- it sends a byte where it has one left and none is unacknowledged
abbrev pub host_sends : HostState → Bool
host_sends h = is_some (next_byte h.left) && not h.sent

-- it takes a byte where its latch holds one and there is room to keep it
abbrev pub host_takes : HostState → Bool
host_takes h = is_some h.latch && nat_lt (length h.kept) KEPT_LIMIT
