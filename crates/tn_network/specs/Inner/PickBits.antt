-- The picks that are enabled as bits of words.
use Rattle.std.specs.Prelude.{◌≡◌, ℕ, ◌+◌, ◌-◌, ◌*◌, ◌/◌, ◌%◌, ◌<◌, ◌≤◌, ◌==◌, nat_lt, nat_le, Bool, true, false, not, ◌&&◌, ◌||◌}
use Rattle.std.specs.Prelude.{List, length, is_some, None}
use Rattle.std.specs.Prelude.{◌^◌, bit_and, bit_or, slice_index, Option, Some, if◌then◌else◌}
use Rattle.std.specs.Int.{w64, bit_at, bit_not}
use Rattle.tn_net.specs.declared.networks.Far.{Far}
use Rattle.tn_net.specs.declared.networks.Far.TheVariants.{Nothing, Host, Link}
use Rattle.tn_network.specs.declared.picks.Pick.{Pick}
use Rattle.tn_network.specs.declared.picks.Pick.TheVariants.{HostSend, HostTake, Proc, Send, Take}
use Rattle.tn_net.specs.Networks.{IsPairing, far_at}
use Rattle.tn_network.specs.Boards.{at_node, latch_at}
use Rattle.tn_network.specs.Steps.{offered, is_wired}
use Rattle.tn_network.specs.Holds.{is_held}
use Rattle.tn_network.specs.Nets.{NetState, memory_ops, net_enabled}

-- bit k of words of 64 bits
unfoldable pub has_bit : List ℕ → ℕ → Bool
has_bit words k = bit_at (slice_index words (k / 64)) (k % 64) == 1

-- a word with a bit set, or cleared
abbrev pub with_bit : ℕ → ℕ → Bool → ℕ
with_bit word k true = bit_or word (1 * 2 ^ k % 2 ^ 64)
with_bit word k false = bit_and word (bit_not w64 (1 * 2 ^ k % 2 ^ 64))

-- the picks of a processor by their numbers in order, 0 to 8
abbrev pub pick_of : ℕ → ℕ → Pick
pick_of p kind = if kind == 0 then Proc p false 0 else (if nat_lt kind 5 then Send p (kind - 1) else Take p (kind - 5))

-- the picks by their numbers in order
unfoldable pub numbered : ℕ → Pick
numbered k = if k == 0 then HostSend else (if k == 1 then HostTake else pick_of ((k - 2) / 9) ((k - 2) % 9))

-- the number of the first pick of a processor; whether a number is that of one of its picks, of a pick of
-- the host, or of one of those at a far end
abbrev pub first_number : ℕ → ℕ
first_number p = 2 + 9 * p

abbrev pub is_below : ℕ → ℕ → ℕ → Bool
is_below p kind k = nat_le (first_number p) k && nat_lt k (first_number p + kind)

abbrev pub is_of : ℕ → ℕ → Bool
is_of p k = is_below p 9 k

abbrev pub is_host : ℕ → Bool
is_host k = nat_lt k 2

abbrev pub is_at : Far → ℕ → Bool
is_at Nothing k = false
is_at Host k = false
is_at (Link q m) k = is_of q k

-- that of a pick of the processor, of the far end or of the host
abbrev pub is_touched : ℕ → Far → ℕ → Bool
is_touched p far k = is_host k || (is_of p k || is_at far k)

-- whether the pick of a processor with a number from 0 to 8 is enabled, as its node tells it
abbrev pub kind_enabled : NetState → ℕ → ℕ → Bool
kind_enabled n p kind =
    if kind == 0
    then at_node false memory_ops.runs n.board.state.nodes p && not (is_held memory_ops n.holds n.board.state.nodes p)
    else
    (if nat_lt kind 5
    then is_some (offered memory_ops n.board.state.nodes p (kind - 1)) && is_wired (far_at n.board.network p (kind - 1))
    else at_node false (memory_ops.wants (kind - 5)) n.board.state.nodes p && is_some (latch_at n.board.state.latches p (kind - 5)))

-- the number of a pick, if there is such a pick in a network of so many processors; other timeslices and
-- clocks have the number of the one in order
abbrev pub number_of : ℕ → Pick → Option ℕ
number_of count HostSend = Some 0
number_of count HostTake = Some 1
number_of count (Proc p slice clock) = if nat_lt p count then Some (first_number p) else None
number_of count (Send p l) = if nat_lt p count && nat_lt l 4 then Some (first_number p + (1 + l)) else None
number_of count (Take p l) = if nat_lt p count && nat_lt l 4 then Some (first_number p + (5 + l)) else None

-- the clock of a pick is a word
abbrev pub HasWord : Pick → Type 0
HasWord HostSend = Unit {0}
HasWord HostTake = Unit {0}
HasWord (Proc p slice clock) = clock < 2 ^ 32
HasWord (Send p l) = Unit {0}
HasWord (Take p l) = Unit {0}

-- there is a bit for each pick of so many processors
abbrev pub HasRoom : ℕ → List ℕ → Type 0
HasRoom count words = first_number count ≤ 64 * length words

-- each bit tells whether its pick is enabled
abbrev pub TellPicks : List ℕ → NetState → Type 0
TellPicks words n = (k : ℕ) → k < 64 * length words → has_bit words k ≡ net_enabled n (numbered k)

-- those bits tell whose numbers pass a test, and the others are as before
abbrev pub IsRenewed : (ℕ → Bool) → NetState → List ℕ → List ℕ → Type 0
IsRenewed test n old new =
    (k : ℕ) → k < 64 * length old → has_bit new k ≡ (if test k then net_enabled n (numbered k) else has_bit old k)

-- the processor at a far end is one of so many
abbrev pub IsAmong : ℕ → Far → Type 0
IsAmong count Nothing = Unit {0}
IsAmong count Host = Unit {0}
IsAmong count (Link q m) = q < count

-- ---- the first and the last bit

abbrev pub NoBit : List ℕ → Type 0
NoBit words = (k : ℕ) → k < 64 * length words → has_bit words k ≡ false

pub record IsFirstBit (words : List ℕ) (k : ℕ) : Type 0 where
  pub within : k < 64 * length words
  pub here : has_bit words k ≡ true
  pub before : (j : ℕ) → j < k → has_bit words j ≡ false

pub record IsLastBit (words : List ℕ) (k : ℕ) : Type 0 where
  pub within : k < 64 * length words
  pub here : has_bit words k ≡ true
  pub behind : (j : ℕ) → k < j → j < 64 * length words → has_bit words j ≡ false

abbrev pub IsEdgeBit : Bool → List ℕ → ℕ → Type 0
IsEdgeBit true words k = IsLastBit words k
IsEdgeBit false words k = IsFirstBit words k

-- What holds of each network: an entry for each processor, and bits that tell of each pick.
pub record IsNet (words : List ℕ) (n : NetState) : Type 0 where
  pub entries : length n.holds.entries ≡ length n.board.state.nodes
  pub room : HasRoom (length n.board.state.nodes) words
  pub few : length words < 2 ^ 16
  pub pairing : IsPairing n.board.network
  pub tell : TellPicks words n
