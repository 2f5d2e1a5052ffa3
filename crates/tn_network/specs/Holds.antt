-- Held processors: until the release a processor that stands at its entry makes no step.
use Rattle.std.specs.Prelude.{ℕ, Bool, true, false, not, ◌&&◌, List, slice_index_or}
use Rattle.tn_net.specs.Networks.{NetworkState}
use Rattle.tn_network.specs.declared.picks.Pick.{Pick}
use Rattle.tn_network.specs.declared.picks.Pick.TheVariants.{HostSend, HostTake, Proc, Send, Take}
use Rattle.tn_network.specs.Boards.{BoardState, at_node}
use Rattle.tn_network.specs.NodeOps.{NodeOps}
use Rattle.tn_network.specs.Steps.{ready}

-- the entries by processor, and whether processors are still held there
pub record HoldState : Type 0 where
  pub entries : List ℕ
  pub held : Bool

abbrev pub entry_of : HoldState → ℕ → ℕ
entry_of holds p = slice_index_or holds.entries p 0

-- a processor is held
abbrev pub is_held : {N : Type 0} → NodeOps N → HoldState → List N → ℕ → Bool
is_held ops holds nodes p = holds.held && at_node false (ops.stands (entry_of holds p)) nodes p

-- a pick is enabled
abbrev pub enabled : {N : Type 0} → NodeOps N → NetworkState → HoldState → BoardState N → Pick → Bool
enabled ops network holds s HostSend = ready ops network s HostSend
enabled ops network holds s HostTake = ready ops network s HostTake
enabled ops network holds s (Proc p slice clock) = ready ops network s (Proc p slice clock) && not (is_held ops holds s.nodes p)
enabled ops network holds s (Send p l) = ready ops network s (Send p l)
enabled ops network holds s (Take p l) = ready ops network s (Take p l)
