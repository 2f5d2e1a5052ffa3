-- The network of a system after power-up, and how it settles.
use Rattle.std.specs.Prelude.{ℕ, Bool, false, List, map, length, replicate, is_none}
use Rattle.tn_network.specs.declared.picks.Pick.{Pick}
use Rattle.tn_network.specs.Nets.{NetState}
use Rattle.tn_network.specs.Resets.{PowerState}
use Rattle.tn_load.specs.Boots.{begun, state_behind}
use Rattle.tn_load.specs.NetWalks.{net_first}
use Rattle.tn_load.specs.SettledNets.{net_settled}
use Rattle.tn_system.specs.Systems.{SystemState}
use Rattle.tn_top.specs.declared.started_nets.TheConstants.{SETTLE_LIMIT}
use Rattle.tn_top.specs.SystemPlans.{system_stream}

-- a memory of so many bytes, each of which is this one; and Error and HaltOnError
abbrev pub filled : ℕ × Bool × Bool → ℕ → PowerState
filled fill size = record { bytes = replicate size fill.0; error = fill.1; halt = fill.2 }

abbrev pub filled_powers : ℕ × Bool × Bool → List ℕ → List PowerState
filled_powers fill sizes = map (filled fill) sizes

-- the network of a system after power-up, whose processors will be held at their entries, and whose host
-- has the stream to send
abbrev pub system_net : ℕ × Bool × Bool → SystemState → NetState
system_net fill y = begun y.network y.images (filled_powers fill y.network.sizes) (system_stream y)

-- the picks that settle a network: each is the first that is enabled, and they are so many at most
abbrev pub settling : NetState → List Pick
settling n = net_settled false SETTLE_LIMIT n

-- the network behind them
abbrev pub settled_net : NetState → NetState
settled_net n = record n { board = record n.board { state = state_behind n (settling n) } }

-- how many they are, and whether the network is at rest behind them
abbrev pub outcome : NetState → ℕ × Bool
outcome n = (length (settling n), is_none (net_first false (settled_net n)))
