-- A network as a walk: each step is the pick that is enabled and comes first, or last.
use Rattle.std.specs.Prelude.{Bool, Option, Some, None}
use Rattle.tn_network.specs.declared.picks.Pick.{Pick}
use Rattle.tn_network.specs.PickLists.{AtRest, first_pick}
use Rattle.tn_network.specs.Nets.{NetState, memory_ops, net_after}

-- no pick is enabled
abbrev pub NetAtRest : NetState → Type 0
NetAtRest n = AtRest memory_ops n.board.network n.holds n.board.state

-- the pick that is enabled and comes first, or with `back` last
abbrev pub net_first : Bool → NetState → Option Pick
net_first back n = first_pick memory_ops n.board.network n.holds back n.board.state

-- after a pick, if there is one
abbrev pub after_some : Option Pick → NetState → NetState
after_some None n = n
after_some (Some pick) n = net_after pick n

-- one step further
abbrev pub net_walked : Bool → NetState → NetState
net_walked back n = after_some (net_first back n) n
