-- Picks: when each is enabled where no processor is held, and what it does.
use Rattle.std.specs.Prelude.{ℕ, ◌+◌, ◌*◌, ◌^◌, Bool, true, false, ◌&&◌, nat_lt, List, Option, Some, None, is_some, unwrap_or, slice_set}
use Rattle.tn_net.specs.declared.networks.Far.{Far}
use Rattle.tn_net.specs.declared.networks.Far.TheVariants.{Nothing, Host, Link}
use Rattle.tn_net.specs.Networks.{NetworkState, far_at}
use Rattle.tn_node.specs.declared.modes.Made.{Made}
use Rattle.tn_node.specs.declared.modes.Made.TheVariants as made
use Rattle.tn_network.specs.declared.picks.Pick.{Pick}
use Rattle.tn_network.specs.declared.picks.Pick.TheVariants.{HostSend, HostTake, Proc, Send, Take}
use Rattle.tn_network.specs.Hosts.{HostState, next_byte, other_bytes, kept_with, host_sends, host_takes}
use Rattle.tn_network.specs.Boards.{BoardState, WiredBoard, at_node, changed, latch_at}
use Rattle.tn_network.specs.NodeOps.{NodeOps}

-- whether a wire leads to a far end
abbrev pub is_wired : Far → Bool
is_wired Nothing = false
is_wired Host = true
is_wired (Link q m) = true

-- the byte that processor p offers on link l
abbrev pub offered : {N : Type 0} → NodeOps N → List N → ℕ → ℕ → Option ℕ
offered ops nodes p l = at_node None (ops.offers l) nodes p

-- A pick is enabled, no processor being held. The host sends where it has a byte left and none is
-- unacknowledged, and takes where its latch holds a byte and there is room. A processor steps where it
-- runs; a clock is a word. It sends on a link that is wired where it offers a byte there, and takes where
-- the latch holds a byte and it wants one of that link.
abbrev pub ready : {N : Type 0} → NodeOps N → NetworkState → BoardState N → Pick → Bool
ready ops network s HostSend = host_sends s.host
ready ops network s HostTake = host_takes s.host
ready ops network s (Proc p slice clock) = nat_lt clock (2 ^ 32) && at_node false ops.runs s.nodes p
ready ops network s (Send p l) = nat_lt l 4 && (is_some (offered ops s.nodes p l) && is_wired (far_at network p l))
ready ops network s (Take p l) = nat_lt l 4 && (at_node false (ops.wants l) s.nodes p && is_some (latch_at s.latches p l))

-- ---- what a pick does

-- the latches after a byte went to a far end
abbrev pub latched : Far → Option ℕ → List (Option ℕ) → List (Option ℕ)
latched Nothing byte latches = latches
latched Host byte latches = latches
latched (Link q m) byte latches = slice_set latches (4 * q + m) byte

abbrev pub host_latched : Far → Option ℕ → HostState → HostState
host_latched Nothing byte h = h
host_latched Host byte h = record h { latch = byte }
host_latched (Link q m) byte h = h

-- the sender at a far end after the acknowledge of its byte
abbrev pub nodes_acknowledged : {N : Type 0} → NodeOps N → Far → List N → List N
nodes_acknowledged ops Nothing nodes = nodes
nodes_acknowledged ops Host nodes = nodes
nodes_acknowledged ops (Link q m) nodes = changed (ops.acknowledge m) nodes q

abbrev pub host_acknowledged : Far → HostState → HostState
host_acknowledged Nothing h = h
host_acknowledged Host h = record h { sent = false }
host_acknowledged (Link q m) h = h

-- The board after a pick. A byte that is sent goes into the latch at the other end of the wire, and is
-- unacknowledged. A byte that is taken leaves its latch empty, and the sender's is acknowledged: the
-- receiver acts first, and then the sender.
abbrev pub step : {N : Type 0} → NodeOps N → NetworkState → Pick → BoardState N → BoardState N
step ops network HostSend s =
    record s {
      latches = slice_set s.latches (4 * network.root + network.root_link) (next_byte s.host.left);
      host = record s.host { left = other_bytes s.host.left; sent = true };
    }
step ops network HostTake s =
    record s {
      nodes = changed (ops.acknowledge network.root_link) s.nodes network.root;
      host = record s.host { latch = None; kept = kept_with s.host.latch s.host.kept };
    }
step ops network (Proc p slice clock) s = record s { nodes = changed (ops.run p slice clock) s.nodes p }
step ops network (Send p l) s =
    record s {
      nodes = changed (ops.send l) s.nodes p;
      latches = latched (far_at network p l) (offered ops s.nodes p l) s.latches;
      host = host_latched (far_at network p l) (offered ops s.nodes p l) s.host;
    }
step ops network (Take p l) s =
    record s {
      nodes = nodes_acknowledged ops (far_at network p l) (changed (ops.take l (unwrap_or (latch_at s.latches p l) 0)) s.nodes p);
      latches = slice_set s.latches (4 * p + l) None;
      host = host_acknowledged (far_at network p l) s.host;
    }

-- what a pick is: a prefix byte, the last byte of an instruction, or a step of a link or of the host
abbrev pub made_by_pick : {N : Type 0} → NodeOps N → Pick → BoardState N → Made
made_by_pick ops HostSend s = made.Link
made_by_pick ops HostTake s = made.Link
made_by_pick ops (Proc p slice clock) s = at_node made.Whole (ops.made p slice clock) s.nodes p
made_by_pick ops (Send p l) s = made.Link
made_by_pick ops (Take p l) s = made.Link

-- a wired board after a pick
abbrev pub after_pick : {N : Type 0} → NodeOps N → Pick → WiredBoard N → WiredBoard N
after_pick ops pick b = record b { state = step ops b.network pick b.state }
