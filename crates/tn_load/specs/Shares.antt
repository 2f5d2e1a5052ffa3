-- What of the bytes each wire carries in a plan: those that an end still takes, those that it still sends,
-- and that in its latch.
use Rattle.std.specs.Prelude.{ℕ, ◌==◌, Bool, false, List, [], ◌∷◌, Option, Some, None, if◌then◌else◌}
use Rattle.tn_net.specs.declared.networks.Far.{Far}
use Rattle.tn_net.specs.declared.networks.Far.TheVariants.{Nothing, Host, Link}
use Rattle.tn_net.specs.Networks.{NetworkState, IsEnd, far_at}
use Rattle.tn_network.specs.Boards.{BoardState, latch_at}
use Rattle.tn_load.specs.LoneRuns.{takes_of, sends_of, is_waiting}
use Rattle.tn_load.specs.Plans.{Course, Plan, acts_left}

-- an end of a wire: a link of a processor, or the host; and the other end of its wire
abbrev pub IsWireEnd : NetworkState → Far → Type 0
IsWireEnd network Nothing = Unit {0}
IsWireEnd network Host = Unit {0}
IsWireEnd network (Link p l) = IsEnd network p l

abbrev pub other_end : NetworkState → Far → Far
other_end network Nothing = Nothing
other_end network Host = Link network.root network.root_link
other_end network (Link p l) = far_at network p l

-- what a course takes by a link
abbrev pub taken_by : {N : Type 0} → ℕ → Course N → List ℕ
taken_by l c = if l == c.boot then takes_of (acts_left c) else []

-- the bytes that are still taken at an end, and those that are still sent from there
abbrev pub incoming : {N : Type 0} → Plan N → Far → List ℕ
incoming plan Nothing = []
incoming plan Host = plan.keeps
incoming plan (Link p l) = taken_by l (plan.courses p)

abbrev pub outgoing : {N : Type 0} → Plan N → Far → List ℕ
outgoing plan Nothing = []
outgoing plan Host = plan.sends
outgoing plan (Link p l) = sends_of l (acts_left (plan.courses p))

-- whether a byte that was sent from an end is not acknowledged
abbrev pub waiting : {N : Type 0} → Plan N → Far → Bool
waiting plan Nothing = false
waiting plan Host = plan.waits
waiting plan (Link p l) = is_waiting l (acts_left (plan.courses p))

-- the latch of an end, and its byte
abbrev pub latch_of : {N : Type 0} → BoardState N → Far → Option ℕ
latch_of s Nothing = None
latch_of s Host = s.host.latch
latch_of s (Link p l) = latch_at s.latches p l

abbrev pub bytes_in : Option ℕ → List ℕ
bytes_in None = []
bytes_in (Some byte) = byte ∷ []
