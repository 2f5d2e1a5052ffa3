-- Plans: what is left to do for each processor of a network and for the host.
use Rattle.std.specs.Prelude.{ℕ, ◌+◌, ◌<◌, ◌==◌, zero, suc, Bool, true, false, List, [], ◌∷◌, length, if◌then◌else◌}
use Rattle.tn_net.specs.declared.networks.Far.{Far}
use Rattle.tn_net.specs.declared.networks.Far.TheVariants.{Nothing, Host, Link}
use Rattle.tn_net.specs.Networks.{NetworkState, far_at}
use Rattle.tn_network.specs.declared.picks.Pick.{Pick}
use Rattle.tn_network.specs.declared.picks.Pick.TheVariants.{HostSend, HostTake, Proc, Send, Take}
use Rattle.tn_network.specs.Hosts.{other_bytes}
use Rattle.tn_network.specs.Holds.{HoldState}
use Rattle.tn_network.specs.NodeOps.{NodeOps}
use Rattle.tn_load.specs.Acts.{Act, Post, Does, HasEnded}
use Rattle.tn_load.specs.LoneRuns.{AreAnswered, weight}

-- a node, and the act that it does next
pub record Moment (N : Type 0) : Type 0 where
  pub node : N
  pub act : Act

-- what is left of the lone run of a processor that takes bytes by its boot link: the moments to come, and
-- the node at their end
pub record Course (N : Type 0) : Type 0 where
  pub boot : ℕ
  pub moments : List (Moment N)
  pub end : N

-- the node at the first of some moments; the acts of moments
abbrev pub first_node : {N : Type 0} → N → List (Moment N) → N
first_node end [] = end
first_node end (m ∷ moments) = m.node

abbrev pub now : {N : Type 0} → Course N → N
now c = first_node c.end c.moments

abbrev pub acts_of : {N : Type 0} → List (Moment N) → List Act
acts_of [] = []
acts_of (m ∷ moments) = m.act ∷ acts_of moments

abbrev pub acts_left : {N : Type 0} → Course N → List Act
acts_left c = acts_of c.moments

-- each moment leads to the next, and the last to an end; of each node and the acts left there something
-- holds
abbrev pub Follow : {N : Type 0} → NodeOps N → Post → (N → List Act → Type 0) → List (Moment N) → N → Type 0
Follow ops post Q [] end = Q end [] × HasEnded ops post end
Follow ops post Q (m ∷ moments) end =
    Q m.node (m.act ∷ acts_of moments) × Does ops post m.act m.node (first_node end moments) × Follow ops post Q moments end

-- a course of a processor
pub record IsCourse {N : Type 0} (ops : NodeOps N) (holds : HoldState) (Q : ℕ → N → List Act → Type 0) (p : ℕ) (c : Course N) : Type 0 where
  pub boot : c.boot < 4
  pub follow : Follow ops (record { holds = holds; processor = p; boot = c.boot }) (Q p) c.moments c.end
  pub answered : AreAnswered (acts_left c)

-- What is left to do: for each processor; for the host, which still sends bytes, may wait for an
-- acknowledge, and keeps what comes.
pub record Plan (N : Type 0) : Type 0 where
  pub courses : ℕ → Course N
  pub sends : List ℕ
  pub waits : Bool
  pub keeps : List ℕ

-- ---- what a pick leaves

abbrev pub later : {N : Type 0} → List (Moment N) → List (Moment N)
later [] = []
later (m ∷ moments) = moments

abbrev pub behind : {N : Type 0} → Course N → Course N
behind c = record c { moments = later c.moments }

-- the courses, the first act of a processor's done
unfoldable pub advanced : {N : Type 0} → ℕ → (ℕ → Course N) → ℕ → Course N
advanced p courses q = if q == p then behind (courses q) else courses q

abbrev pub advanced_at : {N : Type 0} → Far → Plan N → Plan N
advanced_at Nothing plan = plan
advanced_at Host plan = record plan { waits = false }
advanced_at (Link q m) plan = record plan { courses = advanced q plan.courses }

-- a pick is the first act of one processor or of two, or of the host
abbrev pub plan_after : {N : Type 0} → NetworkState → Pick → Plan N → Plan N
plan_after network HostSend plan = record plan { sends = other_bytes plan.sends; waits = true }
plan_after network HostTake plan = record plan { keeps = other_bytes plan.keeps; courses = advanced network.root plan.courses }
plan_after network (Proc p slice clock) plan = record plan { courses = advanced p plan.courses }
plan_after network (Send p l) plan = record plan { courses = advanced p plan.courses }
plan_after network (Take p l) plan = advanced_at (far_at network p l) (record plan { courses = advanced p plan.courses })

-- the plan after picks
abbrev pub plan_behind : {N : Type 0} → NetworkState → List Pick → Plan N → Plan N
plan_behind network [] plan = plan
plan_behind network (pick ∷ picks) plan = plan_behind network picks (plan_after network pick plan)

-- ---- how many picks are left

unfoldable pub sum_below : ℕ → (ℕ → ℕ) → ℕ
sum_below zero f = 0
sum_below (suc n) f = sum_below n f + f n

-- those of so many processors and of the host
abbrev pub picks_left : {N : Type 0} → ℕ → Plan N → ℕ
picks_left count plan = sum_below count (λ p. weight (acts_left (plan.courses p))) + length plan.sends + length plan.keeps
