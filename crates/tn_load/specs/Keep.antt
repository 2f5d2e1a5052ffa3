-- Keep: every pick that is enabled leaves a network under way, and takes one off the picks that are left.
use Rattle.std.specs.Prelude.{◌≡◌, ◌≢◌, ◌↔◌, ℕ, ◌+◌, ◌*◌, ◌<◌, ◌≤◌, true, false, List, [], ◌∷◌, length, replicate, None, zero, suc}
use Rattle.tn_net.specs.declared.networks.Far.{Far}
use Rattle.tn_net.specs.declared.networks.Far.TheVariants.{Link}
use Rattle.tn_net.specs.Networks.{NetworkState, far_at}
use Rattle.tn_network.specs.declared.picks.Pick.{Pick}
use Rattle.tn_network.specs.Boards.{BoardState}
use Rattle.tn_network.specs.Holds.{HoldState, enabled}
use Rattle.tn_network.specs.NodeOps.{NodeOps}
use Rattle.tn_network.specs.PickLists.{AreEnabled, after, AtRest}
use Rattle.tn_network.specs.Steps.{step}
use Rattle.tn_load.specs.Acts.{Act}
use Rattle.tn_load.specs.Plans.{Course, Plan, plan_after, plan_behind, picks_left}
use Rattle.tn_load.specs.Shares.{IsWireEnd}
use Rattle.tn_load.specs.UnderWay.{IsUnderWay}

-- nothing is asked of the nodes on the way
abbrev pub Anything : {N : Type 0} → ℕ → N → List Act → Type 0
Anything p n acts = Unit {0}

-- a network under way, whatever holds of its nodes
abbrev pub UnderWay : {N : Type 0} → NodeOps N → NetworkState → HoldState → (Far → List ℕ) → List ℕ → Plan N → BoardState N → Type 0
UnderWay ops network holds missing kept plan s = IsUnderWay ops network holds Anything missing kept plan s

-- ---- one pick

abbrev pub Keep : {N : Type 0} → NodeOps N → Type 0
Keep {N = N} ops =
    (network : NetworkState) (holds : HoldState) (missing : Far → List ℕ) (kept : List ℕ) (plan : Plan N) (s : BoardState N) (pick : Pick)
    → UnderWay ops network holds missing kept plan s → enabled ops network holds s pick ≡ true
    → UnderWay ops network holds missing kept (plan_after network pick plan) (step ops network pick s)
    × (picks_left (length network.sizes) plan ≡ 1 + picks_left (length network.sizes) (plan_after network pick plan))

-- ---- picks one after the other

abbrev pub GoesAlong : {N : Type 0} → NodeOps N → Type 0
GoesAlong {N = N} ops =
    (network : NetworkState) (holds : HoldState) (missing : Far → List ℕ) (kept : List ℕ) (plan : Plan N) (s : BoardState N)
    (picks : List Pick) → UnderWay ops network holds missing kept plan s → AreEnabled ops network holds s picks
    → UnderWay ops network holds missing kept (plan_behind network picks plan) (after ops network s picks)
    × (picks_left (length network.sizes) plan ≡ length picks + picks_left (length network.sizes) (plan_behind network picks plan))

-- ---- progress

-- Each processor takes its bytes from the host, or from a processor of lower rank.
pub record IsRooted {N : Type 0} (network : NetworkState) (plan : Plan N) : Type 0 where
  pub rank : ℕ → ℕ
  pub most : ℕ
  pub bounded : (p : ℕ) → p < length network.sizes → rank p ≤ most
  pub falls : (p q m : ℕ) → p < length network.sizes → far_at network p (plan.courses p).boot ≡ Link q m → rank q < rank p

-- all bytes that are taken come
abbrev pub IsWhole : NetworkState → (Far → List ℕ) → Type 0
IsWhole network missing = (e : Far) → IsWireEnd network e → missing e ≡ []

-- while picks are left, some pick is enabled
abbrev pub GoesOn : {N : Type 0} → NodeOps N → Type 0
GoesOn {N = N} ops =
    (network : NetworkState) (holds : HoldState) (missing : Far → List ℕ) (kept : List ℕ) (plan : Plan N) (s : BoardState N)
    → UnderWay ops network holds missing kept plan s → IsRooted network plan → IsWhole network missing
    → picks_left (length network.sizes) plan ≢ 0 → (pick : Pick) × (enabled ops network holds s pick ≡ true)

-- ---- the end

-- the ends of the courses of so many processors from p on
unfoldable pub ends_from : {N : Type 0} → ℕ → ℕ → (ℕ → Course N) → List N
ends_from p zero courses = []
ends_from p (suc count) courses = (courses p).end ∷ ends_from (p + 1) count courses

-- every processor at the end of its course, all latches empty, and the host with nothing left to do
abbrev pub ended_board : {N : Type 0} → ℕ → List ℕ → Plan N → BoardState N
ended_board count kept plan =
    record {
      nodes = ends_from 0 count plan.courses;
      latches = replicate (4 * count) None;
      host = record { left = []; sent = false; latch = None; kept = kept };
    }

-- Picks in any order are at most as many as are left; they end at rest exactly where they are as many;
-- and then the state is one and the same.
abbrev pub EndsOnce : {N : Type 0} → NodeOps N → Type 0
EndsOnce {N = N} ops =
    (network : NetworkState) (holds : HoldState) (missing : Far → List ℕ) (kept : List ℕ) (plan : Plan N) (s : BoardState N)
    (picks : List Pick) → UnderWay ops network holds missing kept plan s → IsRooted network plan → IsWhole network missing
    → AreEnabled ops network holds s picks
    → (length picks ≤ picks_left (length network.sizes) plan)
    × (AtRest ops network holds (after ops network s picks) ↔ (length picks ≡ picks_left (length network.sizes) plan))
    × (length picks ≡ picks_left (length network.sizes) plan
    → after ops network s picks ≡ ended_board (length network.sizes) kept plan)
