-- Exchange: the order of picks does not matter.
use Rattle.std.specs.Prelude.{◌≡◌, ◌⊎◌, ◌↔◌, ℕ, ◌≤◌, true, List, length}
use Rattle.tn_net.specs.declared.networks.Far.{Far}
use Rattle.tn_net.specs.Networks.{NetworkState}
use Rattle.tn_network.specs.declared.picks.Pick.{Pick}
use Rattle.tn_network.specs.Boards.{BoardState}
use Rattle.tn_network.specs.Holds.{HoldState, enabled}
use Rattle.tn_network.specs.NodeOps.{NodeOps}
use Rattle.tn_network.specs.PickLists.{AreEnabled, after, AtRest}
use Rattle.tn_network.specs.Steps.{step}
use Rattle.tn_load.specs.Plans.{Plan}
use Rattle.tn_load.specs.Keep.{UnderWay}

-- two picks that are enabled lead to the same state; or each is enabled behind the other, and both orders
-- lead to the same state
abbrev pub Joins : {N : Type 0} → NodeOps N → NetworkState → HoldState → BoardState N → Pick → Pick → Type 0
Joins ops network holds s one two =
    (step ops network one s ≡ step ops network two s)
    ⊎ ((enabled ops network holds (step ops network one s) two ≡ true)
    × (enabled ops network holds (step ops network two s) one ≡ true)
    × (step ops network two (step ops network one s) ≡ step ops network one (step ops network two s)))

abbrev pub Commute : {N : Type 0} → NodeOps N → Type 0
Commute {N = N} ops =
    (network : NetworkState) (holds : HoldState) (missing : Far → List ℕ) (kept : List ℕ) (plan : Plan N) (s : BoardState N)
    (one two : Pick) → UnderWay ops network holds missing kept plan s → enabled ops network holds s one ≡ true
    → enabled ops network holds s two ≡ true → Joins ops network holds s one two

-- Where picks lead a network under way to rest, picks in any other order are at most as many; they are at
-- rest exactly where they are as many; and then the state is the same. Here bytes may be missing.
abbrev pub Exchange : {N : Type 0} → NodeOps N → Type 0
Exchange {N = N} ops =
    (network : NetworkState) (holds : HoldState) (missing : Far → List ℕ) (kept : List ℕ) (plan : Plan N) (s : BoardState N)
    (all picks : List Pick) → UnderWay ops network holds missing kept plan s → AreEnabled ops network holds s all
    → AtRest ops network holds (after ops network s all) → AreEnabled ops network holds s picks
    → (length picks ≤ length all)
    × (AtRest ops network holds (after ops network s picks) ↔ (length picks ≡ length all))
    × (length picks ≡ length all → after ops network s picks ≡ after ops network s all)
