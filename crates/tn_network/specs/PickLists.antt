-- Picks one after the other, and the order of picks.
use Rattle.std.specs.Prelude.{◌≡◌, ℕ, zero, suc, ◌+◌, Bool, true, false, List, [], ◌∷◌, ◌++◌, reverse, find, length, Option, Some}
use Rattle.std.specs.Prelude.{None, if◌then◌else◌}
use Rattle.tn_net.specs.Networks.{NetworkState}
use Rattle.tn_network.specs.declared.picks.Pick.{Pick}
use Rattle.tn_network.specs.declared.picks.Pick.TheVariants.{HostSend, HostTake, Proc, Send, Take}
use Rattle.tn_network.specs.Boards.{BoardState}
use Rattle.tn_network.specs.NodeOps.{NodeOps}
use Rattle.tn_network.specs.Steps.{step}
use Rattle.tn_network.specs.Holds.{HoldState, enabled}

-- each pick of a list is enabled when it comes
abbrev pub AreEnabled : {N : Type 0} → NodeOps N → NetworkState → HoldState → BoardState N → List Pick → Type 0
AreEnabled ops network holds s [] = Unit {0}
AreEnabled ops network holds s (pick ∷ picks) =
    (enabled ops network holds s pick ≡ true) × AreEnabled ops network holds (step ops network pick s) picks

-- the board after them
abbrev pub after : {N : Type 0} → NodeOps N → NetworkState → BoardState N → List Pick → BoardState N
after ops network s [] = s
after ops network s (pick ∷ picks) = after ops network (step ops network pick s) picks

-- no pick is enabled
abbrev pub AtRest : {N : Type 0} → NodeOps N → NetworkState → HoldState → BoardState N → Type 0
AtRest ops network holds s = (pick : Pick) → enabled ops network holds s pick ≡ false

-- ---- the order of picks

-- those of processor p
abbrev pub picks_of : ℕ → List Pick
picks_of p =
    Proc p false 0 ∷ Send p 0 ∷ Send p 1 ∷ Send p 2 ∷ Send p 3 ∷ Take p 0 ∷ Take p 1 ∷ Take p 2 ∷ Take p 3 ∷ []

-- those of so many processors from p on
unfoldable pub picks_from : ℕ → ℕ → List Pick
picks_from p zero = []
picks_from p (suc count) = picks_of p ++ picks_from (p + 1) count

-- those of a network of so many processors; other timeslices and clocks leave the order as it is
unfoldable pub picks : ℕ → List Pick
picks count = HostSend ∷ HostTake ∷ picks_from 0 count

-- in this order, or from the last to the first
abbrev pub picks_in_order : Bool → ℕ → List Pick
picks_in_order back count = if back then reverse (picks count) else picks count

-- the pick that is enabled and comes first
abbrev pub first_pick : {N : Type 0} → NodeOps N → NetworkState → HoldState → Bool → BoardState N → Option Pick
first_pick ops network holds back s =
    find (λ pick. enabled ops network holds s pick) (picks_in_order back (length s.nodes))

-- a pick with those that follow it, or none
abbrev pub followed : Option Pick → (Pick → List Pick) → List Pick
followed None rest = []
followed (Some pick) rest = pick ∷ rest pick

-- At most so many picks, each the one that is enabled and comes first. They are fewer only where they
-- end at rest.
unfoldable pub settled : {N : Type 0} → NodeOps N → NetworkState → HoldState → Bool → ℕ → BoardState N → List Pick
settled ops network holds back zero s = []
settled ops network holds back (suc most) s =
    followed (first_pick ops network holds back s) (λ pick. settled ops network holds back most (step ops network pick s))
