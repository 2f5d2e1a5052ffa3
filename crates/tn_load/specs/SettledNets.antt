-- What settling does of a network.
use Rattle.std.specs.Prelude.{◌≡◌, ℕ, ◌≤◌, Bool, true, List, length}
use Rattle.tn_net.specs.Networks.{NetworkState}
use Rattle.tn_stream.specs.Images.{ImageBytes}
use Rattle.tn_network.specs.declared.picks.Pick.{Pick}
use Rattle.tn_network.specs.Loads.{IsLoaded}
use Rattle.tn_network.specs.Nets.{NetState, memory_ops}
use Rattle.tn_network.specs.PickLists.{settled}
use Rattle.tn_network.specs.Resets.{PowerState, AreSized}
use Rattle.tn_load.specs.Settles.{IsSettled}
use Rattle.tn_load.specs.NetWalks.{NetAtRest, net_walked}
use Rattle.tn_load.specs.Targets.{targets_of}
use Rattle.tn_load.specs.Boots.{Boots, Runs, begun, state_behind}

-- A network was settled, by at most so many steps, each the first pick or with `back` the last.
abbrev pub SettledNet : Bool → ℕ → NetState → NetState → ℕ → Bool → Type 0
SettledNet back most old new steps rested = IsSettled NetAtRest (net_walked back) most old new steps rested

-- the picks of a network in that order
abbrev pub net_settled : Bool → ℕ → NetState → List Pick
net_settled back most n = settled memory_ops n.board.network n.holds back most n.board.state

-- Picks were made of a network, one a step: each was enabled when it came, and the network is as behind them.
pub record WereMade (old new : NetState) (steps : ℕ) (picks : List Pick) : Type 0 where
  pub count : length picks ≡ steps
  pub enabled : Runs old picks
  pub state : new.board.state ≡ state_behind old picks
  pub network : new.board.network ≡ old.board.network
  pub holds : new.holds ≡ old.holds

-- What settling makes of a network are the picks in that order.
abbrev pub MakesPicks : Type 0
MakesPicks =
    (back : Bool) (most : ℕ) (old new : NetState) (steps : ℕ) (rested : Bool) → SettledNet back most old new steps rested
    → WereMade old new steps (net_settled back most old)

-- it rests, after exactly so many steps, with these images loaded
pub record IsShown (new : NetState) (images : List ImageBytes) (wanted steps : ℕ) (rested : Bool) : Type 0 where
  pub made : steps ≡ wanted
  pub rests : rested ≡ true
  pub loaded : IsLoaded (λ memory. memory) new.board.state (targets_of images)

-- A network that some bytes boot in so many steps shows it in both orders: settled by as many steps or more from
-- power-up, it rests after exactly so many, and is loaded.
abbrev pub ShowsBoots : Type 0
ShowsBoots =
    (network : NetworkState) (images : List ImageBytes) (bytes : List ℕ) (wanted : ℕ) → Boots network images bytes wanted
    → (powers : List PowerState) → AreSized powers network → (back : Bool) (most : ℕ) (new : NetState) (steps : ℕ) (rested : Bool)
    → wanted ≤ most → SettledNet back most (begun network images powers bytes) new steps rested
    → IsShown new images wanted steps rested
