-- How far a network has settled.
use Rattle.std.specs.Prelude.{◌≡◌, ℕ, ◌-◌, ◌≤◌, Bool, List, ◌++◌, length, Option}
use Rattle.std.specs.Option.{option_map}
use Rattle.tn_network.specs.declared.picks.Pick.{Pick}
use Rattle.tn_network.specs.Nets.{NetState}
use Rattle.tn_sym.specs.Symbolic.{SymbolicState}
use Rattle.tn_sym.specs.Follows.{behind}
use Rattle.tn_sym.specs.SymbolicRuns.{beside}
use Rattle.tn_replay.specs.Replays.{settling}

-- so many of its picks were made, and the others are those that settle it from here
pub record SettlesSoFar (most : ℕ) (back : Bool) (old now : NetState) (first symbolic : Option SymbolicState) (made : ℕ) : Type 0 where
  pub picks : List Pick
  pub count : length picks ≡ made
  pub few : made ≤ most
  pub all : settling most back old ≡ picks ++ settling (most - made) back now
  pub net : now ≡ behind old picks
  pub goes : symbolic ≡ option_map (beside old picks) first
