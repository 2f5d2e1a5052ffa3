-- What a loaded system does.
use Rattle.std.specs.Prelude.{◌≡◌, false, List}
use Rattle.tn_network.specs.Nets.{NetState}
use Rattle.tn_sym.specs.ProgramStates.{ProgramState}
use Rattle.tn_sym.specs.Symbolic.{SymbolicState}
use Rattle.tn_sym.specs.Programs.{AreLoaded, Begins}
use Rattle.tn_sym.specs.Follows.{Follows, HaveLinks}
use Rattle.tn_system.specs.Systems.{SystemState}

-- A symbolic network of the programs begins beside the network, and what the network does from there it
-- does too, until it stops.
pub record FollowsPrograms (programs : List ProgramState) (n : NetState) : Type 0 where
  pub begins : (s : SymbolicState) × Begins programs n.board s
  pub follows : (s : SymbolicState) → Begins programs n.board s → Follows n s

-- From every state in which the network of a system is loaded with its images and its hold is lifted, its
-- runs are those of its programs.
abbrev pub Executes : SystemState → Type 0
Executes y =
    (n : NetState) → HaveLinks n.board.state → n.board.network ≡ y.network → n.holds.held ≡ false
    → AreLoaded y.images n.board.state → FollowsPrograms y.programs n
