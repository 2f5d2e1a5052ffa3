-- What a line `same` tells is true.
use Rattle.std.specs.Prelude.{◌≡◌, ℕ, List, ◌++◌, Some, None}
use Rattle.tn_network.specs.Nets.{NetState}
use Rattle.tn_sym.specs.Symbolic.{SymbolicState}
use Rattle.tn_sym.specs.Follows.{HaveLinks}
use Rattle.tn_sym.specs.SymbolicRuns.{AreAlike}
use Rattle.tn_schedule.specs.declared.acts.Line.{Line}
use Rattle.tn_replay.specs.Replays.{Known, ReplayState, beginning}
use Rattle.tn_replay.specs.ReplayEnds.{IsKnownOf, AreDone}

-- Behind lines that are done, the symbolic network that goes beside the network and has not stopped is in
-- the same state as it, and the same picks are enabled in both.
abbrev pub AreTrue : Known → List Line → ReplayState → Type 0
AreTrue k lines s =
    (front rest : List Line) (t : ReplayState) (text : List ℕ) (symbolic : SymbolicState) → lines ≡ front ++ rest
    → AreDone k front s t text → t.symbolic ≡ Some symbolic → symbolic.stop ≡ None → AreAlike t.net symbolic

-- So it is whatever the lines are, and wherever the network begins.
abbrev pub TellsTruth : Type 0
TellsTruth =
    (k : Known) (net : NetState) (lines : List Line) → IsKnownOf net.board.network k → HaveLinks net.board.state
    → AreTrue k lines (beginning net)
