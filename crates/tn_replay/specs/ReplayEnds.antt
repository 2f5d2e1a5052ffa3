-- What a replay asks for, and what it promises.
use Rattle.std.specs.Prelude.{◌≡◌, ℕ, ◌≤◌, ◌⊎◌, List, ◌∷◌, ◌++◌, length, take, All, Option, Some, None, Result, Err, IfOk, OnErr}
use Rattle.std.specs.Prelude.{IsErrOf}
use Rattle.tn_text.specs.Counts.{Rose}
use Rattle.tn_io.specs.Outs.{Printed, told_then}
use Rattle.tn_net.specs.Networks.{NetworkState}
use Rattle.tn_network.specs.Nets.{NetState}
use Rattle.tn_sym.specs.Programs.{AreModules, Belong}
use Rattle.tn_schedule.specs.declared.acts.Act.{Act}
use Rattle.tn_schedule.specs.declared.acts.Line.{Line}
use Rattle.tn_replay.specs.declared.replays.Summary.{Summary}
use Rattle.tn_replay.specs.declared.replays.ReplayFault.{ReplayFault}
use Rattle.tn_replay.specs.declared.replays.ReplayFault.TheVariants as fault
use Rattle.tn_replay.specs.Replays.{Known, ReplayState, Left, Replayed, line_done, replayed}

-- what lines look things up in is that of a network: there is a name for each processor, and its program,
-- of valid modules, belongs to its image
pub record IsKnownOf (network : NetworkState) (k : Known) : Type 0 where
  pub names : length k.names ≡ length network.sizes
  pub valid : All (λ program. AreModules program.modules) k.programs
  pub belong : Belong network k.programs k.images

-- lines that may all be done leave a state, and print a text
abbrev pub AreDone : Known → List Line → ReplayState → ReplayState → List ℕ → Type 0
AreDone k lines s t text = replayed k lines s ≡ record { state = t; text = text; refused = None }

-- a line at which a replay ends too early: those before it were done
pub record Reached (k : Known) (lines : List Line) (s : ReplayState) : Type 0 where
  pub before : List Line
  pub line : Line
  pub after : List Line
  pub are : lines ≡ before ++ line ∷ after
  pub state : ReplayState
  pub text : List ℕ
  pub done : AreDone k before s state text

-- it could be done, and what it prints was not printed whole
pub record IsUnprinted (k : Known) (lines : List Line) (s : ReplayState) (new : NetState) (before after : Printed) : Type 0 where
  pub at : Reached k lines s
  pub left : Left
  pub can : line_done k at.line.act at.state ≡ Some left
  pub net : new ≡ left.state.net
  pub count : ℕ
  pub printed : after.bytes ≡ told_then (at.text ++ take count left.text) before.bytes
  pub failed : Rose before.faults after.faults

-- what a line would leave of a network, if it may be done
abbrev pub IsLeft : Known → Act → ReplayState → NetState → Type 0
IsLeft k a s new = (left : Left) × (line_done k a s ≡ Some left) × (new ≡ left.state.net)

-- there was no memory for it: the network is as before it, or as it leaves it, and it printed nothing
pub record IsWanting (k : Known) (lines : List Line) (s : ReplayState) (new : NetState) (before after : Printed) : Type 0 where
  pub at : Reached k lines s
  pub net : (new ≡ at.state.net) ⊎ IsLeft k at.line.act at.state new
  pub printed : after.bytes ≡ told_then at.text before.bytes

-- the network is as lines left it that were all done, or done up to the first that may not be, and all
-- that they print was printed
pub record IsPrinted (r : Replayed) (place : Option ℕ) (new : NetState) (before after : Printed) : Type 0 where
  pub refused : r.refused ≡ place
  pub net : new ≡ r.state.net
  pub printed : after.bytes ≡ told_then r.text before.bytes

-- What a replay of lines promises: all of them were done; or it ends at the first that may not be done,
-- at one whose text the output refused, or at one for which there was no memory. After any end other
-- than the first two a prefix of the text was printed.
pub record Replays (k : Known) (lines : List Line) (s : ReplayState) (result : Result Summary ReplayFault) (new : NetState)
    (before after : Printed) : Type 0 where
  pub done :
      IfOk result (λ summary. IsPrinted (replayed k lines s) None new before after
      × (summary.steps ≡ (replayed k lines s).state.steps))
  pub not_enabled : (i : ℕ) → result ≡ Err (fault.NotEnabled i) → IsPrinted (replayed k lines s) (Some i) new before after
  pub out : IsErrOf result fault.Out → IsUnprinted k lines s new before after
  pub wanting : IsErrOf result fault.NoMemory → IsWanting k lines s new before after
  pub part : OnErr result ((count : ℕ) × (after.bytes ≡ told_then (take count (replayed k lines s).text) before.bytes))
  pub count : before.faults ≤ after.faults
