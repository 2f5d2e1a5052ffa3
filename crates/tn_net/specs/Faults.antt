-- What is wrong with a description of a network, and what is wrong first.
use Rattle.std.specs.Prelude.{◌≡◌, ⊤, ℕ, ◌+◌, ◌<◌, ◌⊎◌, ◌≢◌, List, length, Some, None}
use Rattle.tn_text.specs.declared.faults.Cause.{Cause}
use Rattle.tn_text.specs.declared.faults.Fault.{Fault}
use Rattle.tn_text.specs.declared.faults.FaultCode.TheVariants.{DuplicateProcessor, UnknownProcessor, WireTwice, NoHost}
use Rattle.tn_text.specs.declared.faults.Detail.TheVariants.{Named, LinkEnd as End}
use Rattle.tn_text.specs.Faults.{bare, fault_at}
use Rattle.tn_text.specs.Firsts.{IsFirstWrong}
use Rattle.tn_net.specs.declared.lines.LinkEnd.{LinkEnd}
use Rattle.tn_net.specs.declared.lines.EndLine.{EndLine}
use Rattle.tn_net.specs.RawNetworks.{RawLists}
use Rattle.tn_net.specs.Lines.{name_at, line_of, IsKnown, IsRepeated, AreDistinct, end_lines, line_at, IsTakenBefore}

-- no processor has the name of the end
abbrev pub unknown : LinkEnd → Cause
unknown end = record { code = UnknownProcessor; detail = Named end.name }

-- a wire ends there already
abbrev pub twice : LinkEnd → Cause
twice end = record { code = WireTwice; detail = End end.name end.link }

-- a processor before has the name
abbrev pub duplicate : List ℕ → Cause
duplicate name = record { code = DuplicateProcessor; detail = Named name }

-- the ends of the line are those of processors
pub record NamesProcessors (names : List (List ℕ × ℕ × ℕ)) (line : EndLine) : Type 0 where
  pub one : IsKnown names line.one.name
  pub two : (end : LinkEnd) → line.two ≡ Some end → IsKnown names end.name

-- nothing is wrong with the line: its ends are those of processors, stand on no line with a lower
-- number, and differ
pub record IsRight (names : List (List ℕ × ℕ × ℕ)) (lines : List EndLine) (line : EndLine) : Type 0 where
  pub known : NamesProcessors names line
  pub one : IsTakenBefore lines line.line line.one → ⊥
  pub two : (end : LinkEnd) → line.two ≡ Some end → IsTakenBefore lines line.line end → ⊥
  pub apart : line.two ≢ Some line.one

-- What is wrong with the line: no processor has the name of the one end, or of the other; else the
-- one end stands on a line with a lower number; else the other does, or is the one end again.
pub data IsWrongLine (names : List (List ℕ × ℕ × ℕ)) (lines : List EndLine) (line : EndLine) (cause : Cause) : Type 0 where
  one_unknown : (IsKnown names line.one.name → ⊥) → cause ≡ unknown line.one → IsWrongLine names lines line cause
  two_unknown : (end : LinkEnd) → line.two ≡ Some end → IsKnown names line.one.name → (IsKnown names end.name → ⊥) → cause ≡ unknown end
      → IsWrongLine names lines line cause
  one_twice : NamesProcessors names line → IsTakenBefore lines line.line line.one → cause ≡ twice line.one
      → IsWrongLine names lines line cause
  two_twice : (end : LinkEnd) → line.two ≡ Some end → NamesProcessors names line → (IsTakenBefore lines line.line line.one → ⊥)
      → IsTakenBefore lines line.line end ⊎ (line.one ≡ end) → cause ≡ twice end → IsWrongLine names lines line cause

-- nothing is wrong with any of the lines
abbrev pub AreRight : List (List ℕ × ℕ × ℕ) → List EndLine → Type 0
AreRight names lines = (k : ℕ) → k < length lines → IsRight names lines (line_at lines k)

-- where something can be wrong: with the name of a processor, with a line that wires ends, or with the host
pub data FaultPlace : Type 0 where
  AtName : (k : ℕ) → FaultPlace
  AtLine : (k : ℕ) → FaultPlace
  AtHost : FaultPlace

-- what is wrong there: an earlier processor has the name; something with the line; the host has no end
abbrev pub IsWrongAt : RawLists → FaultPlace → Cause → Type 0
IsWrongAt raw (AtName k) cause = (k < length raw.names) × IsRepeated raw.names k × (cause ≡ duplicate (name_at raw.names k))
IsWrongAt raw (AtLine k) cause = (k < length (end_lines raw)) × IsWrongLine raw.names (end_lines raw) (line_at (end_lines raw) k) cause
IsWrongAt raw AtHost cause = (raw.host ≡ None) × (cause ≡ bare NoHost)

-- names come before lines, and lines, by their numbers, before the host
abbrev pub IsBefore : RawLists → FaultPlace → FaultPlace → Type 0
IsBefore raw (AtName j) (AtName k) = j < k
IsBefore raw (AtName j) (AtLine k) = ⊤
IsBefore raw (AtName j) AtHost = ⊤
IsBefore raw (AtLine j) (AtName k) = ⊥
IsBefore raw (AtLine j) (AtLine k) = (line_at (end_lines raw) j).line < (line_at (end_lines raw) k).line
IsBefore raw (AtLine j) AtHost = ⊤
IsBefore raw AtHost place = ⊥

-- the line where it is told: that the host has no end, behind the last line
abbrev pub number_at : RawLists → FaultPlace → ℕ
number_at raw (AtName k) = line_of raw.names k
number_at raw (AtLine k) = (line_at (end_lines raw) k).line
number_at raw AtHost = raw.lines + 1

-- the fault tells the first thing that is wrong
pub record IsNetworkFault (raw : RawLists) (fault : Fault) : Type 0 where
  pub place : FaultPlace
  pub cause : Cause
  pub first : IsFirstWrong (IsBefore raw) (IsWrongAt raw) place cause
  pub told : fault ≡ fault_at (number_at raw place) cause

-- no fault stands
pub record IsFaultless (raw : RawLists) : Type 0 where
  pub distinct : AreDistinct raw.names (length raw.names)
  pub right : AreRight raw.names (end_lines raw)
  pub hosted : raw.host ≢ None
