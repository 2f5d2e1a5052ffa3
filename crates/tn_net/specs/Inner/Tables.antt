-- The table of far ends while the lines are read by their numbers.
use Rattle.std.specs.Prelude.{◌≡◌, ℕ, ◌+◌, ◌*◌, ◌<◌, ◌≤◌, ◌^◌, ◌≢◌, List, length, slice_index_or, slice_set, Some, None}
use Rattle.tn_text.specs.declared.faults.Cause.{Cause}
use Rattle.tn_net.specs.declared.lines.LinkEnd.{LinkEnd}
use Rattle.tn_net.specs.declared.lines.EndLine.{EndLine}
use Rattle.tn_net.specs.declared.lines.Refusal.{Refusal}
use Rattle.tn_net.specs.declared.lines.Refusal.TheVariants.{Unknown, Taken}
use Rattle.tn_net.specs.declared.networks.Far.{Far}
use Rattle.tn_net.specs.declared.networks.Far.TheVariants.{Nothing, Host, Link}
use Rattle.tn_net.specs.Lines.{IsNamed, IsKnown, line_at, IsTakenBefore, Wires}
use Rattle.tn_text.specs.declared.faults.Fault.{Fault}
use Rattle.tn_text.specs.Faults.{fault_at}
use Rattle.tn_net.specs.Faults.{unknown, twice, IsRight, IsWrongLine, AreRight}
use Rattle.tn_net.specs.Networks.{end_of}

-- what stands in the table for link l of processor p
abbrev pub entry : List Far → ℕ → ℕ → Far
entry fars p l = slice_index_or fars (4 * p + l) Nothing

-- a line before the number names the end as the host's
pub record HostBefore (lines : List EndLine) (number : ℕ) (end : LinkEnd) : Type 0 where
  pub place : ℕ
  pub here : place < length lines
  pub before : (line_at lines place).line < number
  pub one : (line_at lines place).one ≡ end
  pub two : (line_at lines place).two ≡ None

-- a line before the number wires the ends
pub record WiredBefore (lines : List EndLine) (number : ℕ) (end far : LinkEnd) : Type 0 where
  pub place : ℕ
  pub here : place < length lines
  pub before : (line_at lines place).line < number
  pub wires : Wires (line_at lines place) end far

-- what the lines before the number say of an end
abbrev pub Shows : List (List ℕ × ℕ × ℕ) → List EndLine → ℕ → LinkEnd → Far → Type 0
Shows names lines number end Nothing = IsTakenBefore lines number end → ⊥
Shows names lines number end Host = HostBefore lines number end
Shows names lines number end (Link q m) = (q < length names) × (m < 4) × WiredBefore lines number end (end_of names q m)

-- the table shows what the lines before the number say
pub record IsTable (names : List (List ℕ × ℕ × ℕ)) (lines : List EndLine) (number : ℕ) (fars : List Far) : Type 0 where
  pub room : length fars ≡ 4 * length names
  pub shows : (p l : ℕ) → p < length names → l < 4 → Shows names lines number (end_of names p l) (entry fars p l)

-- among the first n lines, that at the place k has the least number from this one on
pub record IsNext (lines : List EndLine) (number n k : ℕ) : Type 0 where
  pub here : k < n
  pub from : number ≤ (line_at lines k).line
  pub word : (line_at lines k).line < 2 ^ 32
  pub least : (j : ℕ) → j < n → number ≤ (line_at lines j).line → (line_at lines k).line ≤ (line_at lines j).line

-- the first n lines have numbers below this one
abbrev pub AllBefore : List EndLine → ℕ → ℕ → Type 0
AllBefore lines number n = (k : ℕ) → k < n → (line_at lines k).line < number

-- a line of one end, and of two, puts its ends into the table
pub data Joins (names : List (List ℕ × ℕ × ℕ)) (line : EndLine) (old new : List Far) : Type 0 where
  joins_host : (p : ℕ) → line.two ≡ None → IsNamed names line.one.name p → entry old p line.one.link ≡ Nothing
      → new ≡ slice_set old (4 * p + line.one.link) Host → Joins names line old new
  joins_ends : (p q : ℕ) (end : LinkEnd) → line.two ≡ Some end → IsNamed names line.one.name p → IsNamed names end.name q
      → entry old p line.one.link ≡ Nothing → entry (slice_set old (4 * p + line.one.link) (Link q end.link)) q end.link ≡ Nothing
      → new ≡ slice_set (slice_set old (4 * p + line.one.link) (Link q end.link)) (4 * q + end.link) (Link p line.one.link)
      → Joins names line old new

-- why a line can't put its ends into the table
pub data Refuses (names : List (List ℕ × ℕ × ℕ)) (line : EndLine) (old : List Far) (refusal : Refusal) : Type 0 where
  refuses_one : (IsKnown names line.one.name → ⊥) → refusal ≡ Unknown line.one → Refuses names line old refusal
  refuses_two : (end : LinkEnd) → line.two ≡ Some end → IsKnown names line.one.name → (IsKnown names end.name → ⊥) → refusal ≡ Unknown end
      → Refuses names line old refusal
  taken_one : (p : ℕ) → IsNamed names line.one.name p → ((end : LinkEnd) → line.two ≡ Some end → IsKnown names end.name)
      → entry old p line.one.link ≢ Nothing → refusal ≡ Taken line.one → Refuses names line old refusal
  taken_two : (p q : ℕ) (end : LinkEnd) → line.two ≡ Some end → IsNamed names line.one.name p → IsNamed names end.name q
      → entry old p line.one.link ≡ Nothing → entry (slice_set old (4 * p + line.one.link) (Link q end.link)) q end.link ≢ Nothing
      → refusal ≡ Taken end → Refuses names line old refusal

-- the cause of a fault
abbrev pub cause_of : Refusal → Cause
cause_of (Unknown end) = unknown end
cause_of (Taken end) = twice end

-- the table of all lines, and nothing is wrong with any
pub record IsWired (names : List (List ℕ × ℕ × ℕ)) (lines : List EndLine) (fars : List Far) : Type 0 where
  pub number : ℕ
  pub all : AllBefore lines number (length lines)
  pub right : AreRight names lines
  pub table : IsTable names lines number fars

-- the fault is that of the first line, by its number, with something wrong
pub record IsFirstWrongLine (names : List (List ℕ × ℕ × ℕ)) (lines : List EndLine) (fault : Fault) : Type 0 where
  pub place : ℕ
  pub here : place < length lines
  pub before : (k : ℕ) → k < length lines → (line_at lines k).line < (line_at lines place).line → IsRight names lines (line_at lines k)
  pub cause : Cause
  pub wrong : IsWrongLine names lines (line_at lines place) cause
  pub told : fault ≡ fault_at (line_at lines place).line cause
