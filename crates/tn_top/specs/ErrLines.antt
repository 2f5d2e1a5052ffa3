-- What is told on the error output.
use Rattle.std.specs.Prelude.{◌≡◌, ◌⊎◌, ℕ, List, [], take, Option, Some, None}
use Rattle.tn_text.specs.Counts.{Rose}
use Rattle.tn_io.specs.Outs.{Printed, told_then}
use Rattle.tn_io.specs.Stores.{Stored}
use Rattle.tn_text.specs.declared.faults.Fault.{Fault}
use Rattle.tn_text.specs.declared.limits.Limit.{Limit}
use Rattle.tn_text.specs.FaultLines.{fault_line}
use Rattle.tn_top.specs.declared.statuses.Status.{Status}
use Rattle.tn_top.specs.declared.statuses.Status.TheVariants as status
use Rattle.tn_io.specs.FileLists.{Files}
use Rattle.tn_top.specs.Plans.{Answer, usage, unread, fault, limit, refused, done, Plan, gives, stops, reads, Goes}
use Rattle.tn_top.specs.Outcomes.{CannotRead}
use Rattle.tn_top.specs.Refusals.{usage_line, limit_line, unread_line, unwritten_line, unprinted_line, not_enabled_line, memory_line}

-- the line was put behind what was there, or, where a write failed, a prefix of it
pub record Tells (line : List ℕ) (before after : Printed) : Type 0 where
  pub whole : (Rose before.faults after.faults → ⊥) → after.bytes ≡ told_then line before.bytes
  pub part : (k : ℕ) × (after.bytes ≡ told_then (take k line) before.bytes)

-- what words ask for comes to an answer: where the files aren't told, on some texts of them
abbrev pub ComesTo : Option (Plan Answer) → Option Files → Answer → Type 0
ComesTo None files answer = answer ≡ usage
ComesTo (Some plan) files answer = Goes files plan (gives answer) ⊎ Goes files plan (stops answer)

-- it comes to where it reads a file, or where that is not one of its own
abbrev pub ComesToRead : Option (Plan Answer) → Option Files → List ℕ → Type 0
ComesToRead None files file = ⊥
ComesToRead (Some plan) files file =
    ((next : List ℕ → Plan Answer) × Goes files plan (reads file next)) ⊎ Goes files plan (stops (unread file))

-- The line of a command that ended with a status: a row for each.
abbrev pub IsLine : Option (Plan Answer) → Stored → Stored → Status → List ℕ → Type 0
IsLine asked before after status.Done line = line ≡ []
IsLine asked before after status.Fault line = (file : List ℕ) × (first : Fault) × (line ≡ fault_line file first)
    × ComesTo asked before.files (fault file first)
IsLine asked before after status.Usage line = line ≡ usage_line
IsLine asked before after status.Limit line = (which : Limit) × (count : ℕ) × (line ≡ limit_line which count)
    × ComesTo asked before.files (limit which count)
IsLine asked before after status.ReadFault line =
    (file : List ℕ) × (line ≡ unread_line file) × CannotRead asked before after file × ComesToRead asked before.files file
IsLine asked before after status.WriteFault line = (file : List ℕ) × (bytes : List ℕ) × (line ≡ unwritten_line file)
    × ComesTo asked before.files (done (Some (file, bytes)) [])
IsLine asked before after status.OutFault line = line ≡ unprinted_line
IsLine asked before after status.NoMemory line = line ≡ memory_line
IsLine asked before after status.NotEnabled line =
    (file : List ℕ) × (number : ℕ) × (tokens text : List ℕ) × (line ≡ not_enabled_line file number tokens)
    × ComesTo asked before.files (refused file number tokens text)
