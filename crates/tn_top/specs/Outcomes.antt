-- What a command promises of how it ends, and of what it leaves.
use Rattle.std.specs.Prelude.{◌≡◌, ◌≢◌, ⊤, ℕ, ◌⊎◌, not, List, [], filter, take, Option, Some, None, IfSome}
use Rattle.std.specs.Str.{bytes_eq}
use Rattle.tn_text.specs.Counts.{Rose}
use Rattle.tn_io.specs.FileLists.{Files, held}
use Rattle.tn_io.specs.Outs.{Printed, told_then}
use Rattle.tn_io.specs.Stores.{Stored}
use Rattle.tn_text.specs.declared.faults.Fault.{Fault}
use Rattle.tn_text.specs.declared.limits.Limit.{Limit}
use Rattle.tn_top.specs.declared.statuses.Status.{Status}
use Rattle.tn_top.specs.declared.statuses.Status.TheVariants as status
use Rattle.tn_system.specs.Systems.{SystemState}
use Rattle.tn_top.specs.Plans.{Answer, usage, unread, fault, limit, refused, done, Plan, gives, stops, reads, settles, Goes}
use Rattle.tn_top.specs.Commands.{Answers}

-- a relation between told files; nothing is said of files that are told neither before nor after
abbrev pub Told : Option Files → Option Files → (Files → Files → Type 0) → Type 0
Told None None P = ⊤
Told (Some before) (Some after) P = P before after
Told _ _ P = ⊥

-- each name holds what it held
abbrev pub SameFiles : Files → Files → Type 0
SameFiles before after = (name : List ℕ) → held after name ≡ held before name

-- each other name holds what it held
abbrev pub SameOthers : List ℕ → Files → Files → Type 0
SameOthers target before after = (name : List ℕ) → name ≢ target → held after name ≡ held before name

-- the file holds the bytes, and each other name what it held
pub record Holds (target bytes : List ℕ) (before after : Files) : Type 0 where
  pub written : held after target ≡ Some bytes
  pub others : SameOthers target before after

-- the file is as before or holds a prefix of the bytes, and each other name holds what it held
pub record HoldsPart (target bytes : List ℕ) (before after : Files) : Type 0 where
  pub part : (held after target ≡ held before target) ⊎ ((k : ℕ) × (held after target ≡ Some (take k bytes)))
  pub others : SameOthers target before after

-- files without those of a name
unfoldable pub without : Files → List ℕ → Files
without files name = filter (λ file. not (bytes_eq file.0 name)) files

-- a prefix of a text was printed
unfoldable pub Begins : List ℕ → Printed → Printed → Type 0
Begins text old new = (k : ℕ) × (new.bytes ≡ told_then (take k text) old.bytes)

-- the text that an answer prints
abbrev pub printed_by : Answer → List ℕ
printed_by (done file text) = text
printed_by (refused file line tokens text) = text
printed_by _ = []

-- the status of an answer
abbrev pub status_of : Answer → Status
status_of usage = status.Usage
status_of (unread file) = status.ReadFault
status_of (fault file first) = status.Fault
status_of (limit which count) = status.Limit
status_of (refused file line tokens text) = status.NotEnabled
status_of (done file text) = status.Done

-- all is done
abbrev pub IsDone : Answer → Type 0
IsDone (done file text) = ⊤
IsDone _ = ⊥

-- all is done, or all but what a step that isn't enabled would lead to
abbrev pub IsPrinted : Answer → Type 0
IsPrinted (done file text) = ⊤
IsPrinted (refused file line tokens text) = ⊤
IsPrinted _ = ⊥

-- what was asked for comes to an answer like this over files
abbrev pub AnswersLike : Option (Plan Answer) → Files → (Answer → Type 0) → Type 0
AnswersLike asked files P = (answer : Answer) × Answers asked files answer × P answer

-- the answer is that this file isn't there: over the files, where they are told; else whatever they hold,
-- since it isn't one of a plan's own
abbrev pub IsUnread : Option (Plan Answer) → Option Files → List ℕ → Type 0
IsUnread asked (Some files) file = Answers asked files (unread file)
IsUnread None None file = ⊥
IsUnread (Some plan) None file = Goes None plan (stops (unread file))

-- This file cannot be read: the answer is that it isn't there; or a read failed, and that is the answer
-- without the file, where the files are told.
abbrev pub CannotRead : Option (Plan Answer) → Stored → Stored → List ℕ → Type 0
CannotRead asked before after file =
    IsUnread asked before.files file
    ⊎ (Rose before.read_faults after.read_faults × IfSome before.files (λ files. Answers asked (without files file) (unread file)))

-- What has to have happened where a command ends with a status: a row for each. `asked` is the plan that
-- the words ask for, if they spell a command.
abbrev pub HasCause : Option (Plan Answer) → Stored → Stored → Printed → Printed → Status → Type 0
HasCause asked before after old new status.Done = IfSome before.files (λ files. AnswersLike asked files IsDone)
HasCause asked before after old new status.Fault =
    IfSome before.files (λ files. (file : List ℕ) × (first : Fault) × Answers asked files (fault file first))
HasCause asked before after old new status.Usage = asked ≡ None
HasCause asked before after old new status.Limit =
    IfSome before.files (λ files. (which : Limit) × (count : ℕ) × Answers asked files (limit which count))
HasCause asked before after old new status.ReadFault = (file : List ℕ) × CannotRead asked before after file
HasCause asked before after old new status.WriteFault = Rose before.write_faults after.write_faults
    × IfSome before.files (λ files. AnswersLike asked files IsDone)
HasCause asked before after old new status.OutFault = Rose old.faults new.faults
    × IfSome before.files (λ files. AnswersLike asked files IsPrinted)
HasCause asked before after old new status.NoMemory = ⊤
HasCause asked before after old new status.NotEnabled =
    IfSome before.files (λ files. (file : List ℕ) × (line : ℕ) × (tokens text : List ℕ)
    × Answers asked files (refused file line tokens text))

-- no call failed
pub record NothingFailed (before after : Stored) (old new : Printed) : Type 0 where
  pub reading : Rose before.read_faults after.read_faults → ⊥
  pub writing : Rose before.write_faults after.write_faults → ⊥
  pub printing : Rose old.faults new.faults → ⊥

-- the status is this, unless memory ran out
abbrev pub Unless : Status → Status → Type 0
Unless s wanted = (s ≡ status.NoMemory) ⊎ (s ≡ wanted)

-- the status is the answer's, unless memory ran out
abbrev pub HasStatus : Option (Plan Answer) → Files → Status → Type 0
HasStatus asked files s = (s ≡ status.NoMemory) ⊎ AnswersLike asked files (λ answer. s ≡ status_of answer)

-- what the files hold that an answer leaves
abbrev pub Leaves : Answer → Files → Files → Type 0
Leaves (done (Some file) text) before after = Holds file.0 file.1 before after
Leaves _ before after = SameFiles before after

-- the same where the file of the answer was not written, or not whole
abbrev pub LeavesPart : Answer → Files → Files → Type 0
LeavesPart (done (Some file) text) before after = HoldsPart file.0 file.1 before after
LeavesPart _ before after = ⊥

-- what the files hold after a command, by what was asked for and the status
abbrev pub FilesAfter : Option (Plan Answer) → Status → Files → Files → Type 0
FilesAfter asked status.Done before after = AnswersLike asked before (λ answer. Leaves answer before after)
FilesAfter asked status.WriteFault before after = AnswersLike asked before (λ answer. LeavesPart answer before after)
FilesAfter asked status.NoMemory before after =
    SameFiles before after ⊎ AnswersLike asked before (λ answer. LeavesPart answer before after)
FilesAfter asked status before after = SameFiles before after

-- the text of an answer was printed, or a prefix of it
abbrev pub PrintsWhole : Printed → Printed → Answer → Type 0
PrintsWhole old new answer = new.bytes ≡ told_then (printed_by answer) old.bytes

abbrev pub PrintsPart : Printed → Printed → Answer → Type 0
PrintsPart old new answer = Begins (printed_by answer) old new

-- what was printed, by what was asked for, the files before and the status
abbrev pub PrintedAfter : Option (Plan Answer) → Files → Status → Printed → Printed → Type 0
PrintedAfter asked files status.Done old new = AnswersLike asked files (PrintsWhole old new)
PrintedAfter asked files status.NotEnabled old new = AnswersLike asked files (PrintsWhole old new)
PrintedAfter asked files status.OutFault old new = AnswersLike asked files (PrintsPart old new)
PrintedAfter asked files status.NoMemory old new = (new.bytes ≡ old.bytes) ⊎ AnswersLike asked files (PrintsPart old new)
PrintedAfter asked files _ old new = new.bytes ≡ old.bytes

-- whatever the texts that a plan reads and the systems that it settles, what it gives is such a value
unfoldable pub AllGiven : {A : Type 0} → (A → Type 0) → Plan A → Type 0
AllGiven P (gives x) = P x
AllGiven P (stops answer) = ⊤
AllGiven P (reads file next) = (text : List ℕ) → AllGiven P (next text)
AllGiven P (settles sources next) = (system : SystemState) → AllGiven P (next system)

-- an answer that writes this file
abbrev pub WritesTo : List ℕ → Answer → Type 0
WritesTo target (done (Some file) text) = file.0 ≡ target
WritesTo target _ = ⊥

-- words ask for a command that writes a file
abbrev pub Writes : Option (Plan Answer) → List ℕ → Type 0
Writes None target = ⊥
Writes (Some plan) target = AllGiven (WritesTo target) plan
