-- How a command ended that follows a plan, and how its last step ended.
use Rattle.std.specs.Prelude.{◌≡◌, ◌≤◌, ⊤, ℕ, List, [], ◌++◌, take, Some, None, unwrap_or, Vec, Result, Ok, Err, IfErr, OnOk, OnErr}
use Rattle.std.specs.Prelude.{IsErrOf}
use Rattle.std.specs.declared.alloc.Global.{Global}
use Rattle.tn_text.specs.Counts.{Rose}
use Rattle.tn_io.specs.declared.faults.PutFault.{PutFault}
use Rattle.tn_io.specs.declared.faults.PutFault.TheVariants as put
use Rattle.tn_io.specs.FileLists.{Files, held}
use Rattle.tn_io.specs.Outs.{Printed, told_then}
use Rattle.tn_io.specs.Stores.{Stored}
use Rattle.tn_top.specs.declared.refusals.Refusal.{Refusal}
use Rattle.tn_top.specs.declared.refusals.Refusal.TheVariants as refusal
use Rattle.tn_top.specs.Plans.{Answer, refused, done, Plan, gives, Goes}
use Rattle.tn_top.specs.Outcomes.{Told, SameOthers, Holds, HoldsPart, Begins}
use Rattle.tn_top.specs.Inner.Stages.{Unable}

-- an answer that prints this text, and writes no file
abbrev pub Prints : List ℕ → Answer → Type 0
Prints text (done None said) = text ≡ said
Prints text (refused file line tokens said) = text ≡ said
Prints text _ = ⊥

-- How a command ended that follows a plan: a row for each end.
pub data Ends {T : Type 0} (plan : Plan Answer) (before after : Stored) (old new : Printed) : Result T Refusal → Type 0 where
  wrote_all : (x : T) (file bytes : List ℕ)
      → Goes before.files plan (gives (done (Some (file, bytes)) [])) → Told before.files after.files (Holds file bytes)
      → after.opened ≡ None
      → new.bytes ≡ old.bytes → Ends plan before after old new (Ok x)
  showed_all : (x : T) (text : List ℕ)
      → Goes before.files plan (gives (done None text)) → after.files ≡ before.files
      → new.bytes ≡ told_then text old.bytes → Ends plan before after old new (Ok x)
  unable : (why : Refusal) → Unable plan before after why → after.files ≡ before.files → new.bytes ≡ old.bytes
      → Ends plan before after old new (Err why)
  wrote_part : (file bytes : List ℕ)
      → Goes before.files plan (gives (done (Some (file, bytes)) [])) → Told before.files after.files (HoldsPart file bytes)
      → Rose before.write_faults after.write_faults → new.bytes ≡ old.bytes → Ends plan before after old new (Err (refusal.Unwritten file))
  wrote_for_want : (file bytes : List ℕ)
      → Goes before.files plan (gives (done (Some (file, bytes)) [])) → Told before.files after.files (HoldsPart file bytes)
      → new.bytes ≡ old.bytes → Ends plan before after old new (Err refusal.NoMemory)
  showed_part : (text : List ℕ) (answer : Answer) → Prints text answer
      → Goes before.files plan (gives answer) → after.files ≡ before.files
      → Rose old.faults new.faults → Begins text old new → Ends plan before after old new (Err refusal.Unprinted)
  showed_for_want : (text : List ℕ) (answer : Answer) → Prints text answer
      → Goes before.files plan (gives answer) → after.files ≡ before.files → Begins text old new
      → Ends plan before after old new (Err refusal.NoMemory)
  not_enabled : (file : List ℕ) (line : ℕ) (tokens : Vec ℕ Global) (text : List ℕ)
      → Goes before.files plan (gives (refused file line tokens.items text)) → after.files ≡ before.files
      → new.bytes ≡ told_then text old.bytes → Ends plan before after old new (Err (refusal.NotEnabled file line tokens))

-- why a file was not written
abbrev pub WhyUnwritten : List ℕ → Stored → Stored → Refusal → Type 0
WhyUnwritten file before after (refusal.Unwritten name) = (name ≡ file) × Rose before.write_faults after.write_faults
WhyUnwritten file before after refusal.NoMemory = ⊤
WhyUnwritten file before after _ = ⊥

-- a file was written, or part of it
pub record Puts {T : Type 0} (file bytes : List ℕ) (before after : Stored) (result : Result T Refusal) : Type 0 where
  pub ok : OnOk result (Told before.files after.files (Holds file bytes) × (after.opened ≡ None))
  pub err : IfErr result (λ why. Told before.files after.files (HoldsPart file bytes) × WhyUnwritten file before after why)

-- why a text was not printed
abbrev pub WhyUnprinted : Printed → Printed → Refusal → Type 0
WhyUnprinted old new refusal.Unprinted = Rose old.faults new.faults
WhyUnprinted old new refusal.NoMemory = ⊤
WhyUnprinted old new _ = ⊥

-- a text was printed, or part of it
pub record Shows {T : Type 0} (text : List ℕ) (old new : Printed) (result : Result T Refusal) : Type 0 where
  pub ok : OnOk result (new.bytes ≡ told_then text old.bytes)
  pub err : IfErr result (λ why. Begins text old new × WhyUnprinted old new why)

-- the open file has the bytes behind what it held, and each other name holds what it held
pub record Grows (target piece : List ℕ) (before after : Files) : Type 0 where
  pub grown : held after target ≡ Some (unwrap_or (held before target) [] ++ piece)
  pub others : SameOthers target before after

-- it has a prefix of the bytes behind what it held
abbrev pub GrowsPart : List ℕ → List ℕ → Files → Files → Type 0
GrowsPart target piece before after = (k : ℕ) × Grows target (take k piece) before after

-- a file was made, written and closed; a refusal left it as it was, or a prefix of the bytes in it
pub record PutsFile {T : Type 0} (name bytes : List ℕ) (result : Result T PutFault) (before after : Stored) : Type 0 where
  pub ok : OnOk result (Told before.files after.files (Holds name bytes))
  pub closed : OnOk result (after.opened ≡ None)
  pub err : OnErr result (Told before.files after.files (HoldsPart name bytes))
  pub failed : IsErrOf result put.Failed → Rose before.write_faults after.write_faults
  pub count : before.write_faults ≤ after.write_faults
  pub reading : after.read_faults ≡ before.read_faults

-- bytes were written to the open file of a name; a refusal left a prefix of them there
pub record Extends {T : Type 0} (name bytes : List ℕ) (result : Result T PutFault) (before after : Stored) : Type 0 where
  pub ok : OnOk result (Told before.files after.files (Grows name bytes))
  pub err : OnErr result (Told before.files after.files (GrowsPart name bytes))
  pub still_open : after.opened ≡ Some name
  pub failed : IsErrOf result put.Failed → Rose before.write_faults after.write_faults
  pub count : before.write_faults ≤ after.write_faults
  pub reading : after.read_faults ≡ before.read_faults
