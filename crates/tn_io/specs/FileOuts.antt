-- Outputs over the open file of a store.
use Rattle.std.specs.Prelude.{◌≡◌, ◌≢◌, ℕ, ◌+◌, ◌-◌, ◌^◌, ◌<◌, ◌≤◌, ◌⊎◌, List, [], Option, Some, None, option_map, unwrap_or, min, Result}
use Rattle.std.specs.Prelude.{Ok, Err, IsSome, IfSome, OnOk, OnErr}
use Rattle.tn_io.specs.declared.faults.OutFault.{OutFault}
use Rattle.tn_io.specs.declared.faults.PutFault.{PutFault}
use Rattle.tn_io.specs.declared.faults.PutFault.TheVariants as put
use Rattle.tn_io.specs.declared.faults.PutKind.{PutKind}
use Rattle.tn_io.specs.declared.faults.PutKind.TheVariants.{Failed, NoMemory}
use Rattle.tn_io.specs.declared.file_outs.FileOut.{FileOut}
use Rattle.tn_text.specs.Counts.{Rose}
use Rattle.tn_io.specs.FileLists.{Files, held}
use Rattle.tn_io.specs.Outs.{Printed}
use Rattle.tn_io.specs.Stores.{Stored, told}

-- what contracts see of an output over a file: the name of its reference to the store, the store, and
-- how its writes were refused
pub record OverFile : Type 0 where
  pub reference : ℕ
  pub stored : Stored
  pub kind : Option PutKind
  pub refused : ℕ

-- what contracts see, by what they see of the store
abbrev pub over_file : {S : Type 0} → (S → Stored) → FileOut S → OverFile
over_file stored out = record { reference = out.store.ghost_name; stored = stored out.store.now; kind = out.kind; refused = out.refused }

-- the bytes of an open file, where the files are told
unfoldable pub bytes_open : Option (List ℕ) → Option Files → Option (List ℕ)
bytes_open None files = None
bytes_open (Some name) files = option_map (λ fs. unwrap_or (held fs name) []) files

-- it tells the bytes of the open file
abbrev pub printed_to : OverFile → Printed
printed_to out = record { bytes = bytes_open out.stored.opened out.stored.files; faults = out.refused }

-- the open file, where the files are told, is one of them
abbrev pub IsThere : Option (List ℕ) → Option Files → Type 0
IsThere opened files = IfSome opened (λ name. IfSome (told files name) IsSome)

-- an output over an open file was written to, and nothing else was done to its store
pub record IsLater (before after : OverFile) : Type 0 where
  -- it holds the same reference to the store
  pub same_reference : after.reference ≡ before.reference
  -- a file of the same name is open
  pub still_open : after.stored.opened ≡ before.stored.opened
  -- and is still there, where it was
  pub there : IsThere before.stored.opened before.stored.files → IsThere after.stored.opened after.stored.files
  -- all other names hold what they held
  pub others : (name : List ℕ) → before.stored.opened ≢ Some name → told after.stored.files name ≡ told before.stored.files name
  -- no more reads failed
  pub reading : after.stored.read_faults ≡ before.stored.read_faults
  -- the count of write faults did not fall
  pub count : before.stored.write_faults ≤ after.stored.write_faults
  -- what had a kind of refusal has one
  pub kept : IsSome before.kind → IsSome after.kind
  -- a refusal left its kind
  pub marked : before.refused < after.refused → IsSome after.kind
  -- a failure was one before, or counts in the store
  pub failed : after.kind ≡ Some Failed → (before.kind ≡ Some Failed) ⊎ Rose before.stored.write_faults after.stored.write_faults

-- the later output goes on from the earlier one
abbrev pub GoesOn : OverFile → OverFile → Type 0
GoesOn before after = IsSome before.stored.opened → IsLater before after

-- a write kept the reference, and a refused one was counted and left its kind
pub record Marks {T : Type 0} (result : Result T OutFault) (before after : OverFile) : Type 0 where
  pub same_reference : after.reference ≡ before.reference
  pub ok : OnOk result ((after.kind ≡ before.kind) × (after.refused ≡ before.refused))
  pub err : OnErr result (IsSome after.kind × (after.refused ≡ min (before.refused + 1) (2 ^ 64 - 1)))
  pub rose : OnErr result (Rose before.refused after.refused)
  pub no_less : before.refused ≤ after.refused

-- what the store answered to a write, by the output's answer and the kind that it then had
abbrev pub answered : {T : Type 0} → Result T OutFault → Option PutKind → Result T PutFault
answered (Ok x) kind = Ok x
answered (Err e) None = Err put.Failed
answered (Err e) (Some Failed) = Err put.Failed
answered (Err e) (Some NoMemory) = Err put.NoMemory
