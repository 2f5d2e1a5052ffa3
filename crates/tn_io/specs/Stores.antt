-- What the calls of a store promise.
use Rattle.std.specs.Prelude.{◌≡◌, ℕ, ◌+◌, ◌<◌, ◌≤◌, ◌⊎◌, List, [], length, take, Option, Some, None, option_map, Result, Ok, Err, IfSome}
use Rattle.std.specs.Prelude.{IsSomeAnd, OnOk, OnErr, IsErrOf}
use Rattle.tn_io.specs.declared.faults.GetFault.{GetFault}
use Rattle.tn_io.specs.declared.faults.GetFault.TheVariants as get
use Rattle.tn_io.specs.declared.faults.PutFault.{PutFault}
use Rattle.tn_io.specs.declared.faults.PutFault.TheVariants as put
use Rattle.tn_text.specs.Counts.{Rose}
use Rattle.tn_io.specs.FileLists.{Files, held, with_file, with_more, with_front, HasDistinctNames}

-- what contracts see of a store: its files, where it tells them, the name of the open file, and
-- how often it failed to read and to write
pub record Stored : Type 0 where
  pub files : Option Files
  pub opened : Option (List ℕ)
  pub read_faults : ℕ
  pub write_faults : ℕ

-- what the files hold under a name, where they are told
abbrev pub told : Option Files → List ℕ → Option (Option (List ℕ))
told files name = option_map (λ fs. held fs name) files

-- told files with these bytes under a name
abbrev pub told_with : List ℕ → List ℕ → Option Files → Option Files
told_with name bytes files = option_map (with_file name bytes) files

-- told files with more bytes in the open file
abbrev pub told_more : Option (List ℕ) → List ℕ → Option Files → Option Files
told_more None more files = files
told_more (Some name) more files = option_map (with_more name more) files

-- told files with the first bytes alone in the open file
abbrev pub told_front : Option (List ℕ) → ℕ → Option Files → Option Files
told_front None count files = files
told_front (Some name) count files = option_map (with_front name count) files

-- a store that tells its files has no name twice, before a call and after it
pub record TellsEachOnce (before after : Stored) : Type 0 where
  pub before_it : IfSome before.files HasDistinctNames
  pub after_it : IfSome after.files HasDistinctNames

-- What a get answers and reads, of a file that is told or not: all bytes of the file; or none, since
-- it is missing, the store failed, the file is too long, or memory ran out.
abbrev pub Reads : {T : Type 0} → Option (Option (List ℕ)) → ℕ → ℕ → ℕ → Result T GetFault → List ℕ → Type 0
Reads file limit before after (Ok _) bytes = (length bytes ≤ limit) × IfSome file (λ f. f ≡ Some bytes)
Reads file limit before after (Err get.Failed) bytes = (bytes ≡ []) × (Rose before after ⊎ (file ≡ Some None))
Reads file limit before after (Err (get.TooLong n)) bytes = (bytes ≡ []) × (n ≡ limit + 1)
    × IfSome file (λ f. IsSomeAnd f (λ bs. limit < length bs))
Reads file limit before after (Err get.NoMemory) bytes = bytes ≡ []

pub record Gets {T : Type 0} (name : List ℕ) (limit : ℕ) (result : Result T GetFault) (bytes : List ℕ) (before after : Stored) : Type 0
  where
    pub reads : Reads (told before.files name) limit before.read_faults after.read_faults result bytes
    -- a name that isn't held is told so, and raises no count
    pub missing : told before.files name ≡ Some None → IsErrOf result get.Failed × (after ≡ before)
    pub same : after ≡ record before { read_faults = after.read_faults }
    pub count : before.read_faults ≤ after.read_faults

pub record Creates {T : Type 0} (name : List ℕ) (result : Result T PutFault) (before after : Stored) : Type 0 where
  pub ok : OnOk result ((after.files ≡ told_with name [] before.files) × (after.opened ≡ Some name))
  pub err : OnErr result (((after.files ≡ before.files) ⊎ (after.files ≡ told_with name [] before.files)) × (after.opened ≡ None))
  pub failed : IsErrOf result put.Failed → Rose before.write_faults after.write_faults
  pub reading : after.read_faults ≡ before.read_faults
  pub count : before.write_faults ≤ after.write_faults

pub record Writes {T : Type 0} (piece : List ℕ) (result : Result T PutFault) (before after : Stored) : Type 0 where
  pub ok : OnOk result (after.files ≡ told_more before.opened piece before.files)
  pub err : OnErr result ((after.files ≡ before.files) ⊎ ((k : ℕ) × (after.files ≡ told_more before.opened (take k piece) before.files)))
  pub failed : IsErrOf result put.Failed → Rose before.write_faults after.write_faults ⊎ (before.opened ≡ None)
  -- with no open file nothing is done, and no count rises
  pub idle : before.opened ≡ None → IsErrOf result put.Failed × (after ≡ before)
  pub opened : after.opened ≡ before.opened
  pub reading : after.read_faults ≡ before.read_faults
  pub count : before.write_faults ≤ after.write_faults

pub record Closes {T : Type 0} (result : Result T PutFault) (before after : Stored) : Type 0 where
  pub ok : OnOk result (after.files ≡ before.files)
  pub err : OnErr result ((after.files ≡ before.files) ⊎ ((k : ℕ) × (after.files ≡ told_front before.opened k before.files)))
  pub failed : IsErrOf result put.Failed → Rose before.write_faults after.write_faults ⊎ (before.opened ≡ None)
  -- with no open file nothing is done, and no count rises
  pub idle : before.opened ≡ None → IsErrOf result put.Failed × (after ≡ before)
  pub closed : after.opened ≡ None
  pub reading : after.read_faults ≡ before.read_faults
  pub count : before.write_faults ≤ after.write_faults
