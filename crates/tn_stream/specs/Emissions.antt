-- What a call promises that emits a text through an output.
use Rattle.std.specs.Prelude.{◌≡◌, ℕ, ◌≤◌, List, length, take, Result, IfOk, IsErrOf}
use Rattle.tn_text.specs.Counts.{Rose}
use Rattle.tn_io.specs.Outs.{Printed, told_then}
use Rattle.tn_stream.specs.declared.faults.StreamFault.{StreamFault}
use Rattle.tn_stream.specs.declared.faults.StreamFault.TheVariants.{Out, NoMemory}

-- the bytes were emitted and their number answered
pub record Emits (bytes : List ℕ) (result : Result ℕ StreamFault) (before after : Printed) : Type 0 where
  -- all of them at Ok
  pub ok : IfOk result (λ n. (n ≡ length bytes) × (after.bytes ≡ told_then bytes before.bytes))
  -- a prefix of them at a refusal
  pub refused : IsErrOf result Out → (k : ℕ) × (after.bytes ≡ told_then (take k bytes) before.bytes)
  -- which comes only from the output
  pub failed : IsErrOf result Out → Rose before.faults after.faults
  -- and none without memory
  pub memory : IsErrOf result NoMemory → after ≡ before
  pub count : before.faults ≤ after.faults
