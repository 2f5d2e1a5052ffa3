-- What a call promises that prints a text.
use Rattle.std.specs.Prelude.{◌≡◌, ℕ, ◌≤◌, List, take, Result, OnOk, OnErr, IsErrOf}
use Rattle.tn_text.specs.Counts.{Rose}
use Rattle.tn_io.specs.Outs.{Printed, told_then}
use Rattle.tn_list.specs.declared.faults.ListFault.{ListFault}
use Rattle.tn_list.specs.declared.faults.ListFault.TheVariants.{Out}

-- the text was printed, or after a refusal a prefix of it; the output is told where it refused
pub record Lists {T : Type 0} (text : List ℕ) (result : Result T ListFault) (before after : Printed) : Type 0 where
  pub ok : OnOk result (after.bytes ≡ told_then text before.bytes)
  pub refused : OnErr result ((k : ℕ) × (after.bytes ≡ told_then (take k text) before.bytes))
  pub failed : IsErrOf result Out → Rose before.faults after.faults
  pub count : before.faults ≤ after.faults
