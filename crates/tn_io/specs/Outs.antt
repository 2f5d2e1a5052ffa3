-- What a write to an output promises.
use Rattle.std.specs.Prelude.{◌≡◌, ℕ, ◌≤◌, List, ◌++◌, take, Option, option_map, Result, OnOk, OnErr}
use Rattle.tn_io.specs.declared.faults.OutFault.{OutFault}
use Rattle.tn_text.specs.Counts.{Rose}

-- what contracts see of an output: the bytes written, where it tells them, and how often it failed
pub record Printed : Type 0 where
  pub bytes : Option (List ℕ)
  pub faults : ℕ

-- told bytes with a piece behind them
abbrev pub told_then : List ℕ → Option (List ℕ) → Option (List ℕ)
told_then piece bytes = option_map (λ bs. bs ++ piece) bytes

pub record Prints {T : Type 0} (piece : List ℕ) (result : Result T OutFault) (before after : Printed) : Type 0 where
  pub ok : OnOk result (after.bytes ≡ told_then piece before.bytes)
  pub err : OnErr result ((k : ℕ) × (after.bytes ≡ told_then (take k piece) before.bytes))
  pub failed : OnErr result (Rose before.faults after.faults)
  pub count : before.faults ≤ after.faults
