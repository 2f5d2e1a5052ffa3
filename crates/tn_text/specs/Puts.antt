-- What a put promises.
use Rattle.std.specs.Prelude.{◌≡◌, ℕ, ◌≤◌, List, ◌++◌, take, Option, option_map, Result, OnOk, OnErr}
use Rattle.tn_text.specs.declared.puts.PutRefused.{PutRefused}
use Rattle.tn_text.specs.Counts.{Rose}

-- what contracts see of a sink: the bytes taken, where it tells them, and how often it refused
pub record Taken : Type 0 where
  pub bytes : Option (List ℕ)
  pub refusals : ℕ

-- told bytes with a piece behind them
abbrev pub taken_then : List ℕ → Option (List ℕ) → Option (List ℕ)
taken_then piece bytes = option_map (λ bs. bs ++ piece) bytes

-- a piece was put: all of it, or after a refusal, which counts, a prefix of it
pub record Puts {T : Type 0} (piece : List ℕ) (result : Result T PutRefused) (before after : Taken) : Type 0 where
  pub ok : OnOk result (after.bytes ≡ taken_then piece before.bytes)
  pub err : OnErr result ((k : ℕ) × (after.bytes ≡ taken_then (take k piece) before.bytes))
  pub refused : OnErr result (Rose before.refusals after.refusals)
  pub count : before.refusals ≤ after.refusals
