-- What a reader promises.
use Rattle.std.specs.Prelude.{◌≡◌, Result, Ok, Err, IfOk}
use Rattle.tn_text.specs.declared.faults.Fault.{Fault}
use Rattle.tn_text.specs.declared.faults.ReadFault.{ReadFault}
use Rattle.tn_text.specs.declared.faults.ReadFault.TheVariants as read
use Rattle.tn_text.specs.Reading.{Gives}

-- unless there is no memory: a value exactly where the text stands for it, and else the text's fault
pub record Reads {A : Type 0} (StandsFor : A → Type 0) (IsFault : Fault → Type 0) (result : Result A ReadFault) : Type 0 where
  pub found : IfOk result StandsFor
  pub only : (value : A) → StandsFor value → Gives (λ v. v) result (Ok value)
  pub fault : (fault : Fault) → result ≡ Err (read.Fault fault) → IsFault fault
  pub refused : (fault : Fault) → IsFault fault → Gives (λ v. v) result (Err fault)
