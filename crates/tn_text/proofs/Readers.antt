-- What the answer of a reader says of a text, where the law of its reading is known.
use Rattle.std.proofs.Common.{◌≡◌, Result, Ok, Err, IfOk, sym, ap, ◌∙◌}
use Rattle.tn_text.specs.declared.faults.Fault.{Fault}
use Rattle.tn_text.specs.declared.faults.ReadFault.{ReadFault}
use Rattle.tn_text.specs.declared.faults.ReadFault.TheVariants as read
use Rattle.tn_text.specs.Reading.{Gives, IsReading}

module _ {T A : Type 0} (seen : T → A) (StandsFor : A → Type 0) (IsFault : Fault → Type 0) (reading : Result A Fault)
    (law : IsReading StandsFor IsFault reading) where
  -- the text stands for the value
  pub gives-found : (result : Result T ReadFault) → Gives seen result reading → IfOk result (λ value. StandsFor (seen value))
  gives-found (Ok value) g = law.found (seen value) (sym g)
  gives-found (Err e) g = tt

  -- a value that the text stands for is given, unless there is no memory
  pub gives-only : (result : Result T ReadFault) → Gives seen result reading → (value : A) → StandsFor value → Gives seen result (Ok value)
  gives-only (Ok found) g value stands = g ∙ law.only value stands
  gives-only (Err (read.Fault fault)) g value stands = g ∙ law.only value stands
  gives-only (Err read.NoMemory) g value stands = tt

  -- the fault is the text's
  pub gives-fault : (result : Result T ReadFault) → Gives seen result reading → (fault : Fault) → result ≡ Err (read.Fault fault)
      → IsFault fault
  gives-fault (Ok found) g fault e = absurd cc
  gives-fault (Err (read.Fault told)) g fault e = let same : told ≡ fault = cc in law.fault fault (sym g ∙ ap Err same)
  gives-fault (Err read.NoMemory) g fault e = absurd cc
