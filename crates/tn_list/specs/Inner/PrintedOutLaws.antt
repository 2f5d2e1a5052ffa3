-- Of sinks over an output: going on is from a value to itself, and over two steps.
use Rattle.std.specs.Prelude.{refl}
use Rattle.std.proofs.Common.{◌∙◌}
use Rattle.tn_list.specs.declared.printed.Printed.{Printed}
use Rattle.tn_list.specs.PrintedOuts.{GoesOn}

-- a value goes on from itself
pub goes_on-itself : {O : Type 0} (goes_on : O → O → Type 0) → ((out : O) → goes_on out out) → (sink : Printed O) → GoesOn goes_on sink sink
goes_on-itself goes_on stays sink = record { same_reference = refl; output = stays sink.out.now }

-- what goes on from a value that goes on goes on
pub goes_on-joined : {O : Type 0} (goes_on : O → O → Type 0)
    → ((first second third : O) → goes_on first second → goes_on second third → goes_on first third) → (first second third : Printed O)
    → GoesOn goes_on first second → GoesOn goes_on second third → GoesOn goes_on first third
goes_on-joined goes_on joined first second third one two = record {
  same_reference = two.same_reference ∙ one.same_reference;
  output = joined first.out.now second.out.now third.out.now one.output two.output;
}
