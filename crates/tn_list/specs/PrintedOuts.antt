-- Sinks of printed text over outputs.
use Rattle.std.specs.Prelude.{◌≡◌}
use Rattle.tn_io.specs.Outs as out
use Rattle.tn_text.specs.Puts.{Taken}
use Rattle.tn_list.specs.declared.printed.Printed.{Printed}

-- it took what its output tells, and refused as often as its output failed
abbrev pub taken_by : {O : Type 0} → (O → out.Printed) → Printed O → Taken
taken_by printed sink = record { bytes = (printed sink.out.now).bytes; refusals = (printed sink.out.now).faults }

-- the later sink holds the same reference, and its output goes on from the earlier one's
pub record GoesOn {O : Type 0} (goes_on : O → O → Type 0) (before after : Printed O) : Type 0 where
  pub same_reference : after.out.ghost_name ≡ before.out.ghost_name
  pub output : goes_on before.out.now after.out.now
