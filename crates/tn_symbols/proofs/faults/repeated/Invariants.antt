use Rattle.std.proofs.Common.{◌≡◌, ℕ, ◌<◌, Some, None, is_some, if◌then◌else◌}
use Rattle.std.specs.Prelude.{option_and_then, slice_get}
use Rattle.tn_symbols.specs.declared.choices.ChooseFault.TheVariants as choose
use Rattle.indexmap.specs.IndexMap.{get}
use Rattle.tn_module.specs.Names.{same_name}
use Rattle.tn_symbols.proofs.faults.repeated.Given as goal

abbrev pub invariant-loop-i : goal.invariant-loop-i
invariant-loop-i l =
    (k : ℕ) → k < l.i
    → option_and_then (λ name. if is_some (get same_name l.definitions name) then Some (choose.Duplicate l.place k) else None)
    (slice_get l.exports k) ≡ None
