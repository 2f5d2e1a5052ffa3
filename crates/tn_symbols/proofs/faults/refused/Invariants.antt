use Rattle.std.proofs.Common.{◌≡◌, ℕ, ◌<◌, None}
use Rattle.std.specs.Prelude.{option_and_then, slice_get}
use Rattle.indexmap.specs.IndexMap.{get}
use Rattle.tn_module.specs.Names.{same_name}
use Rattle.tn_symbols.specs.Faults.{import_fault}
use Rattle.tn_symbols.proofs.faults.refused.Given as goal

abbrev pub invariant-loop-i : goal.invariant-loop-i
invariant-loop-i l =
    (k : ℕ) → k < l.i
    → option_and_then (λ import. import_fault l.place k import.kind (get same_name l.definitions import.name)) (slice_get l.imports k)
    ≡ None
