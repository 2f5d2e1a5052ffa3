use Rattle.std.proofs.Common.{◌≡◌, ℕ, ◌<◌, List, take, None}
use Rattle.indexmap.specs.IndexMap.{get}
use Rattle.tn_module.specs.Names.{same_name}
use Rattle.tn_symbols.specs.Definitions.{definition_of}
use Rattle.tn_symbols.specs.Faults.{ExportAt, fault_at}
use Rattle.tn_symbols.proofs.faults.check_exports.Given as goal

abbrev pub invariant-loop-m : goal.invariant-loop-m
invariant-loop-m l =
    record {
      definitions : (name : List ℕ) → get same_name l.definitions name ≡ definition_of (take l.m l.modules) name;
      sound : (k i : ℕ) → k < l.m → fault_at l.modules (ExportAt k i) ≡ None;
    }
