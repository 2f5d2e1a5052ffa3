use Rattle.std.proofs.Common.{◌≡◌, ℕ, ◌<◌, take, None}
use Rattle.tn_module.specs.declared.faults.Place.TheVariants as place
use Rattle.std.specs.List.{All}
use Rattle.tn_module.specs.Ranges.{IsImport}
use Rattle.tn_module.specs.Modules.{module_of}
use Rattle.tn_module.specs.Names.{import_names}
use Rattle.tn_module.specs.Faults.{cause_at}
use Rattle.tn_module.specs.Inner.Sets.{HaveSameNames}
use Rattle.tn_module.proofs.checks.enter_imports.Given as goal

-- the names before are seen, and nothing is wrong before, and what stands before is in its range
abbrev pub invariant-loop-i : goal.invariant-loop-i
invariant-loop-i l = record {
  seen : HaveSameNames l.seen.keys (import_names (take l.i l.raw.imports.items));
  sound : (k : ℕ) → k < l.i → cause_at (module_of l.raw) (place.Import k) ≡ None;
  ranges : All IsImport (take l.i l.raw.imports.items);
}
