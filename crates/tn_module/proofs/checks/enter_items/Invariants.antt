use Rattle.std.proofs.Common.{◌≡◌, ℕ, ◌<◌, ◌++◌, take, None}
use Rattle.tn_module.specs.declared.faults.Place.TheVariants as place
use Rattle.std.specs.List.{All}
use Rattle.tn_module.specs.Ranges.{IsItem}
use Rattle.tn_module.specs.Modules.{module_of}
use Rattle.tn_module.specs.Names.{import_names, code_labels}
use Rattle.tn_module.specs.Faults.{cause_at}
use Rattle.tn_module.specs.Inner.Sets.{HaveSameNames}
use Rattle.tn_module.proofs.checks.enter_items.Given as goal

-- the names before are seen, and nothing is wrong before, and what stands before is in its range
abbrev pub invariant-loop-i : goal.invariant-loop-i
invariant-loop-i l = record {
  seen : HaveSameNames l.seen.keys (import_names l.raw.imports.items ++ code_labels (take l.i l.raw.items.items));
  sound : (k : ℕ) → k < l.i → cause_at (module_of l.raw) (place.Item k) ≡ None;
  ranges : All IsItem (take l.i l.raw.items.items);
}
