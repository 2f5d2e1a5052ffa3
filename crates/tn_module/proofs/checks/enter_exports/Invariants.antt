use Rattle.std.proofs.Common.{◌≡◌, ℕ, ◌<◌, take, None}
use Rattle.tn_module.specs.declared.faults.Place.TheVariants as place
use Rattle.std.specs.List.{All}
use Rattle.tn_module.specs.Ranges.{IsName}
use Rattle.tn_module.specs.Modules.{module_of}
use Rattle.tn_module.specs.Faults.{cause_at}
use Rattle.tn_module.specs.Inner.Sets.{HaveSameNames}
use Rattle.tn_module.proofs.checks.enter_exports.Given as goal

-- the names before are seen, and nothing is wrong before, and what stands before is in its range
abbrev pub invariant-loop-i : goal.invariant-loop-i
invariant-loop-i l = record {
  seen : HaveSameNames l.seen.keys (take l.i l.raw.exports.items);
  sound : (k : ℕ) → k < l.i → cause_at (module_of l.raw) (place.Export k) ≡ None;
  ranges : All IsName (take l.i l.raw.exports.items);
}
