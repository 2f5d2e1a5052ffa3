use Rattle.std.proofs.Common.{◌≡◌, ℕ, List, take, None, if◌then◌else◌}
use Rattle.std.specs.Option.{option_or}
use Rattle.indexmap.specs.IndexMap.{get}
use Rattle.tn_module.specs.Names.{same_name, is_among}
use Rattle.tn_link.proofs.tables.add_exports.Given as goal

abbrev pub invariant-loop-name : goal.invariant-loop-name
invariant-loop-name l =
    (q : List ℕ) → get same_name l.table q
    ≡ option_or (get same_name l.initial.table q) (if is_among (take l.name-index l.exports) q then get same_name l.own q else None)
