-- The modules of a program with the tables that the code makes of them.
use Rattle.std.specs.Prelude.{◌≡◌, ℕ, ◌≤◌, List, map, length}
use Rattle.std.specs.List.{range_with_len}
use Rattle.indexmap.specs.IndexMap.{get}
use Rattle.tn_text.specs.declared.limits.TheConstants.{ITEM_LIMIT, CELL_LIMIT}
use Rattle.tn_module.specs.Names.{same_name}
use Rattle.tn_link.specs.declared.tables.Plan.{Plan}
use Rattle.tn_link.specs.Places.{item_count, cells_end, start, exported_label}
use Rattle.tn_link.specs.Linking.{AreLinkable}
use Rattle.tn_link.specs.Inner.Elements.{AreValid}

pub record IsPlan (plan : Plan) : Type 0 where
  pub linkable : AreLinkable plan.modules.now
  pub valid : AreValid plan.modules.now
  pub items : item_count plan.modules.now ≤ ITEM_LIMIT
  pub cells : cells_end plan.modules.now ≤ CELL_LIMIT
  pub starts : plan.starts.now ≡ map (start plan.modules.now) (range_with_len 0 (length plan.modules.now))
  pub exports : (name : List ℕ) → get same_name plan.exports.now name ≡ exported_label plan.modules.now name
