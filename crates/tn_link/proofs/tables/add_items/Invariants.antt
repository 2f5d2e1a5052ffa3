use Rattle.std.proofs.Common.{◌≡◌, ℕ, List, take, position}
use Rattle.std.specs.Option.{option_or, option_map}
use Rattle.indexmap.specs.IndexMap.{get}
use Rattle.tn_module.specs.Names.{same_name}
use Rattle.tn_link.specs.Places.{is_code_label, item_target}
use Rattle.tn_link.proofs.tables.add_items.Given as goal

abbrev pub invariant-loop-i : goal.invariant-loop-i
invariant-loop-i l =
    (name : List ℕ) → get same_name l.table name
    ≡ option_or (get same_name l.initial.table name) (option_map (item_target l.start) (position (is_code_label name) (take l.i l.items)))
