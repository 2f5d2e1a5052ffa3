use Rattle.std.proofs.Common.{take}
use Rattle.std.specs.Ordering.{nat_cmp}
use Rattle.std.specs.BTreeSet.{contains}
use Rattle.indexmap.specs.IndexMap.{get}
use Rattle.tn_module.specs.Names.{same_name, import_names}
use Rattle.tn_symbols.specs.Inner.Tables.{missing, WantsMore}
use Rattle.tn_symbols.proofs.names.want.Given as goal

abbrev pub invariant-loop-import : goal.invariant-loop-import
invariant-loop-import l =
    WantsMore (contains nat_cmp l.initial.wanted) (contains nat_cmp l.wanted) (missing (get same_name l.places) l.exported.keys)
    (import_names (take l.import-index l.imports))
