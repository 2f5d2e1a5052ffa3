use Rattle.std.proofs.Common.{take}
use Rattle.std.specs.Ordering.{nat_cmp}
use Rattle.std.specs.BTreeSet.{contains}
use Rattle.indexmap.specs.IndexMap.{get}
use Rattle.tn_module.specs.Names.{same_name}
use Rattle.tn_symbols.specs.Choices.{imported}
use Rattle.tn_symbols.specs.Sources.{modules_of}
use Rattle.tn_symbols.specs.Inner.Tables.{missing, AreWanted}
use Rattle.tn_symbols.specs.Inner.Sourcing.{offered}
use Rattle.tn_symbols.proofs.closing.wanted_places.Given as goal

abbrev pub invariant-loop-source : goal.invariant-loop-source
invariant-loop-source l =
    AreWanted (contains nat_cmp l.wanted) (missing (get same_name l.places) l.exported.keys)
    (imported (modules_of (offered l.offer) (take l.source-index l.sources)))
