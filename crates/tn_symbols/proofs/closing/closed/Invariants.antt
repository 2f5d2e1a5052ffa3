use Rattle.std.proofs.Common.{◌-◌, length}
use Rattle.std.specs.Ordering.{nat_cmp}
use Rattle.std.specs.BTreeSet.{contains}
use Rattle.indexmap.specs.IndexMap.{get}
use Rattle.tn_module.specs.Names.{same_name}
use Rattle.tn_symbols.specs.Sources.{modules_of}
use Rattle.tn_symbols.specs.Inner.Sourcing.{offered}
use Rattle.tn_symbols.proofs.Picking.{IsPicking}
use Rattle.tn_symbols.proofs.closing.closed.Given as goal

-- what is picked is a beginning of what is chosen, and the places that are wanted next stand in the set
abbrev pub invariant-closing : goal.invariant-closing
invariant-closing l =
    IsPicking (modules_of (offered l.offer) l.first) (modules_of (offered l.offer) l.stock) l.picks.items (get same_name l.places)
    l.exported.keys (contains nat_cmp l.wanted)

abbrev pub decreases-closing : goal.decreases-closing
decreases-closing l = length l.stock - length l.picks.items
