use Rattle.std.proofs.Common.{take}
use Rattle.indexmap.specs.IndexMap.{get}
use Rattle.tn_module.specs.Names.{same_name}
use Rattle.tn_symbols.specs.Inner.Tables.{TellsMore}
use Rattle.tn_symbols.proofs.names.add_place.Given as goal

abbrev pub invariant-loop-name : goal.invariant-loop-name
invariant-loop-name l =
    TellsMore (get same_name l.initial.places) (get same_name l.places) (take l.name-index l.names) (λ _. l.place)
