use Rattle.std.proofs.Common.{take}
use Rattle.indexmap.specs.IndexMap.{get}
use Rattle.tn_module.specs.Modules.{module_of}
use Rattle.tn_module.specs.Names.{same_name}
use Rattle.tn_symbols.specs.Definitions.{kind_of}
use Rattle.tn_symbols.specs.Inner.Tables.{TellsMore}
use Rattle.tn_symbols.proofs.definitions.define.Given as goal

abbrev pub invariant-loop-name : goal.invariant-loop-name
invariant-loop-name l =
    TellsMore (get same_name l.initial.definitions) (get same_name l.definitions) (take l.name-index l.raw.exports.items)
    (λ name. record { «module» = l.place; kind = kind_of (module_of l.raw) name })
