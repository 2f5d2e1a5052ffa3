use Rattle.std.proofs.Common.{◌++◌, take}
use Rattle.tn_module.specs.Inner.Sets.{HaveSameNames}
use Rattle.tn_symbols.proofs.names.add_names.Given as goal

abbrev pub invariant-loop-name : goal.invariant-loop-name
invariant-loop-name l =
    HaveSameNames l.set.keys (l.initial.set.keys ++ take l.name-index l.names)
