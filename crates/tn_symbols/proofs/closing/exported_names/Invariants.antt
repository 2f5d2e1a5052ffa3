use Rattle.std.proofs.Common.{take}
use Rattle.tn_module.specs.Inner.Sets.{HaveSameNames}
use Rattle.tn_symbols.specs.Choices.{exported}
use Rattle.tn_symbols.specs.Sources.{modules_of}
use Rattle.tn_symbols.specs.Inner.Sourcing.{offered}
use Rattle.tn_symbols.proofs.closing.exported_names.Given as goal

abbrev pub invariant-loop-source : goal.invariant-loop-source
invariant-loop-source l =
    HaveSameNames l.names.keys (exported (modules_of (offered l.offer) (take l.source-index l.sources)))
