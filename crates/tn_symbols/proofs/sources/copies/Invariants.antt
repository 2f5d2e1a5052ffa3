use Rattle.std.proofs.Common.{◌≡◌, take}
use Rattle.tn_symbols.specs.Sources.{modules_of}
use Rattle.tn_symbols.specs.Inner.Sourcing.{offered}
use Rattle.tn_symbols.proofs.sources.copies.Given as goal

abbrev pub invariant-loop-source : goal.invariant-loop-source
invariant-loop-source l =
    l.modules.items ≡ modules_of (offered l.offer) (take l.source-index l.sources)
