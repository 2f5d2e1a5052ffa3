use Rattle.std.proofs.Common.{◌≡◌, ◌++◌}
use Rattle.tn_symbols.specs.Sources.{sources_in}
use Rattle.tn_symbols.proofs.sources.add_sources.Given as goal

abbrev pub invariant-loop-index : goal.invariant-loop-index
invariant-loop-index l =
    l.sources.items ≡ l.initial.sources.items ++ sources_in l.library l.index
