use Rattle.std.proofs.Common.{◌≡◌, ◌++◌, map, take}
use Rattle.tn_symbols.specs.Sources.{source_at}
use Rattle.tn_symbols.proofs.sources.with_picks.Given as goal

abbrev pub invariant-loop-place : goal.invariant-loop-place
invariant-loop-place l =
    l.sources.items ≡ l.initial.sources.items ++ map (source_at l.stock) (take l.place-index l.picks)
