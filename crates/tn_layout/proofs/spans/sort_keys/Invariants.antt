use Rattle.std.proofs.Common.{◌≡◌, ◌++◌, drop, map}
use Rattle.tn_layout.specs.Spans.{references_from, references}
use Rattle.tn_layout.specs.Inner.Orders.{sort_key}
use Rattle.tn_layout.proofs.spans.sort_keys.Given as goal

-- the numbers so far and those of the references to come are those of all
abbrev pub invariant-loop-i : goal.invariant-loop-i
invariant-loop-i l = l.keys.items ++ map (λ i. sort_key l.pieces i) (references_from l.i (drop l.i l.pieces))
    ≡ map (λ i. sort_key l.pieces i) (references l.pieces)
