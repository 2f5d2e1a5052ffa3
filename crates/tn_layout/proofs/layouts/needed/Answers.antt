use Rattle.std.proofs.Common.{◌+◌, sym, ap, ◌∙◌, w32, FitsSigned}
use Rattle.std.proofs.lemmas.Int.{to_z-of_z}
use Rattle.tn_prefix.specs.Coding.{coding_length}
use Rattle.tn_layout.specs.Sizes.{needed}
use Rattle.tn_layout.proofs.LayoutLaws.{sums-distance}
use Rattle.tn_layout.proofs.layouts.needed.Goals as goal

pub returns-in-Rel-clause-needed : goal.returns-in-Rel-clause-needed
returns-in-Rel-clause-needed g c sizes summed =
    let fits : FitsSigned w32 c.distance.result = record { sfits = c.distance.type_inv } in
    c.length_counted.ensures.length
    ∙ (ap coding_length (to_z-of_z w32 c.distance.result fits ∙ c.distance.ensures ∙ sums-distance sizes c.args.sums.now.nodes.items
    c.args.sums.now.width summed c.in-Rel.to (c.args.i + 1))
    ∙ ap (λ p. needed sizes c.args.i p) (sym c.in-Rel.is))

pub returns-in-Diff-clause-needed : goal.returns-in-Diff-clause-needed
returns-in-Diff-clause-needed g c sizes summed =
    let fits : FitsSigned w32 c.distance-in-Diff.result = record { sfits = c.distance-in-Diff.type_inv } in
    c.length_counted-in-Diff.ensures.length
    ∙ (ap coding_length (to_z-of_z w32 c.distance-in-Diff.result fits ∙ c.distance-in-Diff.ensures
    ∙ sums-distance sizes c.args.sums.now.nodes.items c.args.sums.now.width summed c.in-Diff.high c.in-Diff.low)
    ∙ ap (λ p. needed sizes c.args.i p) (sym c.in-Diff.is))
