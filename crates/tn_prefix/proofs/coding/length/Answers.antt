use Rattle.std.proofs.Common.{◌≡◌, ◌∙◌, ap, arith}
use Rattle.std.specs.Int.{w32}
use Rattle.std.proofs.lemmas.Int.{to_z-of_z}
use Rattle.tn_prefix.specs.Coding.{coding_length}
use Rattle.tn_prefix.proofs.Shortest.{shortest-LoadsAll}
use Rattle.tn_prefix.proofs.coding.length.Goals as goal

pub returns-clause-shortest : goal.returns-clause-shortest
returns-clause-shortest c = λ bytes f loads.
    let value : c.length.result ≡ coding_length c.args.e = c.length.ensures
    ∙ ap coding_length (c.new.ensures.value ∙ to_z-of_z w32 c.args.e c.ranges.e) in
    omega (arith, shortest-LoadsAll c.args.e bytes f c.ranges.e loads)
