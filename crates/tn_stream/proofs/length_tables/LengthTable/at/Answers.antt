use Rattle.std.proofs.Common.{◌<◌, length, take, arith, subst, sym}
use Rattle.std.proofs.lemmas.List.{get_or-take}
use Rattle.tn_stream.specs.Inner.LowLengths.{no_lengths, IsLow}
use Rattle.tn_stream.proofs.length_tables.LengthTable.at.Goals as goal

pub returns-clause-low : goal.returns-clause-low
returns-clause-low c =
    let here : c.args.k < length (take c.self.inside.count c.self.inside.table) =
    subst (λ t. c.args.k < length t) (sym c.self.view_is) c.requires in
    subst IsLow (get_or-take c.self.inside.count c.self.inside.table c.args.k no_lengths (omega arith))
    (c.self.invariant.1 c.args.k no_lengths here)
