use Rattle.std.proofs.Common.{rules}
use Rattle.std.proofs.lemmas.Iterator.Consumers.{map_from_collect, YieldsList-from_filter}
use Rattle.std.proofs.lemmas.Iterator.Splits.{YieldsList-from_slice_split}
use Rattle.tn_text.specs.Lines.{is_blank, is_nonempty}
use Rattle.tn_text.proofs.lines.pieces_of.Goals as goal

pub returns : goal.returns
returns c =
    map_from_collect _ c.collect.ensures.ran
    (YieldsList-from_filter _ is_nonempty
    (YieldsList-from_slice_split _ is_blank c.args.text.now (cc) (cc) c.split.ensures.closure (λ x b q k. search rules))
    c.filter.ensures.closure
    (λ x b q k. search rules))
