use Rattle.std.proofs.Common.{◌+◌, sym, ◌∙◌}
use Rattle.tn_text.proofs.Cutting.{lines-feed, lines-last, drop_to_end}
use Rattle.tn_text.proofs.lines.next_line.Goals as goal

pub returns-in-Some-clause-value : goal.returns-in-Some-clause-value
returns-in-Some-clause-value c =
    rw (drop_to_end (c.in-Some.at + 1) c.args.text.now, c.without_return.ensures)
    (lines-feed c.args.text.now c.in-Some.at c.in-Some.ensures)

pub returns-in-None-clause-value : goal.returns-in-None-clause-value
returns-in-None-clause-value c = lines-last c.args.text.now c.in-None.ensures (sym c.is_empty.ensures ∙ c.if-is_empty.false)
