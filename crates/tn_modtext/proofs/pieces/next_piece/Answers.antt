use Rattle.std.proofs.Common.{◌+◌, sym, ◌∙◌}
use Rattle.tn_text.proofs.Cutting.{drop_to_end}
use Rattle.tn_modtext.proofs.Cutting.{pieces-nothing, pieces-empty, pieces-feed, pieces-last}
use Rattle.tn_modtext.proofs.pieces.next_piece.Goals as goal

pub returns-in-Some-clause-value : goal.returns-in-Some-clause-value
returns-in-Some-clause-value c =
    rw (drop_to_end (c.in-Some.at + 1) c.args.text.now) (pieces-feed c.args.text.now c.in-Some.at c.in-Some.ensures)

pub returns-in-None-clause-value : goal.returns-in-None-clause-value
returns-in-None-clause-value c =
    rw pieces-nothing (pieces-last c.args.text.now c.in-None.ensures (sym c.is_empty.ensures ∙ c.if-is_empty.false))

pub returns-then-is_empty-clause-value : goal.returns-then-is_empty-clause-value
returns-then-is_empty-clause-value c = pieces-empty c.args.text.now (sym c.is_empty.ensures ∙ c.if-is_empty.true)
