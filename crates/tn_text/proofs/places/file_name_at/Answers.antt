use Rattle.tn_text.proofs.LineBytes.{IsUtf8-line}
use Rattle.tn_text.proofs.places.file_name_at.Goals as goal

pub unreachable-requires : goal.unreachable-requires
unreachable-requires c = c.in_default.ensures.cases.0 (IsUtf8-line c.args.token.now c.requires)
