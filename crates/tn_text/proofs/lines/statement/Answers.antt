use Rattle.tn_text.specs.Lines.{begins_comment}
use Rattle.tn_text.proofs.Cutting.{before_found, before_none}
use Rattle.tn_text.proofs.lines.statement.Goals as goal

pub returns-in-Some : goal.returns-in-Some
returns-in-Some c = before_found begins_comment c.args.line.now c.in-Some.at c.in-Some.ensures

pub returns-in-None : goal.returns-in-None
returns-in-None c = before_none begins_comment c.args.line.now c.in-None.ensures
