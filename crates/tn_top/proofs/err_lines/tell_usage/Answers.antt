use Rattle.tn_top.specs.Refusals.{usage_line}
use Rattle.tn_top.proofs.ErrLines.{tells-written}
use Rattle.tn_top.proofs.err_lines.tell_usage.Goals as goal

pub returns-clause-told : goal.returns-clause-told
returns-clause-told g c =
    tells-written usage_line c.write.result (g.O.Out.printed c.args.err.now) (g.O.Out.printed c.write.new.self) c.write.ensures.prints
