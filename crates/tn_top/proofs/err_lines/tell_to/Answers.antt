use Rattle.tn_top.specs.Refusals.{refused_line}
use Rattle.tn_top.proofs.ErrLines.{tells-put}
use Rattle.tn_top.proofs.err_lines.tell_to.Goals as goal

pub returns-clause-told : goal.returns-clause-told
returns-clause-told g c =
    tells-put (refused_line c.args.refusal.now) c.put_refusal.result (g.O.Out.printed c.args.printed.now.out.now)
    (g.O.Out.printed c.put_refusal.new.out.out.now) c.put_refusal.ensures.puts
