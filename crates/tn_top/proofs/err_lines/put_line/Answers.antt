use Rattle.std.proofs.Common.{codes}
use Rattle.tn_text.proofs.Putting.{Puts-joined, Puts-stopped, Puts-refused}
use Rattle.tn_top.proofs.err_lines.put_line.Goals as goal

pub returns-in_err-put-clause-puts : goal.returns-in_err-put-clause-puts
returns-in_err-put-clause-puts g c =
    Puts-refused c.from_residual.ensures.0 (Puts-stopped (codes "\n") (Puts-stopped c.args.back.now c.in_err-put.ensures.puts))

pub returns-in_err-put-2-clause-puts : goal.returns-in_err-put-2-clause-puts
returns-in_err-put-2-clause-puts g c =
    Puts-refused c.from_residual-in_err-put-2.ensures.0 (Puts-stopped (codes "\n")
    (Puts-joined c.in_ok-put.ensures.puts c.in_err-put-2.ensures.puts))

pub returns-clause-puts : goal.returns-clause-puts
returns-clause-puts g c = Puts-joined (Puts-joined c.in_ok-put.ensures.puts c.in_ok-put-2.ensures.puts) c.put-3.ensures.puts
