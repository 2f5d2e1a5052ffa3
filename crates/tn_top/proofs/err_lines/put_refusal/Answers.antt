use Rattle.std.proofs.Common.{ap, sym, ◌∙◌, ◌++◌, codes}
use Rattle.tn_text.proofs.Putting.{Puts-as}
use Rattle.tn_top.specs.Refusals.{refused_line, unread_line, unwritten_line}
use Rattle.tn_top.proofs.err_lines.put_refusal.Goals as goal

pub returns-in-Unread-clause-puts : goal.returns-in-Unread-clause-puts
unfolding refused_line unread_line
returns-in-Unread-clause-puts g c =
    Puts-as (ap (λ b. codes "cannot read " ++ b ++ codes "\n") (c.as_bytes.ensures.value ∙ c.text.ensures.text)
    ∙ sym (ap refused_line c.in-Unread.is)) c.put_line.ensures.puts

pub returns-in-Unwritten-clause-puts : goal.returns-in-Unwritten-clause-puts
unfolding refused_line unwritten_line
returns-in-Unwritten-clause-puts g c =
    Puts-as (ap (λ b. codes "cannot write " ++ b ++ codes "\n") (c.as_bytes-in-Unwritten.ensures.value ∙ c.text-in-Unwritten.ensures.text)
    ∙ sym (ap refused_line c.in-Unwritten.is)) c.put_line-in-Unwritten.ensures.puts

pub returns-in-Unprinted-clause-puts : goal.returns-in-Unprinted-clause-puts
unfolding refused_line
returns-in-Unprinted-clause-puts g c = Puts-as (sym (ap refused_line c.in-Unprinted.is)) c.put.ensures.puts
