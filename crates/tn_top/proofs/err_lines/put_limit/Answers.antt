use Rattle.std.proofs.Common.{ap, ◌∙◌, ◌++◌, codes}
use Rattle.std.specs.Fmt.{decimal}
use Rattle.tn_text.specs.WordTexts.{spaced}
use Rattle.tn_text.proofs.Putting.{Puts-as}
use Rattle.tn_top.specs.Refusals.{limit_line}
use Rattle.tn_top.proofs.err_lines.put_limit.Goals as goal

pub returns-clause-puts : goal.returns-clause-puts
unfolding limit_line
returns-clause-puts g c =
    Puts-as (ap (λ word. codes "limit " ++ word ++ spaced (decimal c.args.count) ++ codes "\n") (c.as_bytes.ensures.value
    ∙ c.word.ensures)) c.put_counted.ensures.puts
