use Rattle.std.proofs.Common.{codes}
use Rattle.tn_list.specs.TreeTexts.{last_text}
use Rattle.tn_text.proofs.Putting.{Puts-joined, Puts-stopped, Puts-refused}
use Rattle.tn_list.proofs.tree_texts.put_last.Goals as goal

pub returns-in_err-put_word_and_number-clause-puts : goal.returns-in_err-put_word_and_number-clause-puts
unfolding last_text
returns-in_err-put_word_and_number-clause-puts g c =
    Puts-refused c.from_residual.ensures.0
    (Puts-stopped (codes "\n") c.in_err-put_word_and_number.ensures.puts)

pub returns-clause-puts : goal.returns-clause-puts
unfolding last_text
returns-clause-puts g c = Puts-joined c.in_ok-put_word_and_number.ensures.puts c.put.ensures.puts
