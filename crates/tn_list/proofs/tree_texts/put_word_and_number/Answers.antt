use Rattle.std.specs.Fmt.{decimal}
use Rattle.tn_text.specs.WordTexts.{spaced}
use Rattle.tn_list.specs.TreeTexts.{word_and_number}
use Rattle.tn_text.proofs.Putting.{Puts-joined, Puts-stopped, Puts-refused}
use Rattle.tn_list.proofs.tree_texts.put_word_and_number.Goals as goal

pub returns-in_err-put_spaced-clause-puts : goal.returns-in_err-put_spaced-clause-puts
unfolding word_and_number
returns-in_err-put_spaced-clause-puts g c =
    Puts-refused c.from_residual.ensures.0
    (Puts-stopped (spaced (decimal c.args.number)) c.in_err-put_spaced.ensures.puts)

pub returns-clause-puts : goal.returns-clause-puts
unfolding word_and_number
returns-clause-puts g c = Puts-joined c.in_ok-put_spaced.ensures.puts c.put_spaced_decimal.ensures.puts
