use Rattle.std.proofs.Common.{ap, ◌∙◌}
use Rattle.tn_text.specs.WordTexts.{spaced, word_text}
use Rattle.tn_text.specs.FaultLines.{region_text}
use Rattle.tn_text.proofs.Putting.{Puts-as, Puts-joined, Puts-stopped, Puts-refused}
use Rattle.tn_text.proofs.fault_lines.put_region.Goals as goal

pub returns-in_err-put_spaced-clause-puts : goal.returns-in_err-put_spaced-clause-puts
unfolding region_text
returns-in_err-put_spaced-clause-puts g c =
    Puts-refused c.from_residual.ensures.0 (Puts-stopped (spaced (word_text c.args.region.now.to))
    (Puts-stopped (spaced (word_text c.args.region.now.from))
    (Puts-as (ap spaced (c.as_bytes.ensures.value ∙ c.word.ensures)) c.in_err-put_spaced.ensures.puts)))

pub returns-in_err-put_spaced-2-clause-puts : goal.returns-in_err-put_spaced-2-clause-puts
unfolding region_text
returns-in_err-put_spaced-2-clause-puts g c =
    Puts-refused c.from_residual-in_err-put_spaced-2.ensures.0
    (Puts-stopped (spaced (word_text c.args.region.now.to))
    (Puts-joined (Puts-as (ap spaced (c.as_bytes.ensures.value ∙ c.word.ensures)) c.in_ok-put_spaced.ensures.puts)
    (Puts-as (ap spaced c.word_text.ensures) c.in_err-put_spaced-2.ensures.puts)))

pub returns-clause-puts : goal.returns-clause-puts
unfolding region_text
returns-clause-puts g c =
    Puts-joined (Puts-joined (Puts-as (ap spaced (c.as_bytes.ensures.value ∙ c.word.ensures)) c.in_ok-put_spaced.ensures.puts)
    (Puts-as (ap spaced c.word_text.ensures) c.in_ok-put_spaced-2.ensures.puts))
    (Puts-as (ap spaced c.word_text-2.ensures) c.put_spaced-3.ensures.puts)
