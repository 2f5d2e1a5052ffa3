use Rattle.std.proofs.Common.{◌∙◌, codes}
use Rattle.tn_text.specs.Faults.{fault_word}
use Rattle.tn_text.specs.FaultLines.{detail_text, fault_line}
use Rattle.tn_text.proofs.Putting.{Puts-as, Puts-joined, Puts-stopped, Puts-refused}
use Rattle.tn_text.proofs.faults.Fault.write.Goals as goal

pub returns-in_err-put_place-clause-puts : goal.returns-in_err-put_place-clause-puts
unfolding fault_line
returns-in_err-put_place-clause-puts g c =
    Puts-refused c.from_residual.ensures.0 (Puts-stopped (codes "\n")
    (Puts-stopped (detail_text c.args.self.now.detail)
    (Puts-stopped (fault_word c.args.self.now.code) c.in_err-put_place.ensures.puts)))

pub returns-in_err-put-clause-puts : goal.returns-in_err-put-clause-puts
unfolding fault_line
returns-in_err-put-clause-puts g c =
    Puts-refused c.from_residual-in_err-put.ensures.0
    (Puts-stopped (codes "\n") (Puts-stopped (detail_text c.args.self.now.detail)
    (Puts-joined c.in_ok-put_place.ensures.puts (Puts-as (c.as_bytes.ensures.value ∙ c.word.ensures) c.in_err-put.ensures.puts))))

pub returns-in_err-put_detail-clause-puts : goal.returns-in_err-put_detail-clause-puts
unfolding fault_line
returns-in_err-put_detail-clause-puts g c =
    Puts-refused c.from_residual-in_err-put_detail.ensures.0
    (Puts-stopped (codes "\n") (Puts-joined
    (Puts-joined c.in_ok-put_place.ensures.puts
    (Puts-as (c.as_bytes.ensures.value ∙ c.word.ensures) c.in_ok-put.ensures.puts)) c.in_err-put_detail.ensures.puts))

pub returns-clause-puts : goal.returns-clause-puts
unfolding fault_line
returns-clause-puts g c =
    Puts-joined (Puts-joined (Puts-joined c.in_ok-put_place.ensures.puts
    (Puts-as (c.as_bytes.ensures.value ∙ c.word.ensures) c.in_ok-put.ensures.puts)) c.in_ok-put_detail.ensures.puts) c.put-2.ensures.puts
