use Rattle.std.proofs.Common.{◌≡◌, ◌+◌, ◌≤◌, length, Result, Err, sym, ap, ◌∙◌, arith}
use Rattle.tn_text.specs.declared.faults.ReadFault.{ReadFault}
use Rattle.tn_text.specs.Reading.{placed, Gives}
use Rattle.tn_text.proofs.ReadingLoops.{reads-end}
use Rattle.tn_text.proofs.Results.{of-error}
use Rattle.tn_asm.specs.declared.drafts.Source.{Source}
use Rattle.tn_asm.specs.Assembling.{source_line, finish, source_read}
use Rattle.tn_asm.specs.Inner.Drafts.{drawn, source_of}
use Rattle.tn_asm.proofs.ReadLoop.{line_good, line_longer, line_stopped}
use Rattle.tn_asm.proofs.drafts.read_source.Goals as goal

pub returns-in_err-read_line : goal.returns-in_err-read_line
returns-in_err-read_line c =
    of-error (λ (r : Result Source ReadFault). Gives source_of r (source_read c.args.text.now)) c.from_residual.result
    c.in_err-read_line.field-0.0 c.from_residual.ensures.1
    (line_stopped (drawn c.loop-line.draft) c.loop-line.rest.now (source_read c.args.text.now) c.loop-line.invariant.0
    c.in-Some.line.now c.in-Some.behind.now c.in-Some.ensures.value (λ (u : Unit {0}). drawn c.read_line.new.self)
    (λ (found : Source). source_of found) c.in_err-read_line.field-0.0 c.in_err-read_line.ensures)

pub loop-line-preserved : goal.loop-line-preserved
loop-line-preserved c = (
  line_good (drawn c.loop-line.draft) c.loop-line.rest.now (source_read c.args.text.now) c.loop-line.invariant.0
      c.in-Some.line.now c.in-Some.behind.now c.in-Some.ensures.value (drawn c.read_line.new.self) c.in_ok-read_line.ensures,
  counted,
)
  where
    longer : c.read_line.new.self.line ≡ c.loop-line.draft.line + 1
    longer =
        line_longer (drawn c.loop-line.draft) c.loop-line.rest.now (source_read c.args.text.now) c.loop-line.invariant.0
        c.in-Some.line.now c.in-Some.behind.now c.in-Some.ensures.value (drawn c.read_line.new.self) c.in_ok-read_line.ensures

    counted : c.read_line.new.self.line + length c.in-Some.behind.now ≤ length c.args.text.now
    counted = omega (arith, longer, c.loop-line.invariant.1, c.in-Some.ensures.shorter)

pub returns-in-Ok : goal.returns-in-Ok
returns-in-Ok c =
    ap (λ r. placed (c.loop-line.draft.line + 1) r) c.in-Ok.ensures
    ∙ sym (reads-end source_line finish (drawn c.loop-line.draft) c.loop-line.draft.line c.loop-line.rest.now
    (source_read c.args.text.now) c.loop-line.invariant.0 c.in_default.ensures.value)

pub returns-in-Err : goal.returns-in-Err
returns-in-Err c =
    ap Err c.at.ensures ∙ (ap (λ r. placed (c.loop-line.draft.line + 1) r) c.in-Err.ensures
    ∙ sym (reads-end source_line finish (drawn c.loop-line.draft) c.loop-line.draft.line c.loop-line.rest.now
    (source_read c.args.text.now) c.loop-line.invariant.0 c.in_default.ensures.value))
