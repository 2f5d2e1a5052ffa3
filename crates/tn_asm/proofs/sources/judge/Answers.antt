use Rattle.std.proofs.Common.{ℕ, Err, sym, ap, ◌∙◌}
use Rattle.tn_text.specs.declared.faults.Fault.{Fault}
use Rattle.tn_module.specs.Modules.{Parts}
use Rattle.std.proofs.Common.{Result, Ok}
use Rattle.tn_asm.specs.Inner.Drafts.{source_of}
use Rattle.tn_asm.proofs.SourceLaws.{judged-valid, judged-fault, place-held}
use Rattle.tn_asm.proofs.sources.judge.Goals as goal

pub returns-in-Ok : goal.returns-in-Ok
returns-in-Ok c = ap Ok c.in-Ok.ensures.parts ∙ sym (judged-valid (source_of c.args.source) c.in-Ok.ensures.valid)

pub line_in-requires : goal.line_in-requires
line_in-requires c =
    let first = rw c.in-Err-Fault.field-0-is at c.in-Err-Fault.ensures.fault in
    place-held (source_of c.args.source) c.in-Err-Fault.fault.place _ c.requires.lines first.wrong

pub returns-in-Err-Fault : goal.returns-in-Err-Fault
returns-in-Err-Fault c =
    let first = rw c.in-Err-Fault.field-0-is at c.in-Err-Fault.ensures.fault in
    ap told c.line_in.ensures ∙ sym (judged-fault (source_of c.args.source) c.in-Err-Fault.fault first)
  where
    told : ℕ → Result Parts Fault
    told n = Err (record { code = c.in-Err-Fault.fault.code; line = n; detail = c.in-Err-Fault.fault.detail })
