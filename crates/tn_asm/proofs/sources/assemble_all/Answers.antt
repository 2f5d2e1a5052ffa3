use Rattle.std.proofs.Common.{Result, sym}
use Rattle.tn_text.specs.declared.faults.ReadFault.{ReadFault}
use Rattle.tn_text.specs.Reading.{Gives}
use Rattle.tn_text.proofs.Results.{of-error}
use Rattle.tn_module.specs.Modules.{Parts}
use Rattle.tn_asm.specs.Assembling.{assembled}
use Rattle.tn_asm.specs.Inner.Drafts.{source_of}
use Rattle.tn_asm.proofs.SourceLaws.{read_short, read_lines_held, source-stopped, source-judged}
use Rattle.tn_asm.proofs.sources.assemble_all.Goals as goal

pub returns-in_err-source : goal.returns-in_err-source
returns-in_err-source c =
    of-error (λ (r : Result Parts ReadFault). Gives (λ (m : Parts). m) r (assembled c.args.text.now)) c.from_residual.result
    c.in_err-source.field-0.0 c.from_residual.ensures.1
    (source-stopped source_of c.args.text.now c.in_err-source.field-0.0 c.in_err-source.ensures)

pub judge-requires-clause-short : goal.judge-requires-clause-short
judge-requires-clause-short c =
    read_short c.args.text.now (source_of c.in_ok-source.source) (sym c.in_ok-source.ensures) c.requires

pub judge-requires-clause-lines : goal.judge-requires-clause-lines
judge-requires-clause-lines c = read_lines_held c.args.text.now (source_of c.in_ok-source.source) (sym c.in_ok-source.ensures)

pub returns : goal.returns
returns c =
    source-judged c.args.text.now (source_of c.in_ok-source.source) c.judge.result (sym c.in_ok-source.ensures) c.judge.ensures
