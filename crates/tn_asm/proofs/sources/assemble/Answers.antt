use Rattle.tn_text.proofs.Readers.{gives-found, gives-only, gives-fault}
use Rattle.tn_module.specs.Modules.{Parts}
use Rattle.tn_asm.specs.Sources.{IsSource}
use Rattle.tn_asm.specs.SourceFaults.{IsSourceFault}
use Rattle.tn_asm.specs.Assembling.{assembled}
use Rattle.tn_asm.proofs.SourceLaws.{source_reading}
use Rattle.tn_asm.proofs.sources.assemble.Goals as goal

pub returns-clause-found : goal.returns-clause-found
returns-clause-found c =
    gives-found (λ (m : Parts). m) (IsSource c.args.text.now) (IsSourceFault c.args.text.now) (assembled c.args.text.now)
    (source_reading c.args.text.now) c.assemble_all.result c.assemble_all.ensures

pub returns-clause-only : goal.returns-clause-only
returns-clause-only c =
    gives-only (λ (m : Parts). m) (IsSource c.args.text.now) (IsSourceFault c.args.text.now) (assembled c.args.text.now)
    (source_reading c.args.text.now) c.assemble_all.result c.assemble_all.ensures

pub returns-clause-fault : goal.returns-clause-fault
returns-clause-fault c =
    gives-fault (λ (m : Parts). m) (IsSource c.args.text.now) (IsSourceFault c.args.text.now) (assembled c.args.text.now)
    (source_reading c.args.text.now) c.assemble_all.result c.assemble_all.ensures
