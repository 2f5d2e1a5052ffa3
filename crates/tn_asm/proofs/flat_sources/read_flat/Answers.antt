use Rattle.std.proofs.Common.{map}
use Rattle.tn_text.proofs.Readers.{gives-found, gives-only, gives-fault}
use Rattle.tn_asm.specs.Instructions.{instruction_of}
use Rattle.tn_asm.specs.FlatSources.{IsFlat, IsFlatFault}
use Rattle.tn_asm.specs.FlatReading.{flat_read}
use Rattle.tn_asm.proofs.FlatLaws.{flat_reading}
use Rattle.tn_asm.proofs.flat_sources.read_flat.Goals as goal

pub returns-clause-found : goal.returns-clause-found
returns-clause-found c =
    gives-found (λ found. map instruction_of found.items) (IsFlat c.args.text.now) (IsFlatFault c.args.text.now)
    (flat_read c.args.text.now) (flat_reading c.args.text.now) c.read_all.result c.read_all.ensures

pub returns-clause-only : goal.returns-clause-only
returns-clause-only c =
    gives-only (λ found. map instruction_of found.items) (IsFlat c.args.text.now) (IsFlatFault c.args.text.now)
    (flat_read c.args.text.now) (flat_reading c.args.text.now) c.read_all.result c.read_all.ensures

pub returns-clause-fault : goal.returns-clause-fault
returns-clause-fault c =
    gives-fault (λ found. map instruction_of found.items) (IsFlat c.args.text.now) (IsFlatFault c.args.text.now)
    (flat_read c.args.text.now) (flat_reading c.args.text.now) c.read_all.result c.read_all.ensures
