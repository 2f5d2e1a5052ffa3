use Rattle.std.proofs.Common.{[], rules}
use Rattle.tn_io.specs.MemStores.{files_of}
use Rattle.tn_io.proofs.FileListLaws.{held-made}
use Rattle.tn_io.proofs.mem_store.MemStoreStore.create.Goals as goal

pub invariant_of-self-in-Ok : goal.invariant_of-self-in-Ok
invariant_of-self-in-Ok c =
    held-made c.of-self-inside.result c.args.name.now [] (files_of c.self.inside.files.items) (files_of c.empty_file.new.files.items)
    c.self.invariant.0 c.in-Ok.ensures.ok c.of-self-inside.ensures.value

pub returns-in-Ok-clause-once : goal.returns-in-Ok-clause-once
returns-in-Ok-clause-once c = record { before_it = search rules; after_it = (invariant_of-self-in-Ok c).0 }
