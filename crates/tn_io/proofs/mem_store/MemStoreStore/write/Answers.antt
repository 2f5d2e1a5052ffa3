use Rattle.std.proofs.Common.{rules, sym, subst}
use Rattle.tn_io.specs.FileLists.{HasDistinctNames, IsHeld}
use Rattle.tn_io.specs.MemStores.{files_of}
use Rattle.tn_io.proofs.FileListLaws.{kept-with_more}
use Rattle.tn_io.proofs.mem_store.MemStoreStore.write.Goals as goal
use Rattle.tn_io.proofs.mem_store.MemStoreStore.write.Goals.{in-Ok, in-Err}

pub invariant_of-self-2 : goal.invariant_of-self-2
invariant_of-self-2 c =
    elim c.match-append.branch [
      | in-Ok w ↦ kept-with_more c.self.inside.opened c.in-Some.name c.args.bytes.now (files_of c.self.inside.files.items)
          (files_of c.append.new.files.items) c.self.invariant (rw c.as_str.ensures.text at w.in-Ok.ensures.ok)
      | in-Err w ↦ subst (λ fs. HasDistinctNames fs × IsHeld c.self.inside.opened fs) (sym w.in-Err.ensures.err) c.self.invariant
    ]

pub returns-clause-once : goal.returns-clause-once
returns-clause-once c = record { before_it = search rules; after_it = (invariant_of-self-2 c).0 }
