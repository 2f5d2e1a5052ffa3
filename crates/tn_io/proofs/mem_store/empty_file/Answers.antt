use Rattle.std.proofs.Common.{ap, ◌∙◌}
use Rattle.tn_io.specs.FileLists.{with_file}
use Rattle.tn_io.specs.MemStores.{files_of}
use Rattle.tn_io.proofs.FilePlaces.{put_at}
use Rattle.tn_io.proofs.mem_store.empty_file.Goals as goal

pub returns-in-Some-clause-ok : goal.returns-in-Some-clause-ok
returns-in-Some-clause-ok c =
    let place = rw c.deref.ensures.value at c.in-Some.ensures in
    put_at c.args.name.now c.args.files.now.items c.in-Some.i c.index_mut.result.now c.clear.new.self place c.index_mut.ensures.value
    ∙ ap (λ bytes. with_file c.args.name.now bytes (files_of c.args.files.now.items)) c.clear.ensures.items
