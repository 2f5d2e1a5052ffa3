use Rattle.tn_io.proofs.FilePlaces.{place-first}
use Rattle.tn_io.proofs.mem_store.place_of.Goals as goal

pub returns : goal.returns
returns c = rw c.first_place.ensures (place-first c.args.name.now c.args.files.now)
