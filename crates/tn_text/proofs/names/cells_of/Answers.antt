use Rattle.tn_text.proofs.Cells.{cells-copied}
use Rattle.tn_text.proofs.names.cells_of.Goals as goal

pub returns : goal.returns
returns c = cells-copied c.args.bytes.now c.copy_from_slice.new.self c.copy_from_slice.ensures.after c.requires
