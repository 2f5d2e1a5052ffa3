use Rattle.std.proofs.Common.{sym, subst}
use Rattle.tn_io.specs.FileLists.{HasDistinctNames}
use Rattle.tn_top.proofs.GridTexts.{grid-distinct}
use Rattle.tn_top.proofs.grids.grid_store.Goals as goal

pub new-requires : goal.new-requires
new-requires c = subst HasDistinctNames (sym c.in_ok-files.ensures) (grid-distinct c.args.size)
