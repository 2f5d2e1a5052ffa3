use Rattle.std.proofs.Common.{rules}
use Rattle.tn_io.proofs.host_store.read_whole.Goals as goal

pub loop-preserved : goal.loop-preserved
loop-preserved g c = search rules
