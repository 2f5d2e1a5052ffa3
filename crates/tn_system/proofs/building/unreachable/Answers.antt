use Rattle.std.proofs.Common.{ap}
use Rattle.tn_config.specs.Configurations.{block_of}
use Rattle.tn_system.specs.Faults.{unreachable}
use Rattle.tn_system.proofs.building.unreachable.Goals as goal

pub returns : goal.returns
returns c = ap (λ file. unreachable file (block_of c.args.block.now)) c.copied.ensures
