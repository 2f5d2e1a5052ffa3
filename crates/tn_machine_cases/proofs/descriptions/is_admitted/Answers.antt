use Rattle.std.proofs.Common.{arith}
use Rattle.tn_net.specs.RawNetworks.{raw_of}
use Rattle.tn_machine_cases.proofs.Admission.{admitted}
use Rattle.tn_machine_cases.proofs.descriptions.is_admitted.Goals as goal

pub returns : goal.returns
returns c = λ ok. admitted (raw_of c.args.raw.now) (grind arith) (grind arith) (grind arith) (grind arith)
