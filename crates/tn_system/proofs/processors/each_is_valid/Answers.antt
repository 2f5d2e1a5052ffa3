use Rattle.std.proofs.Common.{arith}
use Rattle.tn_module.specs.Modules.{Parts}
use Rattle.tn_module.specs.Validity.{IsValid}
use Rattle.tn_module.specs.Ranges.{IsInRange}
use Rattle.tn_module.proofs.Places.{all-grown, all-seen}
use Rattle.tn_system.proofs.processors.each_is_valid.Goals as goal

pub loop-module-preserved : goal.loop-module-preserved
loop-module-preserved c =
    all-grown (λ (m : Parts). IsValid m × IsInRange m) c.args.modules.now c.loop-module.module-index c.module-item.result
    c.loop-module-test.true c.module-item.is c.loop-module.invariant (c.raw-parts.ensures.valid, c.raw-parts.ensures.ranges)

pub returns : goal.returns
returns c =
    all-seen (λ (m : Parts). IsValid m × IsInRange m) c.args.modules.now c.loop-module.module-index (omega arith) c.loop-module.invariant
