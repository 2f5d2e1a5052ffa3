use Rattle.std.proofs.Common.{subst, arith}
use Rattle.std.proofs.lemmas.List.{take_all}
use Rattle.tn_module.specs.Modules.{Parts}
use Rattle.tn_module.specs.Validity.{IsValid}
use Rattle.tn_module.specs.Ranges.{IsInRange}
use Rattle.tn_sym.specs.Programs.{AreModules}
use Rattle.tn_sym.proofs.Lists.{all-read}
use Rattle.tn_sym.proofs.beginnings.are_modules.Goals as goal

pub loop-module-preserved : goal.loop-module-preserved
loop-module-preserved c =
    all-read (λ (m : Parts). IsValid m × IsInRange m) c.args.modules.now c.loop-module.module-index c.module-item.result
    c.loop-module-test.true c.module-item.is (c.raw-parts.ensures.valid, c.raw-parts.ensures.ranges) c.loop-module.invariant

pub returns : goal.returns
returns c =
    subst AreModules (take_all c.loop-module.module-index c.args.modules.now (omega (arith, c.loop-module-test.false)))
    c.loop-module.invariant
