use Rattle.std.proofs.Common.{rules}
use Rattle.tn_module.specs.Modules.{IsShort}
use Rattle.tn_module.proofs.Places.{all-grown, all-seen}
use Rattle.tn_tool_cases.proofs.links.are_short.Goals as goal

pub loop-module-preserved : goal.loop-module-preserved
loop-module-preserved c =
    all-grown IsShort c.args.modules.now c.loop-module.module-index c.module-item.result c.loop-module-test.true c.module-item.is
    c.loop-module.invariant (c.is_short.ensures (search rules))

pub returns : goal.returns
returns c = λ _. all-seen IsShort c.args.modules.now c.loop-module.module-index c.loop-module-test.false c.loop-module.invariant
