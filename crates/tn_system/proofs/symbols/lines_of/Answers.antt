use Rattle.std.proofs.Common.{arith}
use Rattle.tn_system.proofs.Reading.{short-module, lines-among}
use Rattle.tn_system.proofs.symbols.lines_of.Goals as goal

pub module_lines-requires : goal.module_lines-requires
module_lines-requires c =
    short-module c.module-item.result (omega (
      arith,
      c.requires,
      lines-among c.args.modules.now c.loop-module.module-index c.module-item.result c.loop-module-test.true c.module-item.is,
    ))

pub overflow_cast-lines : goal.overflow_cast-lines
overflow_cast-lines c =
    omega (
      arith,
      c.requires,
      c.module_lines.ensures,
      lines-among c.args.modules.now c.loop-module.module-index c.module-item.result c.loop-module-test.true c.module-item.is,
    )

pub overflow_add-lines : goal.overflow_add-lines
overflow_add-lines c =
    omega (
      arith,
      c.requires,
      c.module_lines.ensures,
      c.loop-module.invariant,
      lines-among c.args.modules.now c.loop-module.module-index c.module-item.result c.loop-module-test.true c.module-item.is,
    )
