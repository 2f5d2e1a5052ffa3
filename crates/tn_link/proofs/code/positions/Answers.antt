use Rattle.std.proofs.Common.{arith}
use Rattle.std.proofs.lemmas.Grind.{common_steps}
use Rattle.tn_link.proofs.code.positions.Goals as goal

pub loop-size-preserved : goal.loop-size-preserved
loop-size-preserved c = record {
  long = grind (arith, common_steps);
  end = grind (arith, common_steps);
  small = grind (arith, common_steps);
  each = grind (arith, common_steps);
  bounded = grind (arith, common_steps);
}
