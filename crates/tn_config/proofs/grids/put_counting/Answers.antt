use Rattle.tn_config.specs.Grids.{counting}
use Rattle.tn_config.proofs.GridLaws.{none_put, one_put}
use Rattle.tn_config.proofs.grids.put_counting.Goals as goal

pub loop-number-init : goal.loop-number-init
loop-number-init c = none_put counting c.args.out.now.items

pub loop-number-preserved : goal.loop-number-preserved
loop-number-preserved c =
    one_put counting c.loop-number.number c.args.out.now.items c.loop-number.out.items c.put_counted.new.out.items
    c.loop-number.invariant c.in_ok-put_counted.ensures
