use Rattle.tn_config.specs.Grids.{cell_block}
use Rattle.tn_config.proofs.GridLaws.{none_put, one_put}
use Rattle.tn_config.proofs.grids.put_blocks.Goals as goal

pub loop-k-init : goal.loop-k-init
loop-k-init c = none_put (cell_block c.args.n) c.args.out.now.items

pub loop-k-preserved : goal.loop-k-preserved
loop-k-preserved c =
    one_put (cell_block c.args.n) c.loop-k.k c.args.out.now.items c.loop-k.out.items c.put_block.new.out.items c.loop-k.invariant
    c.in_ok-put_block.ensures
