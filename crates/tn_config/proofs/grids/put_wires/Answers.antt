use Rattle.tn_config.specs.Grids.{right_wire, down_wire, cell_wires}
use Rattle.tn_config.proofs.GridLaws.{none_put, one_put, two_put}
use Rattle.tn_config.proofs.grids.put_wires.Goals as goal

pub loop-k-init : goal.loop-k-init
loop-k-init c = none_put (cell_wires c.args.n) c.args.out.now.items

pub loop-k-preserved : goal.loop-k-preserved
loop-k-preserved c =
    one_put (cell_wires c.args.n) c.loop-k.k c.args.out.now.items c.loop-k.out.items c.put_down.new.out.items c.loop-k.invariant
    (two_put c.loop-k.out.items (right_wire c.args.n c.loop-k.k) (down_wire c.args.n c.loop-k.k) c.put_right.new.out.items
    c.put_down.new.out.items c.in_ok-put_right.ensures c.in_ok-put_down.ensures)
