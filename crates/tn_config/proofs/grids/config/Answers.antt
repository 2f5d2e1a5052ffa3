use Rattle.std.proofs.Common.{◌*◌}
use Rattle.std.specs.Prelude.{codes}
use Rattle.tn_config.specs.Grids.{texts_of, cell_block, cell_wires, grid_config}
use Rattle.tn_config.proofs.GridLaws.{three_put}
use Rattle.tn_config.proofs.grids.config.Goals as goal

pub returns : goal.returns
unfolding grid_config
returns c =
    three_put c.new-text.result.items (texts_of (cell_block c.args.n) (c.args.n * c.args.n)) (codes "host p00 0\n")
    (texts_of (cell_wires c.args.n) (c.args.n * c.args.n)) c.put_blocks.new.out.items c.extend_from_slice.new.self.items
    c.put_wires.new.out.items c.new-text.ensures.items c.in_ok-put_blocks.ensures c.in_ok-extend_from_slice.ensures.items
    c.in_ok-put_wires.ensures
