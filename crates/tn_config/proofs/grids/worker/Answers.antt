use Rattle.std.specs.Prelude.{codes}
use Rattle.tn_config.specs.Grids.{texts_of, counting, worker_text}
use Rattle.tn_config.proofs.GridLaws.{three_put}
use Rattle.tn_config.proofs.grids.worker.Goals as goal

pub returns : goal.returns
unfolding worker_text
returns c =
    three_put c.new-text.result.items (codes "tmod 1\nname worker\nimport code finish\nexport main\ncode\nl main\n")
    (texts_of counting 2000)
    (codes "i j finish\ndata\nl count\nw 0\nend\n") c.extend_from_slice.new.self.items c.put_counting.new.out.items
    c.extend_from_slice-2.new.self.items c.new-text.ensures.items c.in_ok-extend_from_slice.ensures.items
    c.in_ok-put_counting.ensures c.in_ok-extend_from_slice-2.ensures.items
