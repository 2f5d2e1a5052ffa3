use Rattle.std.specs.Prelude.{slice_get}
use Rattle.std.proofs.lemmas.Result.{on_ok_weaker}
use Rattle.tn_replay.proofs.LineLaws.{links_put}
use Rattle.tn_replay.proofs.replay_lines.put_links.Goals as goal

pub returns : goal.returns
returns c =
    λ k same. on_ok_weaker c.put_link_of-4.result (links_put k c.args.net.now c.args.p
    (slice_get c.args.net.now.board.state.nodes c.args.p) c.args.text.now.items c.put_link_of.new.text.items
    c.put_link_of-2.new.text.items c.put_link_of-3.new.text.items c.put_link_of-4.new.text.items (c.in_ok-put_link_of.ensures k same)
    (c.in_ok-put_link_of-2.ensures k same) (c.in_ok-put_link_of-3.ensures k same)) (c.put_link_of-4.ensures k same)
