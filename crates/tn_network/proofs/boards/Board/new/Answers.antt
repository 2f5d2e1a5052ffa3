use Rattle.std.proofs.Common.{ℕ, ◌*◌, List, length, replicate, Option, None, sym, ap, ◌∙◌}
use Rattle.std.specs.Prelude.{slice_get}
use Rattle.tn_net.specs.Networks.{NetworkState}
use Rattle.tn_node.specs.Nodes.{IsNode}
use Rattle.tn_network.specs.Hosts.{HostState}
use Rattle.tn_network.specs.NodeOps.{node_ops}
use Rattle.tn_network.proofs.NewBoards.{new_board_is}
use Rattle.tn_network.proofs.boards.Board.new.Goals as goal

pub invariant_of-result : goal.invariant_of-result
invariant_of-result g c =
    let count = ap length (sym c.deref.ensures.value) ∙ c.deref.ensures.len in
    new_board_is (node_ops g.M.Space.access) (λ n. IsNode n) c.in-Ok.wiring c.args.nodes.items c.in-Ok-empty_latches.latches.items
    c.in-Ok-new.host c.in-Ok.ensures.pairing
    (count ∙ c.requires ∙ ap (λ (w : NetworkState). length w.sizes) (sym c.in-Ok.ensures.wiring))
    (λ p n at. c.each_is_node.ensures p n (ap (λ ns. slice_get ns p) c.deref.ensures.value ∙ at))
    (c.in-Ok-empty_latches.ensures ∙ ap (λ (k : ℕ). replicate (4 * k) None) (c.len.ensures ∙ sym count))
    (ap (λ (h : HostState). h.latch) c.in-Ok-new.ensures) (ap (λ (h : HostState). h.kept) c.in-Ok-new.ensures)
