use Rattle.std.proofs.Common.{ℕ, List, length, arith, sym, ap, subst, ◌∙◌}
use Rattle.std.proofs.lemmas.List.{with_items_is, length-replicate}
use Rattle.tn_node.specs.Nodes.{NodeState}
use Rattle.tn_network.specs.Boards.{WiredBoard}
use Rattle.tn_network.specs.Holds.{HoldState}
use Rattle.tn_network.specs.Nets.{net_of}
use Rattle.tn_network.specs.Inner.PickBits.{has_bit, IsNet}
use Rattle.tn_network.proofs.BitLaws.{zeros-clear}
use Rattle.tn_network.proofs.NetLaws.{new-net}
use Rattle.tn_network.proofs.nets.Net.reset.Goals as goal

pub renew_all-requires-clause-clear : goal.renew_all-requires-clause-clear
renew_all-requires-clause-clear c = λ k above within.
    ap (λ ws. has_bit ws k) (c.deref_mut.ensures.value ∙ c.in-Ok-no_bits.ensures) ∙ zeros-clear _ k

pub invariant_of-result : goal.invariant_of-result
invariant_of-result c =
    let same = c.renew_all.auto.words in
    let words = ap length (c.deref_mut.ensures.value ∙ c.in-Ok-no_bits.ensures) ∙ length-replicate _ _ in
    let network = ap (λ (b : WiredBoard (NodeState (List ℕ))). length b.network.sizes) c.in_ok-board.ensures in
    subst (λ (ws : List ℕ). IsNet ws (net_of c.in_ok-board.board c.in-Ok.holds))
    (sym (with_items_is c.in-Ok-no_bits.words c.renew_all.new.words (same ∙ c.deref_mut.ensures.len)))
    (new-net c.in_ok-board.board _ c.in-Ok.holds c.renew_all.new.words c.board.view_is c.board.invariant
    (ap (λ (h : HoldState). length h.entries) c.in-Ok.ensures ∙ c.requires.holds ∙ sym network)
    (omega (arith, same, words, network, c.count.ensures.value, c.first_number.ensures)) c.renew_all.ensures)
