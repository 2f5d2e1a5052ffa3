use Rattle.std.proofs.Common.{ℕ, ◌<◌, refl, sym, subst}
use Rattle.tn_network.proofs.BoardReads.{host-sends, latch_within, root-node, root-low}
use Rattle.tn_network.proofs.PickParts.{host_send-kept, host_send-after}
use Rattle.tn_network.proofs.boards.Board.host_send.Goals as goal

pub invariant_of-self : goal.invariant_of-self
invariant_of-self g c =
    host_send-kept g.M.Space.access g.met.M.Space.lawful c.args.self.now _ _ _ _ c.self.view_is c.root-root.result _ _ _
    c.root-root.ensures.value c.place.ensures c.send-byte.ensures.byte c.send-byte.ensures.state c.self.invariant c.requires
    c.send-byte.type_inv

pub send-byte-requires : goal.send-byte-requires
send-byte-requires g c =
    host-sends g.M.Space.access g.met.M.Space.lawful c.args.self.now _ _ _ _ c.self.view_is c.self.invariant
    c.requires

pub index_mut-requires : goal.index_mut-requires
index_mut-requires g c =
    subst (λ (k : ℕ). c.place.result < k) (sym c.self.inside.latches.ok.0)
    (latch_within g.M.Space.access g.met.M.Space.lawful c.args.self.now _ _ _ _ c.self.view_is c.self.invariant
    c.root-root.result.0 c.root-root.result.1 c.place.result
    (root-node g.M.Space.access g.met.M.Space.lawful c.args.self.now _ _ _ _ c.self.view_is c.self.invariant
    c.root-root.result c.root-root.ensures.value)
    (root-low g.M.Space.access g.met.M.Space.lawful c.args.self.now _ _ _ _ c.self.view_is c.self.invariant
    c.root-root.result c.root-root.ensures.value) c.place.ensures)

pub returns-clause-made : goal.returns-clause-made
returns-clause-made g c = refl

pub returns-clause-state : goal.returns-clause-state
returns-clause-state g c =
    host_send-after g.M.Space.access g.met.M.Space.lawful c.args.self.now _ _ _ _ c.self.view_is c.root-root.result _ _ _
    c.root-root.ensures.value c.place.ensures c.send-byte.ensures.byte c.send-byte.ensures.state
