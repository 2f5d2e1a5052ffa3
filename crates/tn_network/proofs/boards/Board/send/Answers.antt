use Rattle.std.proofs.Common.{ℕ, ◌<◌, refl, sym}
use Rattle.tn_network.proofs.BoardReads.{end_of, send-node, send-low, send-some}
use Rattle.std.proofs.Common.{subst}
use Rattle.tn_network.proofs.PickParts.{send-kept, send-after, send-ends}
use Rattle.tn_network.proofs.boards.Board.send.Goals as goal

pub put-requires : goal.put-requires
put-requires g c =
    send-ends g.M.Space.access g.met.M.Space.lawful c.args.self.now _ _ _ _ c.self.view_is c.args.p c.args.l c.far-far.result c.requires
    c.far-far.ensures.value c.self.invariant

pub invariant_of-self : goal.invariant_of-self
invariant_of-self g c =
    send-kept g.M.Space.access g.met.M.Space.lawful c.args.self.now _ _ _ _ c.self.view_is c.args.p c.args.l c.far-far.result
    c.offers.result c.unwrap_or-byte.result c.index_mut-node.result.now _ _ _ c.requires c.far-far.ensures.value
    c.index_mut-node.ensures.value c.offers.ensures c.unwrap_or-byte.ensures c.mark_sent.ensures.state c.put.ensures.latches
    c.put.ensures.host c.self.invariant c.unwrap_or-byte.type_inv

pub returns-clause-state : goal.returns-clause-state
returns-clause-state g c =
    send-after g.M.Space.access g.met.M.Space.lawful c.args.self.now _ _ _ _ c.self.view_is c.args.p c.args.l c.far-far.result
    c.offers.result c.unwrap_or-byte.result c.index_mut-node.result.now _ _ _ c.requires c.far-far.ensures.value
    c.index_mut-node.ensures.value c.offers.ensures c.unwrap_or-byte.ensures c.mark_sent.ensures.state c.put.ensures.latches
    c.put.ensures.host

pub far-far-requires : goal.far-far-requires
far-far-requires g c =
    end_of g.M.Space.access g.met.M.Space.lawful c.args.self.now _ _ _ _ c.self.view_is c.self.invariant
    c.args.p c.args.l
    (send-node g.M.Space.access g.met.M.Space.lawful c.args.self.now _ _ _ _ c.self.view_is c.self.invariant
    c.args.p c.args.l c.requires)
    (send-low g.M.Space.access g.met.M.Space.lawful c.args.self.now _ _ _ _ c.self.view_is c.self.invariant
    c.args.p c.args.l c.requires)

pub index_mut-node-requires : goal.index_mut-node-requires
index_mut-node-requires g c =
    subst (λ (k : ℕ). c.args.p < k) (sym c.self.inside.nodes.ok.0)
    (send-node g.M.Space.access g.met.M.Space.lawful c.args.self.now _ _ _ _ c.self.view_is c.self.invariant
    c.args.p c.args.l c.requires)

pub offers-requires : goal.offers-requires
offers-requires g c =
    send-low g.M.Space.access g.met.M.Space.lawful c.args.self.now _ _ _ _ c.self.view_is c.self.invariant
    c.args.p c.args.l c.requires

pub mark_sent-requires-clause-link : goal.mark_sent-requires-clause-link
mark_sent-requires-clause-link g c =
    send-low g.M.Space.access g.met.M.Space.lawful c.args.self.now _ _ _ _ c.self.view_is c.self.invariant
    c.args.p c.args.l c.requires

pub mark_sent-requires-clause-offered : goal.mark_sent-requires-clause-offered
mark_sent-requires-clause-offered g c =
    send-some g.M.Space.access g.met.M.Space.lawful c.args.self.now _ _ _ _ c.self.view_is c.self.invariant
    c.args.p c.args.l c.index_mut-node.result.now c.requires c.index_mut-node.ensures.value

pub returns-clause-made : goal.returns-clause-made
returns-clause-made g c = refl
