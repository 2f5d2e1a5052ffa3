use Rattle.std.proofs.Common.{ℕ, ◌<◌, refl, sym, subst}
use Rattle.tn_network.proofs.BoardReads.{host-takes, root-node, root-word, root-low, root-awaits}
use Rattle.std.proofs.Common.{arith}
use Rattle.tn_network.proofs.PickParts.{host_take-kept, host_take-after}
use Rattle.tn_network.proofs.boards.Board.host_take.Goals as goal

pub invariant_of-self : goal.invariant_of-self
invariant_of-self g c =
    let root = c.self.invariant.pairing.root.processor in
    host_take-kept g.M.Space.access g.met.M.Space.lawful c.args.self.now _ _ _ _ c.self.view_is c.root-root.result
    c.index_mut.result.now _ _
    c.root-root.ensures.value (omega (arith, c.self.invariant.nodes)) c.index_mut.ensures.value c.acknowledge.ensures.state c.take.ensures
    c.self.invariant c.requires

pub returns-clause-state : goal.returns-clause-state
returns-clause-state g c =
    let root = c.self.invariant.pairing.root.processor in
    host_take-after g.M.Space.access g.met.M.Space.lawful c.args.self.now _ _ _ _ c.self.view_is c.root-root.result
    c.index_mut.result.now _ _
    c.root-root.ensures.value (omega (arith, c.self.invariant.nodes)) c.index_mut.ensures.value c.acknowledge.ensures.state c.take.ensures

pub take-requires : goal.take-requires
take-requires g c =
    host-takes g.M.Space.access g.met.M.Space.lawful c.args.self.now _ _ _ _ c.self.view_is c.self.invariant
    c.requires

pub overflow_cast-root : goal.overflow_cast-root
overflow_cast-root g c =
    let word = root-word g.M.Space.access g.met.M.Space.lawful c.args.self.now _ _ _ _ c.self.view_is c.self.invariant
    c.root-root.result c.root-root.ensures.value in omega (arith, word)

pub index_mut-requires : goal.index_mut-requires
index_mut-requires g c =
    subst (λ (k : ℕ). c.root-root.result.0 < k) (sym c.self.inside.nodes.ok.0)
    (root-node g.M.Space.access g.met.M.Space.lawful c.args.self.now _ _ _ _ c.self.view_is c.self.invariant
    c.root-root.result c.root-root.ensures.value)

pub acknowledge-requires-clause-link : goal.acknowledge-requires-clause-link
acknowledge-requires-clause-link g c =
    root-low g.M.Space.access g.met.M.Space.lawful c.args.self.now _ _ _ _ c.self.view_is c.self.invariant
    c.root-root.result c.root-root.ensures.value

pub acknowledge-requires-clause-awaited : goal.acknowledge-requires-clause-awaited
acknowledge-requires-clause-awaited g c =
    root-awaits g.M.Space.access g.met.M.Space.lawful c.args.self.now _ _ _ _ c.self.view_is c.self.invariant
    c.root-root.result c.root-root.ensures.value c.index_mut.result.now c.requires c.index_mut.ensures.value

pub returns-clause-made : goal.returns-clause-made
returns-clause-made g c = refl
