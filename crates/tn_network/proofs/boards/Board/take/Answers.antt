use Rattle.std.proofs.Common.{ℕ, ◌<◌, refl, sym, subst}
use Rattle.tn_network.proofs.BoardReads.{end_of, latch_within, take-node, take-low}
use Rattle.tn_network.proofs.PickParts.{take-wants, take-awaits, take-kept, take-after}
use Rattle.tn_network.proofs.boards.Board.take.Goals as goal

pub take-requires-clause-wanted : goal.take-requires-clause-wanted
take-requires-clause-wanted g c =
    take-wants g.M.Space.access g.met.M.Space.lawful c.args.self.now _ _ _ _ c.self.view_is c.args.p c.args.l _ c.requires
    c.index_mut-2.ensures.value

pub acknowledge-requires : goal.acknowledge-requires
acknowledge-requires g c =
    take-awaits g.M.Space.access g.met.M.Space.lawful c.args.self.now _ _ _ _ c.self.view_is c.args.p c.args.l c.unwrap_or-byte.result
    c.far-far.result c.index_mut-2.result.now _ c.requires c.far-far.ensures.value c.index_mut-2.ensures.value c.take.ensures.state
    c.self.invariant

pub invariant_of-self : goal.invariant_of-self
invariant_of-self g c =
    take-kept g.M.Space.access g.met.M.Space.lawful c.args.self.now _ _ _ _ c.self.view_is c.args.p c.args.l c.place-at.result
    c.far-far.result c.index.result.now c.unwrap_or-byte.result c.index_mut-2.result.now c.take.new.self _ _ c.requires
    c.far-far.ensures.value c.place-at.ensures c.index.ensures c.unwrap_or-byte.ensures c.index_mut-2.ensures.value c.take.ensures.state
    c.acknowledge.ensures.nodes c.acknowledge.ensures.host c.self.invariant

pub returns-clause-state : goal.returns-clause-state
returns-clause-state g c =
    take-after g.M.Space.access g.met.M.Space.lawful c.args.self.now _ _ _ _ c.self.view_is c.args.p c.args.l c.place-at.result
    c.far-far.result c.index.result.now c.unwrap_or-byte.result c.index_mut-2.result.now c.take.new.self _ _ c.requires
    c.far-far.ensures.value c.place-at.ensures c.index.ensures c.unwrap_or-byte.ensures c.index_mut-2.ensures.value c.take.ensures.state
    c.acknowledge.ensures.nodes c.acknowledge.ensures.host c.self.invariant

pub far-far-requires : goal.far-far-requires
far-far-requires g c =
    end_of g.M.Space.access g.met.M.Space.lawful c.args.self.now _ _ _ _ c.self.view_is c.self.invariant
    c.args.p c.args.l
    (take-node g.M.Space.access g.met.M.Space.lawful c.args.self.now _ _ _ _ c.self.view_is c.self.invariant
    c.args.p c.args.l c.requires)
    (take-low g.M.Space.access g.met.M.Space.lawful c.args.self.now _ _ _ _ c.self.view_is c.self.invariant
    c.args.p c.args.l c.requires)

pub index-requires : goal.index-requires
index-requires g c =
    subst (λ (k : ℕ). c.place-at.result < k) (sym c.self.inside.latches.ok.0)
    (latch_within g.M.Space.access g.met.M.Space.lawful c.args.self.now _ _ _ _ c.self.view_is c.self.invariant
    c.args.p c.args.l c.place-at.result
    (take-node g.M.Space.access g.met.M.Space.lawful c.args.self.now _ _ _ _ c.self.view_is c.self.invariant
    c.args.p c.args.l c.requires)
    (take-low g.M.Space.access g.met.M.Space.lawful c.args.self.now _ _ _ _ c.self.view_is c.self.invariant
    c.args.p c.args.l c.requires) c.place-at.ensures)

pub index_mut-requires : goal.index_mut-requires
index_mut-requires g c =
    subst (λ (k : ℕ). c.place-at.result < k) (sym c.self.inside.latches.ok.0)
    (latch_within g.M.Space.access g.met.M.Space.lawful c.args.self.now _ _ _ _ c.self.view_is c.self.invariant
    c.args.p c.args.l c.place-at.result
    (take-node g.M.Space.access g.met.M.Space.lawful c.args.self.now _ _ _ _ c.self.view_is c.self.invariant
    c.args.p c.args.l c.requires)
    (take-low g.M.Space.access g.met.M.Space.lawful c.args.self.now _ _ _ _ c.self.view_is c.self.invariant
    c.args.p c.args.l c.requires) c.place-at.ensures)

pub index_mut-requires-2 : goal.index_mut-requires-2
index_mut-requires-2 g c =
    subst (λ (k : ℕ). c.args.p < k) (sym c.self.inside.nodes.ok.0)
    (take-node g.M.Space.access g.met.M.Space.lawful c.args.self.now _ _ _ _ c.self.view_is c.self.invariant
    c.args.p c.args.l c.requires)

pub take-requires-clause-link : goal.take-requires-clause-link
take-requires-clause-link g c =
    take-low g.M.Space.access g.met.M.Space.lawful c.args.self.now _ _ _ _ c.self.view_is c.self.invariant
    c.args.p c.args.l c.requires

pub returns-clause-made : goal.returns-clause-made
returns-clause-made g c = refl
