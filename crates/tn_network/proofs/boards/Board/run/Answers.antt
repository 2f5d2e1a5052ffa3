use Rattle.std.proofs.Common.{ℕ, ◌<◌, sym, subst}
use Rattle.tn_network.proofs.BoardReads.{runs-mode, run-node, run-running}
use Rattle.tn_network.proofs.PickParts.{proc-kept, proc-after, proc-made}
use Rattle.tn_network.proofs.boards.Board.run.Goals as goal

pub invariant_of-self : goal.invariant_of-self
invariant_of-self g c =
    proc-kept g.M.Space.access g.met.M.Space.lawful c.args.self.now _ _ _ _ c.self.view_is c.args.p c.args.clock c.args.slice
    c.index_mut.result.now _ c.requires c.index_mut.ensures.value c.run.ensures.state c.self.invariant

pub returns-clause-made : goal.returns-clause-made
returns-clause-made g c =
    proc-made g.M.Space.access g.met.M.Space.lawful c.args.self.now _ _ _ _ c.self.view_is c.args.p c.args.clock c.args.slice
    c.index_mut.result.now c.run.new.self c.requires c.index_mut.ensures.value c.run.ensures.state _ c.run.ensures.made

pub returns-clause-state : goal.returns-clause-state
returns-clause-state g c =
    proc-after g.M.Space.access g.met.M.Space.lawful c.args.self.now _ _ _ _ c.self.view_is c.args.p c.args.clock c.args.slice
    c.index_mut.result.now _ c.requires c.index_mut.ensures.value c.run.ensures.state

pub index_mut-requires : goal.index_mut-requires
index_mut-requires g c =
    subst (λ (k : ℕ). c.args.p < k) (sym c.self.inside.nodes.ok.0)
    (run-node g.M.Space.access g.met.M.Space.lawful c.args.self.now _ _ _ _ c.self.view_is c.self.invariant
    c.args.p c.args.clock c.args.slice c.requires)

pub run-requires : goal.run-requires
run-requires g c =
    runs-mode _
    (run-running g.M.Space.access g.met.M.Space.lawful c.args.self.now _ _ _ _ c.self.view_is c.self.invariant
    c.args.p c.args.clock c.args.slice c.index_mut.result.now c.requires c.index_mut.ensures.value)
