use Rattle.std.proofs.Common.{ℕ, ◌<◌, sym, subst}
use Rattle.tn_network.proofs.BoardReads.{runs-mode}
use Rattle.tn_network.proofs.ItemLaws.{within, item-runs, item-kept, item-after, item-made, item-local}
use Rattle.tn_network.proofs.boards.Board.run_item.Goals as goal

pub invariant_of-self : goal.invariant_of-self
invariant_of-self g c =
    item-kept g.M.Space.access g.met.M.Space.lawful c.args.fun c.args.operand c.args.following c.args.self.now _ _ _ _ c.self.view_is
    c.args.p
    c.args.clock c.args.slice c.ranges.clock.fits c.requires.running c.index_mut.result.now _ c.index_mut.ensures.value
    c.run_item.ensures.state
    c.self.invariant

pub returns-clause-made : goal.returns-clause-made
returns-clause-made g c =
    item-made g.M.Space.access g.met.M.Space.lawful c.args.fun c.args.operand c.args.following c.args.self.now _ _ _ _ c.self.view_is
    c.args.p
    c.args.clock c.args.slice c.ranges.clock.fits c.requires.running c.index_mut.result.now c.run_item.new.self c.index_mut.ensures.value
    c.run_item.ensures.state _ c.run_item.ensures.made

pub returns-clause-state : goal.returns-clause-state
returns-clause-state g c =
    item-after g.M.Space.access g.met.M.Space.lawful c.args.fun c.args.operand c.args.following c.args.self.now _ _ _ _ c.self.view_is
    c.args.p
    c.args.clock c.args.slice c.ranges.clock.fits c.requires.running c.index_mut.result.now _ c.index_mut.ensures.value
    c.run_item.ensures.state

pub returns-clause-local : goal.returns-clause-local
returns-clause-local g c =
    item-local g.M.Space.access g.met.M.Space.lawful c.args.fun c.args.operand c.args.following c.args.self.now _ _ _ _ c.self.view_is
    c.args.p
    c.args.clock c.args.slice c.ranges.clock.fits c.requires.running c.index_mut.result.now _ c.index_mut.ensures.value
    c.run_item.ensures.state
    c.self.invariant

pub index_mut-requires : goal.index_mut-requires
index_mut-requires g c =
    subst (λ (k : ℕ). c.args.p < k) (sym c.self.inside.nodes.ok.0)
    (within g.M.Space.access g.met.M.Space.lawful c.args.fun c.args.operand c.args.following c.args.self.now _ _ _ _ c.self.view_is
    c.args.p c.args.clock c.args.slice c.ranges.clock.fits c.requires.running)

pub run_item-requires-clause-running : goal.run_item-requires-clause-running
run_item-requires-clause-running g c =
    runs-mode _
    (item-runs g.M.Space.access g.met.M.Space.lawful c.args.fun c.args.operand c.args.following c.args.self.now _ _ _ _ c.self.view_is
    c.args.p c.args.clock c.args.slice c.ranges.clock.fits c.requires.running c.index_mut.result.now c.index_mut.ensures.value)

pub run_item-requires-clause-coded : goal.run_item-requires-clause-coded
run_item-requires-clause-coded g c = c.requires.coded
