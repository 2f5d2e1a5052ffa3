use Rattle.std.proofs.Common.{refl, sym, ◌∙◌}
use Rattle.tn_node.specs.Nodes.{IsNode}
use Rattle.tn_network.specs.NodeOps.{node_ops}
use Rattle.tn_network.proofs.LocalLaws.{local_after}
use Rattle.tn_network.proofs.boards.Board.apply.Goals as goal

pub returns-clause-local : goal.returns-clause-local
returns-clause-local g c =
    local_after (node_ops g.M.Space.access) (λ n. IsNode n) c.args.pick c.args.self.now c.step.new.self c.ready.ensures.board
    (sym c.ready.ensures.value ∙ c.if-not-ready.false) c.step.ensures.state

pub returns-clause-enabled : goal.returns-clause-enabled
returns-clause-enabled g c = sym c.if-not-ready.false ∙ c.ready.ensures.value

pub returns-clause-made : goal.returns-clause-made
returns-clause-made g c = c.step.ensures.made

pub returns-clause-state : goal.returns-clause-state
returns-clause-state g c = c.step.ensures.state

pub returns-then-not-ready-clause-enabled : goal.returns-then-not-ready-clause-enabled
returns-then-not-ready-clause-enabled g c = sym c.if-not-ready.true ∙ c.ready.ensures.value

pub returns-then-not-ready-clause-refused : goal.returns-then-not-ready-clause-refused
returns-then-not-ready-clause-refused g c = refl

pub step-requires : goal.step-requires
step-requires g c = sym c.ready.ensures.value ∙ c.if-not-ready.false
