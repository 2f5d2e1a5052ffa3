use Rattle.std.proofs.Common.{ap, ◌∙◌}
use Rattle.tn_network.specs.GuardedBoards.{guarded_nodes}
use Rattle.tn_network.proofs.GuardLaws.{guarded-made, guarded-view}
use Rattle.tn_network.proofs.guards.Board+Memory.guarded.Goals as goal

pub invariant_of-result : goal.invariant_of-result
invariant_of-result c =
    guarded-made c.self.inside.wiring c.self.inside.nodes.items c.self.inside.latches.items c.self.inside.host c.args.self.now
    c.self.view_is
    c.args.regions.now c.in-Ok.wiring c.in_ok-nodes.nodes.items c.in-Ok-copied_latches.latches.items c.in-Ok-copied.host c.in-Ok.ensures
    (c.in_ok-nodes.ensures ∙ ap (λ ns. guarded_nodes c.args.regions.now ns) c.deref.ensures.value) c.in-Ok-copied_latches.ensures
    c.in-Ok-copied.ensures
    c.requires.regions c.self.invariant

pub returns : goal.returns
returns c =
    guarded-view c.self.inside.wiring c.self.inside.nodes.items c.self.inside.latches.items c.self.inside.host c.args.self.now
    c.self.view_is
    c.args.regions.now c.in-Ok.wiring c.in_ok-nodes.nodes.items c.in-Ok-copied_latches.latches.items c.in-Ok-copied.host c.in-Ok.ensures
    (c.in_ok-nodes.ensures ∙ ap (λ ns. guarded_nodes c.args.regions.now ns) c.deref.ensures.value) c.in-Ok-copied_latches.ensures
    c.in-Ok-copied.ensures
