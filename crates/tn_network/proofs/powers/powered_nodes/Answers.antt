use Rattle.tn_network.proofs.PowerLaws.{sized}
use Rattle.tn_network.proofs.powers.powered_nodes.Goals as goal

pub power_up-memory-requires : goal.power_up-memory-requires
power_up-memory-requires c =
    sized c.args.network.now c.loop-power.yielded c.loop-power.power-iterator.rest.items c.next.new.self.rest.items c.args.powers.items
    c.in-Some.power c.loop-power.invariant.1 c.in-Some.ensures.steps.0 c.requires c.count-count.ensures.pairing
