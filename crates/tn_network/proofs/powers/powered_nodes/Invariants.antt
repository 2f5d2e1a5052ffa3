use Rattle.std.proofs.Common.{◌≡◌, ◌++◌, map}
use Rattle.tn_network.specs.Resets.{power_of, powered_node}
use Rattle.tn_network.proofs.powers.powered_nodes.Given as goal

abbrev pub invariant-loop-power : goal.invariant-loop-power
invariant-loop-power l =
    (l.nodes.items ≡ map powered_node (map power_of l.yielded))
    × (l.yielded ++ l.power-iterator.rest.items ≡ l.fn.powers.items)
    × (goal.iterator-loop-power).can_next l.power-iterator
    × (goal.iterator-loop-power).is_finite l.power-iterator
