use Rattle.std.proofs.Common.{◌≡◌, take}
use Rattle.tn_network.specs.GuardedBoards.{guarded_nodes}
use Rattle.tn_network.proofs.guards.guarded_nodes.Given as goal

abbrev pub invariant-loop-p : goal.invariant-loop-p
invariant-loop-p l = l.copies.items ≡ guarded_nodes (take l.p l.regions) (take l.p l.nodes)
