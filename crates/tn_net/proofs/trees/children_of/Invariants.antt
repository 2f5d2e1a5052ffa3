use Rattle.std.proofs.Common.{◌≡◌}
use Rattle.tn_net.specs.Trees.{children_below}
use Rattle.tn_net.specs.Inner.Loads.{parent_at}
use Rattle.tn_net.proofs.trees.children_of.Given as goal

-- the children so far
abbrev pub invariant-loop-c : goal.invariant-loop-c
invariant-loop-c l = l.children.items ≡ children_below (λ c. parent_at l.parents c) l.k l.c
