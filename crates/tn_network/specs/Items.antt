-- Whole instructions as steps.
use Rattle.std.specs.Prelude.{ℕ}
use Rattle.tn_isa.specs.declared.functions.Fun.{Fun}
use Rattle.tn_mem.specs.Spaces.{Access}
use Rattle.tn_node.specs.Nodes.{NodeState}
use Rattle.tn_node.specs.Runs.{node_item_step, ended, made_by}
use Rattle.tn_network.specs.NodeOps.{NodeOps, node_ops}

-- each step is this instruction, behind which the address of the next one lies
abbrev pub item_ops : {M : Type 0} → Access M → Fun → ℕ → ℕ → NodeOps (NodeState M)
item_ops access fun operand following =
    record (node_ops access) {
      run = λ p slice clock n. ended (node_item_step access fun operand following slice clock n) n;
      made = λ p slice clock n. made_by (node_item_step access fun operand following slice clock n).outcome;
    }
