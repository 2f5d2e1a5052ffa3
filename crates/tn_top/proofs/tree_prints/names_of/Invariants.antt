use Rattle.std.proofs.Common.{◌≡◌, map, take}
use Rattle.tn_config.specs.declared.configurations.Block.{Block}
use Rattle.tn_top.proofs.tree_prints.names_of.Given as goal

-- the processors so far were named
abbrev pub invariant-loop-block : goal.invariant-loop-block
invariant-loop-block l = l.names.items ≡ map (λ (b : Block). b.name) (take l.block-index l.blocks)
