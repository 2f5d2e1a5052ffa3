use Rattle.std.proofs.Common.{◌≡◌, ◌++◌, map, take}
use Rattle.std.specs.List.{flat_map}
use Rattle.tn_config.specs.Configurations.{block_of}
use Rattle.tn_config.specs.Spellings.{statement_spelling, block_statements}
use Rattle.tn_config.proofs.writers.put_blocks.Given as goal

abbrev pub invariant-loop-block : goal.invariant-loop-block
invariant-loop-block l =
    l.out.items ≡ l.initial.out.items
    ++ flat_map statement_spelling (flat_map block_statements (map block_of (take l.block-index l.blocks)))
