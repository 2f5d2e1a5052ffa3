use Rattle.std.proofs.Common.{map, take}
use Rattle.tn_config.specs.Configurations.{block_of}
use Rattle.tn_system.specs.NamedFiles.{places_in}
use Rattle.tn_system.specs.Inner.Files.{AreNamed}
use Rattle.tn_system.proofs.files.add_blocks.Given as goal

abbrev pub invariant-loop-block : goal.invariant-loop-block
invariant-loop-block l =
    AreNamed (map block_of (take l.block-index l.config.blocks.items)) l.modules.keys l.libraries.keys (map places_in l.blocks.items)
