use Rattle.std.proofs.Common.{map, take}
use Rattle.std.specs.List.{AllZip}
use Rattle.tn_config.specs.Configurations.{block_of}
use Rattle.tn_stream.specs.Images.{images_of, AreImages}
use Rattle.tn_system.specs.Sources.{sources}
use Rattle.tn_system.specs.Systems.{programs_of, IsProcessorImage, IsPlainFor, IsProcessorProgram, BelongTogether}
use Rattle.tn_system.proofs.processors.make_processors.Given as goal

abbrev pub invariant-loop-k : goal.invariant-loop-k
invariant-loop-k l =
    (AllZip (IsProcessorImage (sources l.config_file l.config l.pool l.shelf)) (map block_of (take l.k l.config.blocks.items))
    (images_of l.images.items)
    × AreImages (images_of l.images.items)
    × AllZip IsPlainFor (map block_of (take l.k l.config.blocks.items)) (images_of l.images.items))
    × AllZip (IsProcessorProgram (sources l.config_file l.config l.pool l.shelf)) (map block_of (take l.k l.config.blocks.items))
    (programs_of l.programs.items)
    × AllZip BelongTogether (programs_of l.programs.items) (images_of l.images.items)
