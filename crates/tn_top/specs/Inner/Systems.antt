-- Configurations that were read, and systems that can be loaded.
use Rattle.std.specs.Prelude.{◌<◌, length}
use Rattle.tn_text.specs.declared.limits.TheConstants.{FILE_LIMIT}
use Rattle.tn_config.specs.Configurations.{ConfigState, config_of, file_lines}
use Rattle.tn_config.specs.Networks.{described}
use Rattle.tn_config.specs.Writable.{IsWritable}
use Rattle.tn_net.specs.Lines.{IsAdmitted}
use Rattle.tn_net.specs.WholeTrees.{IsWholeTree}
use Rattle.tn_stream.specs.Images.{images_of, AreImages}
use Rattle.tn_system.specs.declared.systems.System.{System}
use Rattle.tn_system.specs.Systems.{SystemState, system_of}
use Rattle.tn_top.specs.declared.systems.Configured.{Configured}

-- what contracts see of a configuration with its system
abbrev pub configured : Configured → ConfigState × SystemState
configured c = (config_of c.config, system_of c.system)

-- what holds of a configuration that was read from a file: it may be written, its network may be
-- checked, and not too many lines name files
pub record IsRightConfig (c : ConfigState) : Type 0 where
  pub writable : IsWritable c
  pub admitted : IsAdmitted (described c)
  pub few_files : file_lines c < FILE_LIMIT

-- the stream of the system can be made
pub record IsLoadable (y : System) : Type 0 where
  pub images : AreImages (images_of y.images.items)
  pub whole : IsWholeTree y.tree.nodes.items (length y.images.items)
