-- The files of some of a configuration's processors.
use Rattle.std.specs.Prelude.{◌≡◌, ℕ, List, map}
use Rattle.std.specs.List.{flat_map}
use Rattle.tn_config.specs.Configurations.{BlockState}
use Rattle.tn_system.specs.Sources.{each_once}
use Rattle.tn_system.specs.NamedFiles.{FilePlaces, block_places}

-- the files of these processors, each once, and the places of the files of each
pub record AreNamed (blocks : List BlockState) (modules libraries : List (List ℕ)) (places : List FilePlaces) : Type 0 where
  pub modules_are : modules ≡ each_once (flat_map (λ b. b.modules) blocks)
  pub libraries_are : libraries ≡ each_once (flat_map (λ b. b.libraries) blocks)
  pub places_are : places ≡ map (block_places modules libraries) blocks
