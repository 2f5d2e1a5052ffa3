-- The files that a configuration names, and their places.
use Rattle.std.specs.Prelude.{ℕ, List, map}
use Rattle.tn_config.specs.Configurations.{BlockState, ConfigState}
use Rattle.tn_system.specs.declared.files.BlockFiles.{BlockFiles}
use Rattle.tn_system.specs.declared.files.NamedFiles.{NamedFiles}
use Rattle.tn_system.specs.Sources.{module_files, library_files, place_of}

-- the places of a processor's modules and libraries
pub record FilePlaces : Type 0 where
  pub modules : List ℕ
  pub libraries : List ℕ

-- each file of modules and of libraries, and for each processor the places of its files
pub record FileLists : Type 0 where
  pub modules : List (List ℕ)
  pub libraries : List (List ℕ)
  pub blocks : List FilePlaces

abbrev pub places_in : BlockFiles → FilePlaces
places_in b = record { modules = b.modules.items; libraries = b.libraries.items }

abbrev pub lists_of : NamedFiles → FileLists
lists_of f = record { modules = f.modules.items; libraries = f.libraries.items; blocks = map places_in f.blocks.items }

-- the places of a processor's files among these
abbrev pub block_places : List (List ℕ) → List (List ℕ) → BlockState → FilePlaces
block_places modules libraries b = record {
  modules = map (place_of modules) b.modules;
  libraries = map (place_of libraries) b.libraries;
}

-- what a configuration names
abbrev pub named_files : ConfigState → FileLists
named_files c =
    record {
      modules = module_files c;
      libraries = library_files c;
      blocks = map (block_places (module_files c) (library_files c)) c.blocks;
    }
