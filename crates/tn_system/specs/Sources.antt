-- What a system is made of: a configuration, and the modules in the files that it names.
use Rattle.std.specs.Prelude.{◌≡◌, ℕ, ◌+◌, ◌^◌, ◌<◌, ◌≤◌, List, [], ◌∷◌, ◌++◌, map, length, fold, slice_index_or, All, if◌then◌else◌}
use Rattle.std.specs.List.{flat_map, position_or_len}
use Rattle.tn_text.specs.declared.limits.TheConstants.{FILE_LIMIT, MODULE_LIMIT}
use Rattle.tn_module.specs.declared.modules.Library.{Library}
use Rattle.tn_module.specs.Modules.{Parts}
use Rattle.tn_module.specs.Names.{same_name, is_among}
use Rattle.tn_modtext.specs.Lines.{lines_of}
use Rattle.tn_symbols.specs.Choices.{module_at, IsChosen}
use Rattle.tn_config.specs.declared.configurations.Config.{Config}
use Rattle.tn_net.specs.Lines.{IsAdmitted}
use Rattle.tn_config.specs.Configurations.{BlockState, ConfigState, config_of, file_lines}
use Rattle.tn_config.specs.Networks.{described}
use Rattle.tn_config.specs.Writable.{IsWritable}

-- ---- files

-- the name of a file behind those of others, unless it is one of them
abbrev pub with_file : List (List ℕ) → List ℕ → List (List ℕ)
with_file files file = if is_among files file then files else files ++ file ∷ []

-- each name once, in the order of their first places
abbrev pub each_once : List (List ℕ) → List (List ℕ)
each_once files = fold with_file [] files

-- the files that lines of modules name, and those that lines of libraries name, each once and in the
-- order of its first line
abbrev pub module_files : ConfigState → List (List ℕ)
module_files c = each_once (flat_map (λ b. b.modules) c.blocks)

abbrev pub library_files : ConfigState → List (List ℕ)
library_files c = each_once (flat_map (λ b. b.libraries) c.blocks)

-- Fewer lines name files than a text may have bytes, as of each configuration that is read.
abbrev pub NamesFewFiles : ConfigState → Type 0
NamesFewFiles c = file_lines c < FILE_LIMIT

-- the place of a file among files
abbrev pub place_of : List (List ℕ) → List ℕ → ℕ
place_of files file = position_or_len (same_name file) files

-- ---- sources

-- a configuration and its file, the modules of the module files, and the modules of each of the
-- library files, in the order of the files
pub record Sources : Type 0 where
  pub config_file : List ℕ
  pub config : ConfigState
  pub pool : List Parts
  pub shelf : List (List Parts)

abbrev pub sources : List ℕ → Config → List Parts → List Library → Sources
sources config_file config pool shelf =
    record { config_file = config_file; config = config_of config; pool = pool; shelf = map (λ l. l.modules.items) shelf }

-- a module, and the modules of a library, whose texts have so few lines
abbrev pub HasFewLines : Parts → Type 0
HasFewLines m = length (lines_of m) < 2 ^ 30

pub record IsShortLibrary (modules : List Parts) : Type 0 where
  pub few : length modules ≤ MODULE_LIMIT
  pub few_lines : 1 + length (flat_map lines_of modules) < 2 ^ 30

-- What holds of sources that were read from texts of files: the configuration is one of those that have
-- texts, its network may be checked, each file has its modules, and no text is long.
pub record AreRead (s : Sources) : Type 0 where
  pub writable : IsWritable s.config
  pub admitted : IsAdmitted (described s.config)
  pub few_files : NamesFewFiles s.config
  pub pool : length s.pool ≡ length (module_files s.config)
  pub shelf : length s.shelf ≡ length (library_files s.config)
  pub few_lines : All HasFewLines s.pool
  pub short : All IsShortLibrary s.shelf

-- a module, the file in which its text stands, and how many lines stand before it there
pub record TextModule : Type 0 where
  pub file : List ℕ
  pub before : ℕ
  pub parts : Parts

abbrev pub parts_of : List TextModule → List Parts
parts_of modules = map (λ m. m.parts) modules

-- the module of a module file
abbrev pub module_in : Sources → List ℕ → TextModule
module_in s file = record { file = file; before = 0; parts = module_at s.pool (place_of (module_files s.config) file) }

-- modules whose texts stand one after the other in a file, behind so many lines
abbrev pub modules_behind : List ℕ → ℕ → List Parts → List TextModule
modules_behind file before [] = []
modules_behind file before (m ∷ ms) =
    record { file = file; before = before; parts = m } ∷ modules_behind file (before + length (lines_of m)) ms

-- the modules of a library file, behind its first line
abbrev pub modules_in : Sources → List ℕ → List TextModule
modules_in s file = modules_behind file 1 (slice_index_or s.shelf (place_of (library_files s.config) file) [])

-- ---- what a processor is given

-- the modules that its lines name, and all modules of the libraries that they name
abbrev pub named : Sources → BlockState → List TextModule
named s b = map (module_in s) b.modules

abbrev pub stock : Sources → BlockState → List TextModule
stock s b = flat_map (modules_in s) b.libraries

-- the module at a place
abbrev pub text_module_at : List TextModule → ℕ → TextModule
text_module_at modules k = slice_index_or modules k (record { file = []; before = 0; parts = module_at [] 0 })

-- the modules are those chosen for the processor: the named ones, and those of the libraries that
-- these need
pub record IsChosenFor (s : Sources) (b : BlockState) (modules : List TextModule) : Type 0 where
  pub picks : List ℕ
  pub chosen : IsChosen (parts_of (named s b)) (parts_of (stock s b)) picks
  pub modules_are : modules ≡ named s b ++ map (text_module_at (stock s b)) picks

-- it holds of the modules that are chosen for the processor
pub record OfChosen (s : Sources) (b : BlockState) (P : List TextModule → Type 0) : Type 0 where
  pub modules : List TextModule
  pub chosen : IsChosenFor s b modules
  pub holds : P modules
