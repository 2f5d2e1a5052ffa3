-- The plans of commands that make a system of a configuration and of the files that it names.
use Rattle.std.specs.Prelude.{ℕ, nat_lt, List, [], map, length, Some, None, Result, Ok, Err, if◌then◌else◌}
use Rattle.tn_text.specs.Reading.{result_then}
use Rattle.tn_text.specs.declared.limits.Limit.TheVariants.{Processors, Modules}
use Rattle.tn_text.specs.declared.limits.TheConstants.{PROCESSOR_LIMIT, MODULE_LIMIT}
use Rattle.tn_module.specs.Modules.{Parts}
use Rattle.tn_modtext.specs.LibraryReading.{modules_read}
use Rattle.tn_config.specs.Configurations.{ConfigState}
use Rattle.tn_config.specs.ConfigReading.{config_read}
use Rattle.tn_stream.specs.LoadBranches.{whole_branch, branch_at}
use Rattle.tn_stream.specs.Streams.{stream}
use Rattle.tn_stream.specs.Lengths.{bytes_received, load_steps}
use Rattle.tn_list.specs.TreeTexts.{tree_text}
use Rattle.tn_system.specs.Sources.{Sources, module_files, library_files}
use Rattle.tn_system.specs.Systems.{SystemState}
use Rattle.tn_top.specs.Plans.{Answer, limit, done, Plan, gives, reads, settles, then_plan, at_once, each}
use Rattle.tn_top.specs.ModulePlans.{or_fault, module_plan}

-- ---- what is read

-- a configuration of at most 64 processors
abbrev pub limited_config : ConfigState → Result ConfigState Answer
limited_config c = if nat_lt PROCESSOR_LIMIT (length c.blocks) then Err (limit Processors (length c.blocks)) else Ok c

-- the configuration of a text, that of a file
unfoldable pub config_in : List ℕ → List ℕ → Result ConfigState Answer
config_in file text = result_then (or_fault file (config_read text)) limited_config

-- at most 1,024 modules
abbrev pub limited_modules : List Parts → Result (List Parts) Answer
limited_modules modules = if nat_lt MODULE_LIMIT (length modules) then Err (limit Modules (length modules)) else Ok modules

-- the modules of a library text, that of a file
unfoldable pub library_in : List ℕ → List ℕ → Result (List Parts) Answer
library_in file text = result_then (or_fault file (modules_read text)) limited_modules

-- a configuration is read, and a library
abbrev pub config_plan : List ℕ → Plan ConfigState
config_plan file = then_plan (reads file gives) (λ text. at_once (config_in file text))

abbrev pub library_file_plan : List ℕ → Plan (List Parts)
library_file_plan file = then_plan (reads file gives) (λ text. at_once (library_in file text))

-- ---- systems

abbrev pub sources_of : List ℕ → ConfigState → List Parts → List (List Parts) → Sources
sources_of file c pool shelf = record { config_file = file; config = c; pool = pool; shelf = shelf }

-- each file of a module that the configuration names is read, then each of a library, and the system
-- that they make is settled
abbrev pub files_plan : List ℕ → ConfigState → Plan SystemState
files_plan file c =
    then_plan (each module_plan (module_files c)) (λ pool. then_plan (each library_file_plan (library_files c))
    (λ shelf. settles (sources_of file c pool shelf) gives))

-- a configuration is read, and the system that it makes is settled
abbrev pub system_plan : List ℕ → Plan (ConfigState × SystemState)
system_plan file = then_plan (config_plan file) (λ c. then_plan (files_plan file c) (λ system. gives (c, system)))

-- ---- what is made of systems

-- the stream that loads all processors
abbrev pub system_stream : SystemState → List ℕ
system_stream y = stream (whole_branch y.images y.nodes)

-- it is written to a file
abbrev pub stream_written : List ℕ → ConfigState × SystemState → Plan Answer
stream_written target x = gives (done (Some (target, system_stream x.1)) [])

-- the load tree, with what each processor gets, the length of the stream and the number of steps
abbrev pub system_tree : ConfigState × SystemState → List ℕ
system_tree x =
    tree_text (map (λ b. b.name) x.0.blocks) x.1.nodes (λ k. bytes_received (branch_at x.1.images x.1.nodes k))
    (load_steps x.1.images x.1.nodes)

-- it is printed
abbrev pub tree_printed : ConfigState × SystemState → Plan Answer
tree_printed x = gives (done None (system_tree x))
