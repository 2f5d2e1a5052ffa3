-- What was made of a configuration or of a source, and what the stream does in its network.
use Rattle.std.specs.Prelude.{◌≡◌, ℕ, List, [], ◌∷◌, length, Some, None, codes}
use Rattle.tn_io.specs.Outs.{Printed, told_then}
use Rattle.tn_io.specs.Stores.{Stored}
use Rattle.tn_net.specs.Networks.{NetworkState, IsPairing}
use Rattle.tn_stream.specs.Lengths.{load_steps}
use Rattle.tn_system.specs.Sources.{Sources}
use Rattle.tn_system.specs.Systems.{SystemState, IsSystem}
use Rattle.tn_system.specs.Executions.{Executes}
use Rattle.tn_load.specs.Boots.{AreFor, alone_node, Boots}
use Rattle.tn_top.specs.Plans.{gives, Goes}
use Rattle.tn_top.specs.Commands.{code_plan}
use Rattle.tn_top.specs.OneProcessor.{code_image, boot_stream}
use Rattle.tn_top.specs.SystemPlans.{system_plan, system_stream, system_tree}
use Rattle.tn_top.specs.GridPlans.{grid_files, grid_text}
use Rattle.tn_replay.specs.Truth.{AreTrue}
use Rattle.tn_top.specs.ReplayPlans.{ReplaySources, replay_sources_plan, known_of, power_up, replay_of}
use Rattle.tn_top.specs.Outcomes.{Told, Holds}

-- ---- systems

-- the stream of a system loads its network, in the number of steps that its load tree tells
abbrev pub SystemBoots : SystemState → Type 0
SystemBoots y = Boots y.network y.images (system_stream y) (load_steps y.images y.nodes)

-- The configuration of a file, with the files that it names, makes a system, in which each image has
-- code of the least sizes; its stream was written to a file, and loads the network, which then runs as the
-- programs do.
pub record IsBuilt (config target : List ℕ) (before after : Stored) : Type 0 where
  pub sources : Sources
  pub system : SystemState
  pub of_file : sources.config_file ≡ config
  pub makes : IsSystem sources system
  pub found : Goes before.files (system_plan config) (gives (sources.config, system))
  pub written : Told before.files after.files (Holds target (system_stream system))
  pub boots : SystemBoots system
  pub executes : Executes system

-- The same where its load tree was printed: the stream whose length and steps stand there loads the network.
pub record IsShown (config : List ℕ) (before : Stored) (old new : Printed) : Type 0 where
  pub sources : Sources
  pub system : SystemState
  pub of_file : sources.config_file ≡ config
  pub makes : IsSystem sources system
  pub found : Goes before.files (system_plan config) (gives (sources.config, system))
  pub printed : new.bytes ≡ told_then (system_tree (sources.config, system)) old.bytes
  pub boots : SystemBoots system

-- The configuration of a file makes a system, and with it a schedule was read, all lines of which could be
-- done; what they print in the system's network was printed, and the stream that the host sends loads it,
-- and it then runs as the programs do: wherever a line `same` tells so, it is so.
pub record IsReplayed (config schedule : List ℕ) (before : Stored) (old new : Printed) : Type 0 where
  pub sources : Sources
  pub replayed : ReplaySources
  pub of_file : sources.config_file ≡ config
  pub of_config : sources.config ≡ replayed.config
  pub makes : IsSystem sources replayed.system
  pub found : Goes before.files (replay_sources_plan config schedule) (gives replayed)
  pub whole : (replay_of replayed).refused ≡ None
  pub printed : new.bytes ≡ told_then (replay_of replayed).text old.bytes
  pub boots : SystemBoots replayed.system
  pub executes : Executes replayed.system
  pub truth : AreTrue (known_of replayed) replayed.schedule.lines (power_up replayed)

-- ---- grids

-- The sources of a grid make a system, what it comes to was printed, and its stream loads the network.
pub record IsGridShown (n : ℕ) (old new : Printed) : Type 0 where
  pub sources : Sources
  pub system : SystemState
  pub of_file : sources.config_file ≡ codes "grid.cfg"
  pub makes : IsSystem sources system
  pub found : Goes (Some (grid_files n)) (system_plan (codes "grid.cfg")) (gives (sources.config, system))
  pub printed : new.bytes ≡ told_then (grid_text n system) old.bytes
  pub boots : SystemBoots system

-- ---- one processor

-- the stream for code loads any single processor that the host is wired to by this link, where the memory
-- can hold the code beside the loader
abbrev pub OneBoots : ℕ → List ℕ → Type 0
OneBoots link code =
    (network : NetworkState) → IsPairing network → length network.sizes ≡ 1 → network.root_link ≡ link
    → AreFor network (code_image code ∷ [])
    → Boots network (code_image code ∷ []) (boot_stream link code) (load_steps (code_image code ∷ []) (alone_node link ∷ []))

-- A source has this code; the stream that boots a processor with it by a link was written to a file, and
-- loads the processor.
pub record IsStarted (source target : List ℕ) (link : ℕ) (before after : Stored) : Type 0 where
  pub code : List ℕ
  pub found : Goes before.files (code_plan source) (gives code)
  pub written : Told before.files after.files (Holds target (boot_stream link code))
  pub boots : OneBoots link code
