-- The plan of a grid: the system of its own sources, and what its loading and its run come to.
use Rattle.std.specs.Prelude.{ℕ, Bool, true, false, List, [], ◌∷◌, ◌++◌, length, None, codes}
use Rattle.std.specs.Fmt.{decimal}
use Rattle.tn_text.specs.WordTexts.{spaced}
use Rattle.tn_io.specs.FileLists.{Files}
use Rattle.tn_config.specs.Configurations.{ConfigState}
use Rattle.tn_config.specs.Grids.{grid_config, worker_text, finish_text}
use Rattle.tn_list.specs.TreeTexts.{count_line}
use Rattle.tn_network.specs.Nets.{NetState, released}
use Rattle.tn_system.specs.Systems.{SystemState}
use Rattle.tn_top.specs.Plans.{Answer, done, Plan, gives, then_plan}
use Rattle.tn_top.specs.SystemPlans.{system_plan, system_stream}
use Rattle.tn_top.specs.OwnFiles.{over}
use Rattle.tn_top.specs.SystemNets.{system_net, settled_net, outcome}

-- the sources of a grid of n by n processors: its configuration, and the files that this names
unfoldable pub grid_files : ℕ → Files
grid_files n =
    (codes "grid.cfg", grid_config n) ∷ (codes "worker.tmod", worker_text) ∷ (codes "fin.tlib", finish_text) ∷ []

-- the word of whether a network came to rest
unfoldable pub rest_word : Bool → List ℕ
rest_word true = codes "rest"
rest_word false = codes "budget"

-- a line of a word, a number of steps, and whether the network came to rest
unfoldable pub settle_line : List ℕ → ℕ × Bool → List ℕ
settle_line word came = word ++ spaced (decimal came.0) ++ spaced (rest_word came.1) ++ codes "\n"

-- the lines of what a grid of n by n comes to, which has so many processors and such a stream
unfoldable pub summary_text : ℕ → ℕ → ℕ → ℕ × Bool → ℕ × Bool → List ℕ
summary_text n processors bytes load run =
    count_line (codes "grid") n ++ count_line (codes "processors") processors ++ count_line (codes "stream") bytes
    ++ settle_line (codes "load") load ++ settle_line (codes "run") run

-- the network before it is loaded, all memories being filled with 0
abbrev pub grid_start : SystemState → NetState
grid_start y = system_net (0, false, false) y

-- the network settles, which loads it; then it is released, and settles again, which runs it
unfoldable pub grid_text : ℕ → SystemState → List ℕ
grid_text n y =
    summary_text n (length y.network.sizes) (length (system_stream y)) (outcome (grid_start y))
    (outcome (released (settled_net (grid_start y))))

-- it is printed
abbrev pub grid_printed : ℕ → ConfigState × SystemState → Plan Answer
grid_printed n x = gives (done None (grid_text n x.1))

-- the system of a grid
abbrev pub grid_system : ℕ → Plan (ConfigState × SystemState)
grid_system n = over (grid_files n) (system_plan (codes "grid.cfg"))

abbrev pub grid_plan : ℕ → Plan Answer
grid_plan n = then_plan (grid_system n) (grid_printed n)
