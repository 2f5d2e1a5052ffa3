-- The listing of all processors of a system.
use Rattle.std.specs.Prelude.{ℕ, List, [], ◌∷◌, ◌++◌, None}
use Rattle.tn_config.specs.Configurations.{BlockState, ConfigState}
use Rattle.tn_stream.specs.Images.{ImageBytes}
use Rattle.tn_image.specs.Regions.{workspace_extent, region}
use Rattle.tn_sym.specs.ProgramStates.{LinkedState, ProgramState}
use Rattle.tn_list.specs.Stretches.{Stretch}
use Rattle.tn_list.specs.ListingTexts.{listing_text}
use Rattle.tn_system.specs.Systems.{SystemState}
use Rattle.tn_top.specs.Plans.{Answer, done, Plan, gives}

-- the code of linked modules, and their cells
abbrev pub linked_code : LinkedState → Stretch
linked_code l = record { base = l.code_base; bytes = l.code; places = l.placed }

abbrev pub linked_cells : LinkedState → Stretch
linked_cells l = record { base = l.cell_base; bytes = l.cells; places = l.cell_places }

-- the listing of the processor of a block, with its program and its image
abbrev pub block_listing : BlockState → ProgramState → ImageBytes → List ℕ
block_listing b g i = listing_text b.name g.modules (linked_code g.linked) (linked_cells g.linked) i (region (workspace_extent b))

-- the listings of several, one behind the other
unfoldable pub listings : List BlockState → List ProgramState → List ImageBytes → List ℕ
listings [] programs images = []
listings (b ∷ blocks) [] images = []
listings (b ∷ blocks) (g ∷ programs) [] = []
listings (b ∷ blocks) (g ∷ programs) (i ∷ images) = block_listing b g i ++ listings blocks programs images

-- the listing of a system: the processors stand in the order of the configuration
abbrev pub system_listing : ConfigState × SystemState → List ℕ
system_listing x = listings x.0.blocks x.1.programs x.1.images

-- it is printed
abbrev pub listing_printed : ConfigState × SystemState → Plan Answer
listing_printed x = gives (done None (system_listing x))
