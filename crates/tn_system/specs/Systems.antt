-- Systems: the images and programs of all processors, their network, and the tree by which it loads.
use Rattle.std.specs.Prelude.{◌≡◌, ◌%◌, ◌⊎◌, List, [], map, length, slice_get, Some}
use Rattle.std.specs.List.{AllZip}
use Rattle.tn_module.specs.Modules.{Parts}
use Rattle.tn_symbols.specs.Faults.{AreSound}
use Rattle.tn_link.specs.Linking.{IsBase, AreLinkable}
use Rattle.tn_config.specs.Configurations.{BlockState}
use Rattle.tn_config.specs.Networks.{described}
use Rattle.tn_net.specs.Networks.{NetworkState, IsPairing, IsNetwork}
use Rattle.tn_net.specs.Faults.{IsFaultless}
use Rattle.tn_net.specs.Trees.{LoadNode, IsLoadTree}
use Rattle.tn_net.specs.WholeTrees.{IsWholeTree}
use Rattle.tn_stream.specs.Images.{SegmentBytes, ImageBytes, images_of, AreImages}
use Rattle.tn_stream.specs.PlainImages.{IsPlain}
use Rattle.tn_image.specs.Images.{IsImageFor}
use Rattle.tn_sym.specs.declared.programs.Program.{Program}
use Rattle.tn_sym.specs.ProgramStates.{ProgramState, program_of, IsLinkedTo}
use Rattle.tn_sym.specs.Programs.{AreModules}
use Rattle.tn_system.specs.declared.systems.System.{System}
use Rattle.tn_system.specs.Sources.{Sources, TextModule, parts_of, OfChosen}

-- the images and the programs by processor, the network, and the nodes of its load tree
pub record SystemState : Type 0 where
  pub images : List ImageBytes
  pub programs : List ProgramState
  pub network : NetworkState
  pub nodes : List LoadNode

abbrev pub programs_of : List Program → List ProgramState
programs_of programs = map program_of programs

abbrev pub system_of : System → SystemState
system_of y =
    record {
      images = images_of y.images.items;
      programs = programs_of y.programs.items;
      network = y.network;
      nodes = y.tree.nodes.items;
    }

-- ---- images

-- the image is made of these modules: their names are sound, they are linked with the least sizes, and
-- no check finds a fault
pub record IsImageOf (b : BlockState) (i : ImageBytes) (modules : List TextModule) : Type 0 where
  pub sound : AreSound (parts_of modules)
  pub image : IsImageFor (parts_of modules) b i

-- the image of a processor is made of the modules that are chosen for it
abbrev pub IsProcessorImage : Sources → BlockState → ImageBytes → Type 0
IsProcessorImage s b i = OfChosen s b (IsImageOf b i)

-- the image can be loaded into the memory of the processor
abbrev pub IsPlainFor : BlockState → ImageBytes → Type 0
IsPlainFor b i = IsPlain b.size i

-- ---- programs

-- the modules are valid, and can be linked at the bases of the block
pub record AreLinkableAt (b : BlockState) (modules : List Parts) : Type 0 where
  pub valid : AreModules modules
  pub linkable : AreLinkable modules
  pub code_base : IsBase b.code
  pub cell_base : IsBase b.cells
  pub aligned : b.cells % 4 ≡ 0

-- the program is that of these modules: their names are sound, and it has them linked at the bases of
-- the block with the least sizes
pub record IsProgramOf (b : BlockState) (g : ProgramState) (modules : List TextModule) : Type 0 where
  pub sound : AreSound (parts_of modules)
  pub linkable : AreLinkableAt b (parts_of modules)
  pub modules_are : g.modules ≡ parts_of modules
  pub linked : IsLinkedTo (parts_of modules) b.code b.cells g.linked

-- the program of a processor is that of the modules that are chosen for it
abbrev pub IsProcessorProgram : Sources → BlockState → ProgramState → Type 0
IsProcessorProgram s b g = OfChosen s b (IsProgramOf b g)

-- the code of a program as a segment
abbrev pub code_segment : ProgramState → SegmentBytes
code_segment g = record { base = g.linked.code_base; bytes = g.linked.code }

-- the first segment of the image is the code of the program, unless that is empty
abbrev pub BelongTogether : ProgramState → ImageBytes → Type 0
BelongTogether g i = (g.linked.code ≡ []) ⊎ (slice_get i.segments 0 ≡ Some (code_segment g))

-- ---- systems

-- Each processor has its image, which the checks have found plain, and its program, which belongs to
-- the image; the network is the one that the configuration describes, without a fault; and all its
-- processors are in its load tree.
pub record IsSystem (s : Sources) (y : SystemState) : Type 0 where
  pub images : AllZip (IsProcessorImage s) s.config.blocks y.images
  pub short : AreImages y.images
  pub plain : AllZip IsPlainFor s.config.blocks y.images
  pub programs : AllZip (IsProcessorProgram s) s.config.blocks y.programs
  pub belong : AllZip BelongTogether y.programs y.images
  pub faultless : IsFaultless (described s.config)
  pub network : IsNetwork (described s.config) y.network
  pub pairing : IsPairing y.network
  pub tree : IsLoadTree y.network y.nodes
  pub whole : IsWholeTree y.nodes (length s.config.blocks)
