-- Why there is no system, and what of it comes first: the processors are looked at in order, then
-- the network, then its load tree.
use Rattle.std.specs.Prelude.{◌≡◌, ⊤, ℕ, ◌+◌, ◌⊎◌, List, ◌∷◌, ◌++◌, slice_get, All, Option, Some, None, option_map, option_and_then}
use Rattle.tn_text.specs.declared.faults.Fault.{Fault}
use Rattle.tn_text.specs.declared.faults.FaultCode.{FaultCode}
use Rattle.tn_text.specs.declared.faults.FaultCode.TheVariants as code
use Rattle.tn_text.specs.declared.faults.Detail.TheVariants.{Named}
use Rattle.tn_text.specs.declared.limits.Limit.TheVariants as limit
use Rattle.tn_module.specs.declared.faults.Place.{Place}
use Rattle.tn_module.specs.declared.faults.Place.TheVariants as place
use Rattle.tn_modtext.specs.ModuleTexts.{line_in}
use Rattle.tn_symbols.specs.declared.choices.ChooseFault.{ChooseFault}
use Rattle.tn_symbols.specs.declared.choices.ChooseFault.TheVariants as choose
use Rattle.tn_symbols.specs.Faults.{AreSound, IsFirstFault}
use Rattle.tn_link.specs.declared.linking.LinkFault.{LinkFault}
use Rattle.tn_link.specs.declared.linking.LinkFault.TheVariants as link
use Rattle.tn_config.specs.Configurations.{BlockState}
use Rattle.tn_config.specs.Networks.{described}
use Rattle.tn_net.specs.Networks.{NetworkState, IsPairing, IsNetwork}
use Rattle.tn_net.specs.Faults.{IsFaultless, IsNetworkFault}
use Rattle.tn_net.specs.Trees.{IsFirstUnreachable}
use Rattle.tn_stream.specs.Images.{ImageBytes}
use Rattle.tn_image.specs.declared.images.ImageFault.{ImageFault}
use Rattle.tn_image.specs.declared.images.ImageFault.TheVariants as image
use Rattle.tn_image.specs.Images.{IsImageFault}
use Rattle.tn_system.specs.declared.systems.SystemFault.{SystemFault}
use Rattle.tn_system.specs.declared.systems.SystemFault.TheVariants as system
use Rattle.tn_system.specs.Sources.{Sources, TextModule, parts_of, OfChosen}
use Rattle.tn_system.specs.Systems.{IsProcessorImage}

-- ---- how faults are told

-- a fault that names something at a place of a module: it stands in the module's file, at the line of
-- the place there
abbrev pub fault_in : TextModule → Place → FaultCode → List ℕ → SystemFault
fault_in m p code name = system.Fault m.file (record { code = code; line = m.before + line_in m.parts p; detail = Named name })

-- the fault at the import or at the export with this index
abbrev pub import_fault : FaultCode → ℕ → TextModule → Option SystemFault
import_fault code i m = option_map (λ import. fault_in m (place.Import i) code import.name) (slice_get m.parts.imports i)

abbrev pub export_fault : FaultCode → ℕ → TextModule → Option SystemFault
export_fault code i m = option_map (fault_in m (place.Export i) code) (slice_get m.parts.exports i)

-- what is wrong with the names of modules
abbrev pub symbol_fault : List TextModule → ChooseFault → Option SystemFault
symbol_fault modules (choose.Undefined m i) = option_and_then (import_fault code.UndefinedSymbol i) (slice_get modules m)
symbol_fault modules (choose.Duplicate m i) = option_and_then (export_fault code.DuplicateSymbol i) (slice_get modules m)
symbol_fault modules (choose.WrongKind m i) = option_and_then (import_fault code.WrongKind i) (slice_get modules m)
symbol_fault modules choose.NoMemory = None

-- a count that is above its limit, and what a check of an image finds, which stands in the configuration
abbrev pub limit_fault : LinkFault → Option SystemFault
limit_fault (link.Items n) = Some (system.Limit limit.Items n)
limit_fault (link.Cells n) = Some (system.Limit limit.Cells n)
limit_fault (link.Code n) = Some (system.Limit limit.Code n)
limit_fault link.NoMemory = None

abbrev pub image_fault : List ℕ → ImageFault → Option SystemFault
image_fault config_file (image.Fault fault) = Some (system.Fault config_file fault)
image_fault config_file (image.Link fault) = limit_fault fault
image_fault config_file image.NoMemory = None

-- that no path reaches the processor, at its line
abbrev pub unreachable : List ℕ → BlockState → SystemFault
unreachable config_file b =
    system.Fault config_file (record { code = code.Unreachable; line = b.lines.processor; detail = Named b.name })

-- ---- a processor without an image

-- the processor has an image
abbrev pub HasImage : Sources → BlockState → Type 0
HasImage s b = (i : ImageBytes) × IsProcessorImage s b i

-- the fault is what is wrong first with the names of the modules
pub record IsSymbolFault (fault : SystemFault) (modules : List TextModule) : Type 0 where
  pub found : ChooseFault
  pub first : IsFirstFault (parts_of modules) found
  pub told : symbol_fault modules found ≡ Some fault

-- the names are sound, but a count of the modules is above its limit, or a check finds a fault
pub record IsCheckFault (config_file : List ℕ) (b : BlockState) (fault : SystemFault) (modules : List TextModule) : Type 0 where
  pub sound : AreSound (parts_of modules)
  pub found : ImageFault
  pub first : IsImageFault (parts_of modules) b found
  pub told : image_fault config_file found ≡ Some fault

-- one of these
abbrev pub IsModulesFault : List ℕ → BlockState → SystemFault → List TextModule → Type 0
IsModulesFault config_file b fault modules = IsSymbolFault fault modules ⊎ IsCheckFault config_file b fault modules

-- ---- systems

-- a processor has no image, and all before it have one
pub record IsProcessorFault (s : Sources) (fault : SystemFault) : Type 0 where
  pub before : List BlockState
  pub processor : BlockState
  pub behind : List BlockState
  pub split : s.config.blocks ≡ before ++ processor ∷ behind
  pub passed : All (HasImage s) before
  pub wrong : OfChosen s processor (IsModulesFault s.config_file processor fault)

-- all processors have images, but what is described is no network
pub record IsDescriptionFault (s : Sources) (fault : SystemFault) : Type 0 where
  pub passed : All (HasImage s) s.config.blocks
  pub found : Fault
  pub first : IsNetworkFault (described s.config) found
  pub told : system.Fault s.config_file found ≡ fault

-- it is a network, but no path reaches a processor
pub record IsReachFault (s : Sources) (fault : SystemFault) : Type 0 where
  pub passed : All (HasImage s) s.config.blocks
  pub faultless : IsFaultless (described s.config)
  pub network : NetworkState
  pub is_network : IsNetwork (described s.config) network
  pub pairing : IsPairing network
  pub processor : ℕ
  pub first : IsFirstUnreachable network processor
  pub told : option_map (unreachable s.config_file) (slice_get s.config.blocks processor) ≡ Some fault

-- why there is no system: the first of these
pub data IsSystemFault (s : Sources) (fault : SystemFault) : Type 0 where
  at_processor : IsProcessorFault s fault → IsSystemFault s fault
  at_network : IsDescriptionFault s fault → IsSystemFault s fault
  at_tree : IsReachFault s fault → IsSystemFault s fault

-- what holds of a fault; want of memory needs no reason
abbrev pub IfFault : SystemFault → (SystemFault → Type 0) → Type 0
IfFault (system.Fault file fault) P = P (system.Fault file fault)
IfFault (system.Limit word count) P = P (system.Limit word count)
IfFault system.NoMemory P = ⊤
