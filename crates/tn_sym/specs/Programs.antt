-- The instructions of linked programs, programs that belong to images, and where symbolic networks begin.
use Rattle.std.specs.Prelude.{
  ◌≡◌,
  ℕ,
  ◌+◌,
  ◌%◌,
  ◌⊎◌,
  ℤ,
  pos,
  List,
  [],
  ◌∷◌,
  ◌++◌,
  map,
  length,
  slice_get,
  slice_index,
  All,
  Option,
  Some,
  None,
}
use Rattle.std.specs.List.{flat_map, range_with_len}
use Rattle.tn_isa.specs.declared.functions.Fun.{Fun}
use Rattle.tn_isa.specs.declared.functions.Fun.TheVariants.{Opr}
use Rattle.tn_isa.specs.Operations.{operation_code}
use Rattle.tn_prefix.specs.Operand.{word_of}
use Rattle.tn_module.specs.declared.modules.Item.{Item}
use Rattle.tn_module.specs.declared.modules.Item.TheVariants as item
use Rattle.tn_module.specs.Modules.{Parts}
use Rattle.tn_module.specs.Validity.{IsValid}
use Rattle.tn_module.specs.Ranges.{IsInRange}
use Rattle.tn_symbols.specs.Choices.{module_at}
use Rattle.tn_layout.specs.Sizes.{Least, position}
use Rattle.tn_link.specs.Places.{target}
use Rattle.tn_link.specs.Programs.{reach, program, pieces, operand_value}
use Rattle.tn_link.specs.Linking.{IsBase, AreLinkable}
use Rattle.tn_stream.specs.Images.{SegmentBytes, ImageBytes}
use Rattle.tn_stream.specs.PlainImages.{IsPlain}
use Rattle.tn_net.specs.Networks.{NetworkState}
use Rattle.tn_node.specs.Nodes.{NodeState}
use Rattle.tn_network.specs.Boards.{BoardState, WiredBoard}
use Rattle.tn_network.specs.GuardedBoards.{guarded_wired}
use Rattle.tn_network.specs.Loads.{PlacedBytes, Target, IsLoaded}
use Rattle.tn_sym.specs.declared.codes.Instruction.{Instruction}
use Rattle.tn_sym.specs.ProgramStates.{ProgramState, IsLinkedTo}
use Rattle.tn_sym.specs.Symbolic.{CodeState, SymbolicState}

-- ---- instructions

-- the items of a program one after the other, each with the place of its module
abbrev pub module_sites : List Parts → ℕ → List (ℕ × Item)
module_sites modules m = map (λ x. (m, x)) (module_at modules m).items

abbrev pub sites : List Parts → List (ℕ × Item)
sites modules = flat_map (module_sites modules) (range_with_len 0 (length modules))

-- the function of the item at place i, which stands in the module at place m, and its operand by what
-- names stand for under the sizes, if it is an instruction
abbrev pub executed : List Parts → ℕ → List ℕ → ℕ → ℕ → Item → Option (Fun × ℤ)
executed modules cell_base sizes i m (item.Direct f o) = Some (f, operand_value sizes i (reach (target modules m) cell_base o))
executed modules cell_base sizes i m (item.Plain op) = Some (Opr, pos (operation_code op))
executed modules cell_base sizes i m (item.Byte b) = None
executed modules cell_base sizes i m (item.Label name) = None

-- the instruction that an item of a size at an address is, if it is one
abbrev pub instruction_of : ℕ → ℕ → Option (Fun × ℤ) → List Instruction
instruction_of address size (Some t) = record { address = address; size = size; fun = t.0; operand = word_of t.1 } ∷ []
instruction_of address size None = []

-- those of items from place i on, where the code begins at an address
abbrev pub instructions_from : List Parts → ℕ → List ℕ → ℕ → ℕ → List (ℕ × Item) → List Instruction
instructions_from modules cell_base sizes base i [] = []
instructions_from modules cell_base sizes base i (site ∷ sites) =
    instruction_of (base + position sizes i) (slice_index sizes i) (executed modules cell_base sizes i site.0 site.1)
    ++ instructions_from modules cell_base sizes base (i + 1) sites

-- the instructions of a program whose code and cells begin at addresses
abbrev pub instructions : List Parts → ℕ → ℕ → List ℕ → List Instruction
instructions modules code_base cell_base sizes = instructions_from modules cell_base sizes code_base 0 (sites modules)

-- the code of a program: its items have the least sizes
pub record IsCodeOf (p : ProgramState) (code : CodeState) : Type 0 where
  pub sizes : List ℕ
  pub least : Least (pieces (program p.modules p.linked.cell_base)) sizes
  pub base : code.base ≡ p.linked.code_base
  pub bytes : code.bytes ≡ p.linked.code
  pub instructions : code.instructions ≡ instructions p.modules p.linked.code_base p.linked.cell_base sizes

-- ---- programs and images

-- the modules of a program are valid
abbrev pub AreModules : List Parts → Type 0
AreModules modules = All (λ m. IsValid m × IsInRange m) modules

-- the code of a program as a segment
abbrev pub code_segment : ProgramState → SegmentBytes
code_segment p = record { base = p.linked.code_base; bytes = p.linked.code }

-- A program belongs to an image for a memory of so many bytes: it is linked, the image is plain, and the
-- code, unless there is none, is its first segment.
pub record Belongs (size : ℕ) (p : ProgramState) (image : ImageBytes) : Type 0 where
  pub linkable : AreLinkable p.modules
  pub code_base : IsBase p.linked.code_base
  pub cell_base : IsBase p.linked.cell_base
  pub aligned : p.linked.cell_base % 4 ≡ 0
  pub linked : IsLinkedTo p.modules p.linked.code_base p.linked.cell_base p.linked
  pub plain : IsPlain size image
  pub first : (p.linked.code ≡ []) ⊎ (slice_get image.segments 0 ≡ Some (code_segment p))

-- each program of a network to its image
pub record Belong (network : NetworkState) (programs : List ProgramState) (images : List ImageBytes) : Type 0 where
  pub all_programs : length programs ≡ length network.sizes
  pub all_images : length images ≡ length network.sizes
  pub each :
      (p : ℕ) (program : ProgramState) (image : ImageBytes) → slice_get programs p ≡ Some program → slice_get images p ≡ Some image
      → Belongs (slice_index network.sizes p) program image

-- ---- loaded networks

abbrev pub placed : SegmentBytes → PlacedBytes
placed s = record { base = s.base; bytes = s.bytes }

-- a processor is to hold an image, whatever its three registers are to hold
pub record IsTargetOf (image : ImageBytes) (target : Target) : Type 0 where
  pub pieces : target.pieces ≡ map placed image.segments
  pub entry : target.entry ≡ image.entry
  pub wptr : target.wptr ≡ image.wptr

-- a board is loaded with images
pub record AreLoaded (images : List ImageBytes) (s : BoardState (NodeState (List ℕ))) : Type 0 where
  pub targets : List Target
  pub count : length targets ≡ length images
  pub each :
      (p : ℕ) (image : ImageBytes) (target : Target) → slice_get images p ≡ Some image → slice_get targets p ≡ Some target
      → IsTargetOf image target
  pub loaded : IsLoaded (λ m. m) s targets

-- ---- the beginning

-- where the code of a program lies
abbrev pub region_of : ProgramState → ℕ × ℕ
region_of p = (p.linked.code_base, p.linked.code_base + length p.linked.code)

-- A symbolic network begins beside a board: with a copy of it in whose memories the code is guarded, with
-- the codes of the programs, and with nothing stopped.
pub record Begins (programs : List ProgramState) (board : WiredBoard (NodeState (List ℕ))) (s : SymbolicState) : Type 0 where
  pub copy : s.board ≡ guarded_wired (map region_of programs) board
  pub count : length s.codes ≡ length programs
  pub codes :
      (p : ℕ) (program : ProgramState) (code : CodeState) → slice_get programs p ≡ Some program → slice_get s.codes p ≡ Some code
      → IsCodeOf program code
  pub stop : s.stop ≡ None
