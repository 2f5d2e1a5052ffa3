-- Images of processors, and why there is none.
use Rattle.std.specs.Prelude.{◌≡◌, ⊤, ℕ, ◌≤◌, Bool, true, not, ◌==◌, List, [], ◌∷◌, length, filter, Result, Ok, Err, None, Some}
use Rattle.std.specs.List.{sum, flat_map}
use Rattle.std.specs.Option.{option_map}
use Rattle.tn_text.specs.declared.faults.Fault.{Fault}
use Rattle.tn_text.specs.declared.limits.TheConstants.{ITEM_LIMIT, CELL_LIMIT, CODE_LIMIT}
use Rattle.tn_text.specs.Firsts.{first_cause}
use Rattle.tn_word.specs.Words.{bytes_of_word}
use Rattle.tn_module.specs.Modules.{Parts}
use Rattle.tn_layout.specs.Sizes.{Least}
use Rattle.tn_link.specs.declared.linking.LinkFault.{LinkFault}
use Rattle.tn_link.specs.declared.linking.LinkFault.TheVariants as link
use Rattle.tn_link.specs.Places.{item_count, cells_end, exported_label}
use Rattle.tn_link.specs.Programs.{program, pieces, code}
use Rattle.tn_link.specs.Cells.{frame, address, cells}
use Rattle.tn_link.specs.Linking.{IsLinked, IsLinkFault}
use Rattle.tn_config.specs.Configurations.{BlockState}
use Rattle.tn_config.specs.Places.{is_size, is_address, is_count}
use Rattle.tn_stream.specs.Images.{SegmentBytes, ImageBytes, image_of}
use Rattle.tn_image.specs.declared.images.Built.{Built}
use Rattle.tn_image.specs.declared.images.ImageFault.{ImageFault}
use Rattle.tn_image.specs.declared.images.ImageFault.TheVariants as image
use Rattle.tn_image.specs.Checks.{checks, linked_at}

-- the numbers of a block lie in their ranges
pub record IsInRange (b : BlockState) : Type 0 where
  pub size : is_size b.size ≡ true
  pub code : is_address b.code ≡ true
  pub cells : is_address b.cells ≡ true
  pub wptr : is_address b.wptr ≡ true
  pub below : is_count b.below ≡ true
  pub above : is_count b.above ≡ true

-- ---- segments

abbrev pub segment : ℕ → List ℕ → SegmentBytes
segment base bytes = record { base = base; bytes = bytes }

-- the words of the arguments as bytes
abbrev pub argument_bytes : List ℕ → List ℕ
argument_bytes args = flat_map bytes_of_word args

abbrev pub has_bytes : SegmentBytes → Bool
has_bytes s = not (length s.bytes == 0)

-- the segments of an image: code, cells and arguments, without the empty ones
abbrev pub segments : BlockState → List ℕ → List ℕ → List SegmentBytes
segments b code cells =
    filter has_bytes (segment b.code code ∷ segment b.cells cells ∷ segment b.wptr (argument_bytes b.args) ∷ [])

-- ---- images

-- no count of the modules is above its limit, where these are the least sizes of their items and cells
-- begin at a base
pub record AreWithinLimits (modules : List Parts) (cell_base : ℕ) (sizes : List ℕ) : Type 0 where
  pub least : Least (pieces (program modules cell_base)) sizes
  pub items : item_count modules ≤ ITEM_LIMIT
  pub cells : cells_end modules ≤ CELL_LIMIT
  pub code : sum sizes ≤ CODE_LIMIT

-- the image of the modules at the block's addresses, in which no check finds a fault
pub record IsImageFor (modules : List Parts) (b : BlockState) (i : ImageBytes) : Type 0 where
  pub sizes : List ℕ
  pub limits : AreWithinLimits modules b.cells sizes
  pub passed : first_cause (checks modules b (sum sizes) (cells_end modules)) ≡ None
  pub segments_are : i.segments ≡ segments b (code (program modules b.cells) sizes) (cells modules (frame b.code b.cells sizes))
  pub entry_is : option_map (address (frame b.code b.cells sizes)) (exported_label modules b.entry) ≡ Some i.entry
  pub wptr_is : i.wptr ≡ b.wptr

-- such an image, and the linked modules that it is made of
pub record IsBuilt (modules : List Parts) (b : BlockState) (built : Built) : Type 0 where
  pub linked : IsLinked modules b.code b.cells built.linked
  pub image : IsImageFor modules b (image_of built.image)

-- ---- faults

-- the fault is the first that a check finds. Cells whose base is no multiple of 4 are linked at the next lower one
pub record IsFirstFault (modules : List Parts) (b : BlockState) (fault : Fault) : Type 0 where
  pub sizes : List ℕ
  pub limits : AreWithinLimits modules (linked_at b.cells) sizes
  pub first : first_cause (checks modules b (sum sizes) (cells_end modules)) ≡ Some fault

-- a count of the modules is above its limit, and it is the first; want of memory is no such count
abbrev pub IsOverLimit : List Parts → ℕ → LinkFault → Type 0
IsOverLimit modules cell_base (link.Items n) = IsLinkFault modules cell_base (link.Items n)
IsOverLimit modules cell_base (link.Cells n) = IsLinkFault modules cell_base (link.Cells n)
IsOverLimit modules cell_base (link.Code n) = IsLinkFault modules cell_base (link.Code n)
IsOverLimit modules cell_base link.NoMemory = ⊥

-- why there is no image; want of memory needs no reason
abbrev pub IsImageFault : List Parts → BlockState → ImageFault → Type 0
IsImageFault modules b (image.Fault fault) = IsFirstFault modules b fault
IsImageFault modules b (image.Link fault) = IsOverLimit modules (linked_at b.cells) fault
IsImageFault modules b image.NoMemory = ⊤

-- ---- one answer

-- what is right to answer where memory suffices
abbrev pub IsRight : List Parts → BlockState → Result ImageBytes ImageFault → Type 0
IsRight modules b (Ok i) = IsImageFor modules b i
IsRight modules b (Err (image.Fault fault)) = IsFirstFault modules b fault
IsRight modules b (Err (image.Link fault)) = IsOverLimit modules (linked_at b.cells) fault
IsRight modules b (Err image.NoMemory) = ⊥

-- exactly one answer is right
pub record OneIsRight (modules : List Parts) (b : BlockState) : Type 0 where
  pub answer : Result ImageBytes ImageFault
  pub right : IsRight modules b answer
  pub only : (other : Result ImageBytes ImageFault) → IsRight modules b other → other ≡ answer
