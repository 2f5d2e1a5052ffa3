-- The regions of a processor's memory that code, cells and workspace take, in plain numbers.
use Rattle.std.specs.Prelude.{◌≡◌, ◌↔◌, ◌⊎◌, ℕ, ◌+◌, ◌-◌, ◌*◌, ◌%◌, ◌^◌, Bool, true, ◌&&◌, ◌||◌, ◌==◌, not}
use Rattle.std.specs.Prelude.{nat_le, nat_lt, ◌≤◌, ◌<◌, length}
use Rattle.std.specs.Prelude.{max, min}
use Rattle.tn_text.specs.declared.faults.Part.TheVariants as part
use Rattle.tn_text.specs.declared.faults.Region.{Region}
use Rattle.tn_word.specs.Words.{most_neg, load_base}
use Rattle.tn_config.specs.Configurations.{BlockState}
use Rattle.tn_image.specs.declared.regions.Extent.{Extent}

-- the code, where it has so many bytes
abbrev pub code_extent : BlockState → ℕ → Extent
code_extent b code_length = record { part = part.Code; from = b.code; to = b.code + code_length }

-- the cells, where they have so many bytes
abbrev pub cells_extent : BlockState → ℕ → Extent
cells_extent b cells_length = record { part = part.Cells; from = b.cells; to = b.cells + cells_length }

-- the workspace: words below the workspace pointer, and words from there on, those of the arguments among them
abbrev pub workspace_extent : BlockState → Extent
workspace_extent b =
    record { part = part.Workspace; from = b.wptr - 4 * b.below; to = b.wptr + 4 * max b.above (length b.args) }

-- a region as a fault tells it: its addresses as words
abbrev pub region : Extent → Region
region e = record { part = e.part; from = e.from % 2 ^ 32; to = e.to % 2 ^ 32 }

-- the address after the last one of the processor's memory
abbrev pub memory_end : BlockState → ℕ
memory_end b = most_neg + b.size

-- the region lies among the addresses that an image may use, up to an end
abbrev pub lies_below : ℕ → Extent → Bool
lies_below end e = nat_le load_base e.from && nat_le e.to end

-- the region has an address that an image may not use; an empty region has none
abbrev pub is_outside : ℕ → Extent → Bool
is_outside end e = not (e.from == e.to || lies_below end e)

-- an address lies in the region
pub record IsIn (address : ℕ) (e : Extent) : Type 0 where
  pub from : e.from ≤ address
  pub to : address < e.to

-- the regions share an address
abbrev pub overlap : Extent → Extent → Bool
overlap one two = nat_lt (max one.from two.from) (min one.to two.to)

-- no address lies in both regions
abbrev pub AreApart : Extent → Extent → Type 0
AreApart one two = (address : ℕ) → IsIn address one → IsIn address two → ⊥

-- all addresses of the region are some that an image may use, up to an end
abbrev pub IsInside : ℕ → Extent → Type 0
IsInside end e = (address : ℕ) → IsIn address e → (load_base ≤ address) × (address < end)

-- the regions lie in the processor's memory and apart from each other, where code and cells have so many bytes
pub record AreSeparate (b : BlockState) (code_length cells_length : ℕ) : Type 0 where
  pub code : IsInside (memory_end b) (code_extent b code_length)
  pub cells : IsInside (memory_end b) (cells_extent b cells_length)
  pub workspace : IsInside (memory_end b) (workspace_extent b)
  pub code_cells : AreApart (code_extent b code_length) (cells_extent b cells_length)
  pub code_workspace : AreApart (code_extent b code_length) (workspace_extent b)
  pub cells_workspace : AreApart (cells_extent b cells_length) (workspace_extent b)

-- What the tests of regions tell: two overlap exactly where an address lies in both, and one is outside exactly
-- where one of its addresses is none that an image may use.
pub record AreTestsOfAddresses (one two : Extent) : Type 0 where
  pub overlap : (overlap one two ≡ true) ↔ ((address : ℕ) × IsIn address one × IsIn address two)
  pub outside : (end : ℕ) → one.from ≤ one.to → (is_outside end one ≡ true)
      ↔ ((address : ℕ) × IsIn address one × ((address < load_base) ⊎ (end ≤ address)))
