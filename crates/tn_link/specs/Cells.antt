-- The bytes of the cells of a program.
use Rattle.std.specs.Prelude.{ℕ, ◌+◌, ◌-◌, List, [], ◌∷◌, ◌++◌, take, length, replicate, slice_index_or, if◌then◌else◌}
use Rattle.std.specs.List.{flat_map, range_with_len}
use Rattle.tn_word.specs.Words.{bytes_of_word}
use Rattle.tn_module.specs.declared.modules.Cell.{Cell}
use Rattle.tn_module.specs.declared.modules.Cell.TheVariants as cell
use Rattle.tn_module.specs.Modules.{Parts}
use Rattle.tn_module.specs.Names.{is_code, aligned}
use Rattle.tn_symbols.specs.Choices.{module_at}
use Rattle.tn_layout.specs.Sizes.{position}
use Rattle.tn_link.specs.declared.tables.Target.{Target}
use Rattle.tn_link.specs.Places.{cell_offset, cells_end, start, target}

-- the bases of code and of cells, and the sizes of items
pub record Frame : Type 0 where
  pub code_base : ℕ
  pub cell_base : ℕ
  pub sizes : List ℕ

abbrev pub frame : ℕ → ℕ → List ℕ → Frame
frame code_base cell_base sizes = record { code_base = code_base; cell_base = cell_base; sizes = sizes }

-- the address of an item or of a cell
abbrev pub address : Frame → Target → ℕ
address f t = if is_code t.kind then f.code_base + position f.sizes t.place else f.cell_base + t.place

-- the bytes of a cell that begins at a distance from the first cell of its module
abbrev pub cell_bytes : Frame → (List ℕ → Target) → ℕ → Cell → List ℕ
cell_bytes f target_of at (cell.Word w) = bytes_of_word w
cell_bytes f target_of at (cell.Address name) = bytes_of_word (address f (target_of name))
cell_bytes f target_of at (cell.Byte b) = b ∷ []
cell_bytes f target_of at (cell.Space n) = replicate n 0
cell_bytes f target_of at cell.Align = replicate (aligned at - at) 0
cell_bytes f target_of at (cell.Label name) = []

abbrev pub cell_at : List Cell → ℕ → Cell
cell_at cells i = slice_index_or cells i cell.Align

abbrev pub bytes_at : Frame → (List ℕ → Target) → List Cell → ℕ → List ℕ
bytes_at f target_of cells i = cell_bytes f target_of (cell_offset cells i) (cell_at cells i)

-- so many cells from the first on
abbrev pub bytes_of_cells : Frame → (List ℕ → Target) → List Cell → ℕ → List ℕ
bytes_of_cells f target_of cells n = flat_map (bytes_at f target_of cells) (range_with_len 0 n)

-- the cells of the module at place m, with zero bytes before them from the end of the cells before
abbrev pub module_cells : List Parts → Frame → ℕ → List ℕ
module_cells modules f m =
    replicate ((start modules m).cell - cells_end (take m modules)) 0
    ++ bytes_of_cells f (target modules m) (module_at modules m).cells (length (module_at modules m).cells)

abbrev pub cells : List Parts → Frame → List ℕ
cells modules f = flat_map (module_cells modules f) (range_with_len 0 (length modules))
