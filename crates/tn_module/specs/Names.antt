-- The names of a module: what they are defined as, and how they are used.
use Rattle.std.specs.Prelude.{ℕ, ◌+◌, ◌*◌, ◌/◌, ◌%◌, Bool, true, false, not, ◌==◌, nat_eq, List, [], ◌∷◌, ◌++◌, map, Option, Some, None}
use Rattle.std.specs.Prelude.{if◌then◌else◌}
use Rattle.std.specs.List.{list_any, filter_map, flat_map}
use Rattle.std.specs.Option.{option_to_list}
use Rattle.std.specs.Cmp.Lexicographic.{pointwise}
use Rattle.tn_isa.specs.declared.functions.Fun.{Fun}
use Rattle.tn_isa.specs.declared.functions.Fun.TheVariants as fun
use Rattle.tn_isa.specs.Functions.{code_of}
use Rattle.tn_module.specs.declared.modules.Kind.{Kind}
use Rattle.tn_module.specs.declared.modules.Kind.TheVariants as kind
use Rattle.tn_module.specs.declared.modules.Import.{Import}
use Rattle.tn_module.specs.declared.modules.Operand.{Operand}
use Rattle.tn_module.specs.declared.modules.Operand.TheVariants as operand
use Rattle.tn_module.specs.declared.modules.Item.{Item}
use Rattle.tn_module.specs.declared.modules.Item.TheVariants as item
use Rattle.tn_module.specs.declared.modules.Cell.{Cell}
use Rattle.tn_module.specs.declared.modules.Cell.TheVariants as cell
use Rattle.tn_module.specs.Modules.{Parts}

-- whether names are equal, and whether one of these is
abbrev pub same_name : List ℕ → List ℕ → Bool
same_name = pointwise nat_eq

abbrev pub is_among : List (List ℕ) → List ℕ → Bool
is_among names name = list_any (same_name name) names

-- ---- what a module defines

abbrev pub is_code : Kind → Bool
is_code kind.Code = true
is_code kind.Cell = false

abbrev pub imported_code : Import → Option (List ℕ)
imported_code import = if is_code import.kind then Some import.name else None

abbrev pub imported_cell : Import → Option (List ℕ)
imported_cell import = if is_code import.kind then None else Some import.name

abbrev pub code_label : Item → Option (List ℕ)
code_label (item.Direct f o) = None
code_label (item.Plain op) = None
code_label (item.Byte b) = None
code_label (item.Label name) = Some name

abbrev pub cell_label : Cell → Option (List ℕ)
cell_label (cell.Word w) = None
cell_label (cell.Address name) = None
cell_label (cell.Byte b) = None
cell_label (cell.Space n) = None
cell_label cell.Align = None
cell_label (cell.Label name) = Some name

-- the names of imports, of code and of cells, in their order
abbrev pub import_names : List Import → List (List ℕ)
import_names imports = map (λ import. import.name) imports

abbrev pub code_labels : List Item → List (List ℕ)
code_labels items = filter_map code_label items

abbrev pub cell_labels : List Cell → List (List ℕ)
cell_labels cells = filter_map cell_label cells

-- the names that the module defines, a name once for each thing that it is defined as
abbrev pub defined_names : Parts → List (List ℕ)
defined_names m = (import_names m.imports ++ code_labels m.items) ++ cell_labels m.cells

-- the names of code, and of cells, here or in another module
abbrev pub code_names : Parts → List (List ℕ)
code_names m = filter_map imported_code m.imports ++ code_labels m.items

abbrev pub cell_names : Parts → List (List ℕ)
cell_names m = filter_map imported_cell m.imports ++ cell_labels m.cells

-- the names that the module may export
abbrev pub labels : Parts → List (List ℕ)
labels m = code_labels m.items ++ cell_labels m.cells

-- ---- where cells lie

-- the next multiple of 4
abbrev pub aligned : ℕ → ℕ
aligned at = (at + 3) / 4 * 4

-- the end of a cell that begins at a distance from the start of the module's cells
abbrev pub end_of : ℕ → Cell → ℕ
end_of at (cell.Word w) = at + 4
end_of at (cell.Address name) = at + 4
end_of at (cell.Byte b) = at + 1
end_of at (cell.Space n) = at + n
end_of at cell.Align = aligned at
end_of at (cell.Label name) = at

-- a cell's label, where it lies at no multiple of 4
abbrev pub misaligned_label : ℕ → Cell → Option (List ℕ)
misaligned_label at c = if at % 4 == 0 then None else cell_label c

-- the labels among cells from a distance on that lie at no multiple of 4
unfoldable pub misaligned_from : ℕ → List Cell → List (List ℕ)
misaligned_from at [] = []
misaligned_from at (c ∷ cs) = option_to_list (misaligned_label at c) ++ misaligned_from (end_of at c) cs

abbrev pub misaligned : Parts → List (List ℕ)
misaligned m = misaligned_from 0 m.cells

-- ---- how names are used

-- the names that an operand uses as code, and as cells
abbrev pub code_uses : Operand → List (List ℕ)
code_uses (operand.Number v) = []
code_uses (operand.To name) = name ∷ []
code_uses (operand.Difference high low) = high ∷ low ∷ []
code_uses (operand.CellWord name) = []

abbrev pub cell_uses : Operand → List (List ℕ)
cell_uses (operand.Number v) = []
cell_uses (operand.To name) = []
cell_uses (operand.Difference high low) = []
cell_uses (operand.CellWord name) = name ∷ []

abbrev pub item_uses : (Operand → List (List ℕ)) → Item → List (List ℕ)
item_uses uses (item.Direct f o) = uses o
item_uses uses (item.Plain op) = []
item_uses uses (item.Byte b) = []
item_uses uses (item.Label name) = []

-- a cell's address may be of code or of a cell
abbrev pub address_uses : Cell → List (List ℕ)
address_uses (cell.Word w) = []
address_uses (cell.Address name) = name ∷ []
address_uses (cell.Byte b) = []
address_uses (cell.Space n) = []
address_uses cell.Align = []
address_uses (cell.Label name) = []

-- the names that the module uses as code, as cells, and as either
abbrev pub used_as_code : Parts → List (List ℕ)
used_as_code m = flat_map (item_uses code_uses) m.items

abbrev pub used_as_cells : Parts → List (List ℕ)
used_as_cells m = flat_map (item_uses cell_uses) m.items

abbrev pub used_in_cells : Parts → List (List ℕ)
used_in_cells m = flat_map address_uses m.cells

-- whether a function is one of these
abbrev pub is_one_of : List Fun → Fun → Bool
is_one_of functions f = list_any (λ g. code_of f == code_of g) functions

-- the operands that a function takes
abbrev pub takes : Fun → Operand → Bool
takes f (operand.Number v) = not (is_one_of (fun.Pfix ∷ fun.Nfix ∷ fun.Opr ∷ []) f)
takes f (operand.To name) = is_one_of (fun.J ∷ fun.Cj ∷ fun.Call ∷ []) f
takes f (operand.Difference high low) = is_one_of (fun.Ldc ∷ fun.Adc ∷ fun.Eqc ∷ []) f
takes f (operand.CellWord name) = is_one_of (fun.Ldc ∷ fun.Ldnl ∷ fun.Ldnlp ∷ fun.Stnl ∷ []) f

abbrev pub has_its_operand : Item → Bool
has_its_operand (item.Direct f o) = takes f o
has_its_operand (item.Plain op) = true
has_its_operand (item.Byte b) = true
has_its_operand (item.Label name) = true
