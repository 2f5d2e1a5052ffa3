-- The items of a program, and its code under sizes.
use Rattle.std.specs.Prelude.{ℕ, ◌+◌, ◌-◌, ◌/◌, ℤ, pos, List, [], ◌∷◌, map, length, slice_index_or}
use Rattle.std.specs.List.{flat_map, range_with_len}
use Rattle.tn_word.specs.Words.{most_neg}
use Rattle.tn_isa.specs.declared.functions.Fun.TheVariants as fun
use Rattle.tn_isa.specs.Operations.{operation_code}
use Rattle.tn_prefix.specs.Coding.{coding, coding_length}
use Rattle.tn_module.specs.declared.modules.Operand.{Operand}
use Rattle.tn_module.specs.declared.modules.Operand.TheVariants as operand
use Rattle.tn_module.specs.declared.modules.Item.{Item}
use Rattle.tn_module.specs.declared.modules.Item.TheVariants as item
use Rattle.tn_module.specs.Modules.{Parts}
use Rattle.tn_symbols.specs.Choices.{module_at}
use Rattle.tn_layout.specs.declared.pieces.Piece.{Piece}
use Rattle.tn_layout.specs.declared.pieces.Piece.TheVariants.{Fixed, Rel, Diff}
use Rattle.tn_layout.specs.Sizes.{distance}
use Rattle.tn_link.specs.declared.programs.Reach.{Reach}
use Rattle.tn_link.specs.declared.programs.Reach.TheVariants.{Number, To, Between}
use Rattle.tn_link.specs.declared.programs.Element.{Element}
use Rattle.tn_link.specs.declared.programs.Element.TheVariants as form
use Rattle.tn_link.specs.declared.tables.Target.{Target}
use Rattle.tn_link.specs.Places.{target}

-- ---- names replaced by what they stand for

-- an operand with places in place of names. A name that is used by its word is the number of words
-- that its address lies above the lowest
abbrev pub reach : (List ℕ → Target) → ℕ → Operand → Reach
reach target_of cell_base (operand.Number v) = Number v
reach target_of cell_base (operand.To name) = To (target_of name).place
reach target_of cell_base (operand.Difference high low) = Between (target_of high).place (target_of low).place
reach target_of cell_base (operand.CellWord name) = Number (pos ((cell_base + (target_of name).place - most_neg) / 4))

abbrev pub element : (List ℕ → Target) → ℕ → Item → Element
element target_of cell_base (item.Direct f o) = form.Instruction f (reach target_of cell_base o)
element target_of cell_base (item.Plain op) = form.Instruction fun.Opr (Number (pos (operation_code op)))
element target_of cell_base (item.Byte b) = form.Byte b
element target_of cell_base (item.Label name) = form.Label

-- the items of the module at place m
abbrev pub module_elements : List Parts → ℕ → ℕ → List Element
module_elements modules cell_base m = map (element (target modules m) cell_base) (module_at modules m).items

-- the program: the items of the modules one after the other
abbrev pub program : List Parts → ℕ → List Element
program modules cell_base = flat_map (module_elements modules cell_base) (range_with_len 0 (length modules))

abbrev pub element_at : List Element → ℕ → Element
element_at program i = slice_index_or program i form.Label

-- ---- code under sizes

-- what the size of an item depends on
abbrev pub operand_piece : Reach → Piece
operand_piece (Number v) = Fixed (coding_length v)
operand_piece (To place) = Rel place
operand_piece (Between high low) = Diff high low

abbrev pub piece : Element → Piece
piece (form.Instruction f r) = operand_piece r
piece (form.Byte b) = Fixed 1
piece form.Label = Fixed 0

abbrev pub pieces : List Element → List Piece
pieces program = map (λ x. piece x) program

-- the operand of the instruction at place i of the program: the way to a place counts from the end
-- of the instruction
abbrev pub operand_value : List ℕ → ℕ → Reach → ℤ
operand_value sizes i (Number v) = v
operand_value sizes i (To place) = distance sizes place (i + 1)
operand_value sizes i (Between high low) = distance sizes high low

-- the bytes of the item at place i
abbrev pub element_bytes : List ℕ → ℕ → Element → List ℕ
element_bytes sizes i (form.Instruction f r) = coding f (operand_value sizes i r)
element_bytes sizes i (form.Byte b) = b ∷ []
element_bytes sizes i form.Label = []

abbrev pub bytes_at : List Element → List ℕ → ℕ → List ℕ
bytes_at program sizes i = element_bytes sizes i (element_at program i)

-- the code: the bytes of each item
abbrev pub code : List Element → List ℕ → List ℕ
code program sizes = flat_map (bytes_at program sizes) (range_with_len 0 (length program))
