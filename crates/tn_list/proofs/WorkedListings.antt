-- The listing of one processor, against lines that were worked out by hand. Its module has the label
-- `go` and the bytes 45 D1 60 0E, which are ldc 5, stl 1 and a jump to itself.
use Rattle.std.proofs.Common.{◌≡◌, ℕ, List, [], ◌∷◌, ◌++◌, refl, arith, codes}
use Rattle.std.specs.Prelude.{pos}
use Rattle.std.proofs.lemmas.Fmt.{decimal_digit}
use Rattle.tn_text.specs.declared.faults.Part.TheVariants as part
use Rattle.tn_text.specs.declared.faults.Region.{Region}
use Rattle.tn_text.specs.WordTexts.{word_text}
use Rattle.tn_isa.specs.declared.functions.Fun.TheVariants as fun
use Rattle.tn_module.specs.declared.modules.Operand.TheVariants as operand
use Rattle.tn_module.specs.declared.modules.Item.TheVariants as item
use Rattle.tn_module.specs.declared.modules.Cell.TheVariants as cell
use Rattle.tn_module.specs.Modules.{Parts}
use Rattle.tn_link.specs.declared.linking.Placed.{Placed}
use Rattle.tn_stream.specs.Images.{ImageBytes}
use Rattle.tn_list.specs.Stretches.{Stretch}
use Rattle.tn_list.specs.ListingTexts.{line_of, item_line, item_lines, cell_line, cell_lines, code_lines, cells_lines}
use Rattle.tn_list.specs.ListingTexts.{code_text, cells_text, end_text, listing_text}

abbrev at : ℕ → ℕ → ℕ → Placed
at i address size = record { «module» = 0; item = i; address = address; size = size }

abbrev label_go : List ℕ
label_go = 103 ∷ 111 ∷ []

abbrev label_w : List ℕ
label_w = 119 ∷ []

abbrev go : Parts
go = record {
  name = label_go;
  imports = [];
  exports = label_go ∷ [];
  items =
      item.Label label_go
      ∷ item.Direct fun.Ldc (operand.Number (pos 5))
      ∷ item.Direct fun.Stl (operand.Number (pos 1))
      ∷ item.Label label_w
      ∷ item.Direct fun.J (operand.To label_w)
      ∷ [];
  cells = [];
}

abbrev code : Stretch
code = record {
  base = 0x80000400;
  bytes = 0x45 ∷ 0xD1 ∷ 0x60 ∷ 0x0E ∷ [];
  places =
      at 0 0x80000400 0 ∷ at 1 0x80000400 1 ∷ at 2 0x80000401 1 ∷ at 3 0x80000402 0 ∷ at 4 0x80000402 2 ∷ [];
}

abbrev no_cells : Stretch
no_cells = record { base = 0x80000800; bytes = []; places = [] }

abbrev image : ImageBytes
image = record { segments = []; entry = 0x80000400; wptr = 0x80000900 }

abbrev workspace : Region
workspace = record { part = part.Workspace; from = 0x800008E0; to = 0x80000920 }

pub solo_listed : listing_text (codes "a") (go ∷ []) code no_cells image workspace
    ≡ codes "processor a\n" ++ codes "code #80000400 4\n" ++ codes "module go\n" ++ codes "#80000400 go:\n" ++ codes "#80000400 45 ldc 5\n"
    ++ codes "#80000401 D1 stl 1\n" ++ codes "#80000402 w:\n" ++ codes "#80000402 600E j w\n" ++ codes "cells #80000800 0\n"
    ++ codes "module go\n" ++ codes "workspace #800008E0 #80000900 #80000920\n" ++ codes "entry #80000400\n"
unfolding line_of item_line item_lines cell_line cell_lines code_lines cells_lines code_text cells_text end_text listing_text word_text
solo_listed = rw (
  decimal_digit 4 (omega arith),
  decimal_digit 5 (omega arith),
  decimal_digit 1 (omega arith),
  decimal_digit 0 (omega arith),
)

-- cells
abbrev cells : Stretch
cells = record {
  base = 0x80000800;
  bytes = 7 ∷ 0 ∷ 0 ∷ 0 ∷ 0 ∷ 4 ∷ 0 ∷ 0x80 ∷ [];
  places =
      at 0 0x80000800 0
      ∷ at 1 0x80000800 1
      ∷ at 2 0x80000801 2
      ∷ at 3 0x80000803 1
      ∷ at 4 0x80000804 4
      ∷ [];
}

abbrev with_cells : Parts
with_cells = record {
  name = label_w;
  imports = [];
  exports = [];
  items = [];
  cells = cell.Label label_w ∷ cell.Byte 7 ∷ cell.Space 2 ∷ cell.Align ∷ cell.Address label_go ∷ [];
}

pub cells_listed : cells_text (go ∷ with_cells ∷ []) cells
    ≡ codes "cells #80000800 8\n" ++ codes "module go\n" ++ codes "module w\n" ++ codes "#80000800 w:\n" ++ codes "#80000800 07 byte 7\n"
    ++ codes "#80000801 space 2\n" ++ codes "#80000803 align\n" ++ codes "#80000804 00040080 address go\n"
unfolding line_of cell_line cell_lines cells_lines cells_text word_text
cells_listed = rw (decimal_digit 8 (omega arith), decimal_digit 7 (omega arith), decimal_digit 2 (omega arith))

pub word_listed : cell_line 0x80000800 (9 ∷ 0 ∷ 0 ∷ 0xA0 ∷ []) (cell.Word 9) (at 0 0x80000800 4) ≡ codes "#80000800 090000A0 word 9\n"
unfolding line_of cell_line word_text
word_listed = rw (decimal_digit 9 (omega arith))
