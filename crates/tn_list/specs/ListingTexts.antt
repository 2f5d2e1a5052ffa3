-- The text that the program of a processor is listed as.
use Rattle.std.specs.Prelude.{ℕ, ◌-◌, ◌/◌, ◌%◌, true, List, [], ◌∷◌, ◌++◌, length, take, drop, codes}
use Rattle.std.specs.List.{flat_map}
use Rattle.std.specs.Fmt.{decimal, digit_glyph}
use Rattle.tn_text.specs.declared.faults.Region.{Region}
use Rattle.tn_text.specs.WordTexts.{word_text}
use Rattle.tn_isa.specs.Mnemonics.{function_name, operation_name}
use Rattle.tn_module.specs.declared.modules.Item.{Item}
use Rattle.tn_module.specs.declared.modules.Item.TheVariants as item
use Rattle.tn_module.specs.declared.modules.Cell.{Cell}
use Rattle.tn_module.specs.declared.modules.Cell.TheVariants as cell
use Rattle.tn_module.specs.Modules.{Parts}
use Rattle.tn_modtext.specs.Lines.{operand_text}
use Rattle.tn_link.specs.declared.linking.Placed.{Placed}
use Rattle.tn_stream.specs.Images.{ImageBytes}
use Rattle.tn_list.specs.Stretches.{Stretch}

-- ---- tokens and lines

-- tokens, a blank before each
abbrev pub tokens_text : List (List ℕ) → List ℕ
tokens_text [] = []
tokens_text (a ∷ []) = 32 ∷ a
tokens_text (a ∷ b ∷ more) = (32 ∷ a) ++ tokens_text (b ∷ more)

-- a line: its first word, and the tokens behind it
unfoldable pub line_of : List ℕ → List (List ℕ) → List ℕ
line_of word tokens = (word ++ tokens_text tokens) ++ codes "\n"

-- a byte as two upper-case hexadecimal digits, and bytes
abbrev pub byte_digits : ℕ → List ℕ
byte_digits b = digit_glyph true (b / 16) ∷ digit_glyph true (b % 16) ∷ []

abbrev pub hex_text : List ℕ → List ℕ
hex_text bytes = flat_map byte_digits bytes

-- the bytes of what lies at a place, among bytes from a base on
abbrev pub bytes_at : ℕ → List ℕ → Placed → List ℕ
bytes_at base bytes p = take p.size (drop (p.address - base) bytes)

-- ---- items

-- LABEL:
abbrev pub label_text : List ℕ → List ℕ
label_text name = name ++ codes ":"

-- what stands behind the address of an item: LABEL:, HEX MNEMONIC OPERAND, HEX OPERATION or HEX byte N
abbrev pub item_tokens : List ℕ → Item → List (List ℕ)
item_tokens bytes (item.Direct f o) = hex_text bytes ∷ function_name f ∷ operand_text o ∷ []
item_tokens bytes (item.Plain op) = hex_text bytes ∷ operation_name op ∷ []
item_tokens bytes (item.Byte b) = hex_text bytes ∷ codes "byte" ∷ decimal b ∷ []
item_tokens bytes (item.Label name) = label_text name ∷ []

unfoldable pub item_line : ℕ → List ℕ → Item → Placed → List ℕ
item_line base bytes i p = line_of (word_text p.address) (item_tokens (bytes_at base bytes p) i)

-- the lines of items with their places
unfoldable pub item_lines : ℕ → List ℕ → List Item → List Placed → List ℕ
item_lines base bytes [] places = []
item_lines base bytes (i ∷ items) [] = []
item_lines base bytes (i ∷ items) (p ∷ places) = item_line base bytes i p ++ item_lines base bytes items places

-- ---- cells

-- what stands behind the address of a cell: LABEL:, HEX word N, HEX address NAME, HEX byte N, space N or align
abbrev pub cell_tokens : List ℕ → Cell → List (List ℕ)
cell_tokens bytes (cell.Word w) = hex_text bytes ∷ codes "word" ∷ decimal w ∷ []
cell_tokens bytes (cell.Address name) = hex_text bytes ∷ codes "address" ∷ name ∷ []
cell_tokens bytes (cell.Byte b) = hex_text bytes ∷ codes "byte" ∷ decimal b ∷ []
cell_tokens bytes (cell.Space n) = codes "space" ∷ decimal n ∷ []
cell_tokens bytes cell.Align = codes "align" ∷ []
cell_tokens bytes (cell.Label name) = label_text name ∷ []

unfoldable pub cell_line : ℕ → List ℕ → Cell → Placed → List ℕ
cell_line base bytes c p = line_of (word_text p.address) (cell_tokens (bytes_at base bytes p) c)

unfoldable pub cell_lines : ℕ → List ℕ → List Cell → List Placed → List ℕ
cell_lines base bytes [] places = []
cell_lines base bytes (c ∷ cells) [] = []
cell_lines base bytes (c ∷ cells) (p ∷ places) = cell_line base bytes c p ++ cell_lines base bytes cells places

-- ---- modules

-- module NAME
abbrev pub module_line : List ℕ → List ℕ
module_line name = line_of (codes "module") (name ∷ [])

-- for each module its name and its items, whose places stand one after the other
unfoldable pub code_lines : ℕ → List ℕ → List Parts → List Placed → List ℕ
code_lines base bytes [] places = []
code_lines base bytes (m ∷ modules) places =
    module_line m.name ++ item_lines base bytes m.items places ++ code_lines base bytes modules (drop (length m.items) places)

-- and its cells
unfoldable pub cells_lines : ℕ → List ℕ → List Parts → List Placed → List ℕ
cells_lines base bytes [] places = []
cells_lines base bytes (m ∷ modules) places =
    module_line m.name ++ cell_lines base bytes m.cells places ++ cells_lines base bytes modules (drop (length m.cells) places)

-- ---- processors

-- WORD BASE LENGTH
abbrev pub extent_line : List ℕ → Stretch → List ℕ
extent_line word s = line_of word (word_text s.base ∷ decimal (length s.bytes) ∷ [])

unfoldable pub code_text : List Parts → Stretch → List ℕ
code_text modules s = extent_line (codes "code") s ++ code_lines s.base s.bytes modules s.places

unfoldable pub cells_text : List Parts → Stretch → List ℕ
cells_text modules s = extent_line (codes "cells") s ++ cells_lines s.base s.bytes modules s.places

-- workspace FROM WPTR TO, and entry ADDRESS
abbrev pub workspace_line : Region → ℕ → List ℕ
workspace_line w wptr = line_of (codes "workspace") (word_text w.from ∷ word_text wptr ∷ word_text w.to ∷ [])

unfoldable pub end_text : ImageBytes → Region → List ℕ
end_text i workspace = workspace_line workspace i.wptr ++ line_of (codes "entry") (word_text i.entry ∷ [])

-- the listing of the processor with this name, these modules, the code and the cells that they are
-- linked to, this image and this workspace
unfoldable pub listing_text : List ℕ → List Parts → Stretch → Stretch → ImageBytes → Region → List ℕ
listing_text name modules code cells i workspace =
    line_of (codes "processor") (name ∷ []) ++ code_text modules code ++ cells_text modules cells ++ end_text i workspace
