-- Tables of instructions, and the bytes that they are assembled to.
use Rattle.std.specs.Prelude.{◌≡◌, ◌==◌, ℕ, ◌+◌, ℤ, pos, ◌-ℤ◌, Bool, List, [], ◌∷◌, ◌++◌, length, find, Option, Some, None, map, All}
use Rattle.std.specs.Prelude.{IsTrue, true}
use Rattle.std.specs.List.{flat_map, list_any}
use Rattle.tn_isa.specs.declared.functions.Fun.{Fun}
use Rattle.tn_isa.specs.declared.functions.Fun.TheVariants.{Opr}
use Rattle.tn_isa.specs.declared.operations.Op.{Op}
use Rattle.tn_isa.specs.Operations.{operation_code}
use Rattle.tn_prefix.specs.Coding.{coding, coding_length}

-- an instruction as a table of code has it
pub data Instruction : Type 0 where
  -- a function and its operand
  direct : Fun → ℤ → Instruction
  -- a jump, and the offset that it goes to
  jump : Fun → ℕ → Instruction
  -- an operation
  operation : Op → Instruction

-- a row of a table: an offset in bytes, and the instructions that stand there
pub record Row : Type 0 where
  pub offset : ℕ
  pub instructions : List Instruction

-- the row of these
abbrev pub row : ℕ → List Instruction → Row
row offset instructions = record { offset = offset; instructions = instructions }

-- how far an offset lies from the end of an instruction of so many bytes at another offset
abbrev pub distance : ℕ → ℕ → ℕ → ℤ
distance offset target size = pos target -ℤ pos (offset + size)

-- how many bytes a jump has that stands at an offset: so many that the coding of the distance from
-- its end has just these
abbrev pub jump_size : ℕ → ℕ → Option ℕ
jump_size offset target =
    find (λ size. coding_length (distance offset target size) == size) (1 ∷ 2 ∷ 3 ∷ 4 ∷ 5 ∷ 6 ∷ 7 ∷ 8 ∷ [])

-- the bytes of a jump of such a size; it has none where no size is right
abbrev pub jump_bytes : Fun → ℕ → ℕ → Option ℕ → List ℕ
jump_bytes f offset target (Some size) = coding f (distance offset target size)
jump_bytes f offset target None = []

-- the bytes of an instruction that stands at an offset
abbrev pub bytes_at : ℕ → Instruction → List ℕ
bytes_at offset (direct f operand) = coding f operand
bytes_at offset (jump f target) = jump_bytes f offset target (jump_size offset target)
bytes_at offset (operation op) = coding Opr (pos (operation_code op))

-- the bytes of instructions that stand one after the other from an offset on
unfoldable pub assembled_from : ℕ → List Instruction → List ℕ
assembled_from offset [] = []
assembled_from offset (i ∷ rest) = bytes_at offset i ++ assembled_from (offset + length (bytes_at offset i)) rest

-- the bytes of a table whose first row stands at 0
unfoldable pub assembled : List Row → List ℕ
assembled table = assembled_from 0 (flat_map (λ row. row.instructions) table)

-- each row stands at its offset: the rows before it have so many bytes
abbrev pub StandAtOffsets : List Row → Type 0
StandAtOffsets table =
    (before after : List Row) (here : Row) → table ≡ before ++ here ∷ after → length (assembled before) ≡ here.offset

-- whether an instruction does not jump, or jumps to an offset in a list
abbrev pub goes_to : List ℕ → Instruction → Bool
goes_to offsets (jump f target) = list_any (λ offset. offset == target) offsets
goes_to offsets (direct f operand) = true
goes_to offsets (operation op) = true

-- each jump of a table goes to the offset of a row
abbrev pub JumpToRows : List Row → Type 0
JumpToRows table =
    All (λ here. All (λ i. IsTrue (goes_to (map (λ there. there.offset) table) i)) here.instructions) table
