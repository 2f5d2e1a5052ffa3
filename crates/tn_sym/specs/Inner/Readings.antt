-- Instructions as they are read from the bytes of code.
use Rattle.std.specs.Prelude.{◌≡◌, ℕ, slice_get, ◌+◌, ◌-◌, ◌^◌, ◌<◌, List, [], ◌∷◌, map, length, drop, Option, Some, None}
use Rattle.std.specs.List.{flat_map}
use Rattle.tn_isa.specs.declared.functions.Fun.{Fun}
use Rattle.tn_prefix.specs.Operand.{loads}
use Rattle.tn_module.specs.declared.modules.Item as module_item
use Rattle.tn_module.specs.declared.modules.Item.TheVariants as item
use Rattle.tn_module.specs.Modules.{Parts}
use Rattle.tn_link.specs.Linking.{IsBase, AreLinkable}
use Rattle.tn_sym.specs.declared.codes.Instruction.{Instruction}
use Rattle.tn_sym.specs.declared.programs.Program.{Program}
use Rattle.tn_sym.specs.ProgramStates.{ProgramState, program_of, IsLinkedTo}
use Rattle.tn_sym.specs.Symbolic.{CodeState}
use Rattle.tn_sym.specs.Programs.{IsCodeOf, region_of}
use Rattle.tn_sym.specs.declared.reading.Form.{Form}
use Rattle.tn_sym.specs.declared.reading.Form.TheVariants as form

-- what an item is in code
abbrev pub form_of : module_item.Item → Form
form_of (item.Direct f o) = form.Instruction
form_of (item.Plain op) = form.Instruction
form_of (item.Byte b) = form.Byte
form_of (item.Label name) = form.Label

abbrev pub forms_of : List Parts → List Form
forms_of modules = flat_map (λ m. map form_of m.items) modules

-- an instruction that was read of bytes, behind which some are left, where the code ends at an address
abbrev pub read_as : ℕ → List ℕ → Fun × ℕ × ℕ → Instruction
read_as end rest t =
    record { address = end - length rest; size = length rest - length (drop t.2 rest); fun = t.0; operand = t.1 }

abbrev pub read_one : ℕ → Option (Fun × ℕ × ℕ) → List ℕ → (List ℕ → List Instruction) → List Instruction
read_one end None rest others = others rest
read_one end (Some t) rest others = read_as end rest t ∷ others (drop t.2 rest)

-- the instructions that are read of the rest of the code, one item after the other
abbrev pub read_from : ℕ → List Form → List ℕ → List Instruction
read_from end [] rest = []
read_from end (form.Instruction ∷ forms) rest = read_one end (loads rest) rest (λ left. read_from end forms left)
read_from end (form.Byte ∷ forms) rest = read_from end forms (drop 1 rest)
read_from end (form.Label ∷ forms) rest = read_from end forms rest

-- the code of a program ends at a word
abbrev pub IsLow : Program → Type 0
IsLow p = p.linked.code_base + length p.linked.code.items < 2 ^ 32

-- a program whose code is that which linking gives
pub record IsProgram (p : ProgramState) : Type 0 where
  pub linkable : AreLinkable p.modules
  pub code_base : IsBase p.linked.code_base
  pub cell_base : IsBase p.linked.cell_base
  pub linked : IsLinkedTo p.modules p.linked.code_base p.linked.cell_base p.linked

abbrev pub IsLinkedProgram : Program → Type 0
IsLinkedProgram p = IsProgram (program_of p)

abbrev pub region_at : Program → ℕ × ℕ
region_at p = region_of (program_of p)

-- each code that of its program
pub record AreCodesOf (programs : List ProgramState) (codes : List CodeState) : Type 0 where
  pub count : length codes ≡ length programs
  pub each :
      (p : ℕ) (program : ProgramState) (code : CodeState) → slice_get programs p ≡ Some program → slice_get codes p ≡ Some code
      → IsCodeOf program code
