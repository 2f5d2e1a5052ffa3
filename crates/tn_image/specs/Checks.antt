-- What may be wrong with an image, in the order of the checks.
use Rattle.std.specs.Prelude.{ℕ, ◌*◌, ◌/◌, ◌%◌, Bool, false, not, ◌||◌, ◌==◌, nat_lt, List, [], ◌∷◌}
use Rattle.std.specs.Option.{option_map_or}
use Rattle.tn_text.specs.declared.faults.FaultCode.{FaultCode}
use Rattle.tn_text.specs.declared.faults.FaultCode.TheVariants.{NoEntry, Misaligned, OutsideMemory, Overlap}
use Rattle.tn_text.specs.declared.faults.Detail.TheVariants.{Named, One, Two}
use Rattle.tn_text.specs.declared.faults.Fault.{Fault}
use Rattle.tn_word.specs.Words.{load_base}
use Rattle.tn_module.specs.Modules.{Parts}
use Rattle.tn_module.specs.Names.{is_code}
use Rattle.tn_symbols.specs.declared.choices.Definition.{Definition}
use Rattle.tn_symbols.specs.Definitions.{definition_of}
use Rattle.tn_config.specs.Configurations.{BlockState}
use Rattle.tn_image.specs.declared.regions.Extent.{Extent}
use Rattle.tn_image.specs.Regions.{code_extent, cells_extent, workspace_extent, region, memory_end, is_outside, overlap}

-- the next lower multiple of 4, where cells are linked
abbrev pub linked_at : ℕ → ℕ
linked_at base = base / 4 * 4

-- whether the name is that of an exported label of code
abbrev pub is_entry : List Parts → List ℕ → Bool
is_entry modules name = option_map_or (λ (d : Definition). is_code d.kind) (definition_of modules name) false

-- the entry is no exported label of code
abbrev pub no_entry_fault : BlockState → Fault
no_entry_fault b = record { code = NoEntry; line = b.lines.entry; detail = Named b.entry }

abbrev pub no_entry : List Parts → BlockState → Bool × Fault
no_entry modules b = (not (is_entry modules b.entry), no_entry_fault b)

-- a fault of one region, and one of two regions
abbrev pub fault_of_one : FaultCode → ℕ → List ℕ → Extent → Fault
fault_of_one code line name e = record { code = code; line = line; detail = One name (region e) }

abbrev pub fault_of_two : ℕ → List ℕ → Extent → Extent → Fault
fault_of_two line name one two = record { code = Overlap; line = line; detail = Two name (region one) (region two) }

-- the base of the cells, or the workspace pointer, is no multiple of 4
abbrev pub misaligned : BlockState → ℕ → ℕ → Extent → Bool × Fault
misaligned b address line e = (not (address % 4 == 0), fault_of_one Misaligned line b.name e)

-- a region does not lie in the memory; code may not begin below the least address of an image, even if it is empty
abbrev pub code_outside : BlockState → Extent → Bool × Fault
code_outside b code =
    (nat_lt code.from load_base || is_outside (memory_end b) code, fault_of_one OutsideMemory b.lines.code b.name code)

abbrev pub outside : BlockState → ℕ → Extent → Bool × Fault
outside b line e = (is_outside (memory_end b) e, fault_of_one OutsideMemory line b.name e)

-- two regions share an address
abbrev pub overlapping : BlockState → ℕ → Extent → Extent → Bool × Fault
overlapping b line one two = (overlap one two, fault_of_two line b.name one two)

-- the checks of the regions
abbrev pub region_checks : BlockState → Extent → Extent → Extent → List (Bool × Fault)
region_checks b code cells workspace =
    misaligned b b.cells b.lines.cells cells
    ∷ misaligned b b.wptr b.lines.workspace workspace
    ∷ code_outside b code
    ∷ outside b b.lines.cells cells
    ∷ outside b b.lines.workspace workspace
    ∷ overlapping b b.lines.code code cells
    ∷ overlapping b b.lines.code code workspace
    ∷ overlapping b b.lines.cells cells workspace
    ∷ []

-- all checks, where code and cells have so many bytes
abbrev pub checks : List Parts → BlockState → ℕ → ℕ → List (Bool × Fault)
checks modules b code_length cells_length =
    no_entry modules b ∷ region_checks b (code_extent b code_length) (cells_extent b cells_length) (workspace_extent b)
