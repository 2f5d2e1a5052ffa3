-- Images and faults of one processor, against values that were worked out by hand. Its module has the
-- label `go` and the bytes 45 D1 60 0E, which are ldc 5, stl 1 and a jump to itself.
use Rattle.std.proofs.Common.{◌≡◌, ℕ, List, [], ◌∷◌, Option, None, Some, refl}
use Rattle.tn_text.specs.declared.faults.FaultCode.{FaultCode}
use Rattle.tn_text.specs.declared.faults.FaultCode.TheVariants.{NoEntry, Misaligned, OutsideMemory, Overlap}
use Rattle.tn_text.specs.declared.faults.Detail.TheVariants.{Named, One, Two}
use Rattle.tn_text.specs.declared.faults.Fault.{Fault}
use Rattle.tn_text.specs.declared.faults.Part.{Part}
use Rattle.tn_text.specs.declared.faults.Part.TheVariants as part
use Rattle.tn_text.specs.declared.faults.Region.{Region}
use Rattle.tn_text.specs.Firsts.{first_cause}
use Rattle.tn_module.specs.declared.modules.Item.{Item}
use Rattle.tn_module.specs.declared.modules.Item.TheVariants as item
use Rattle.tn_module.specs.Modules.{Parts}
use Rattle.tn_config.specs.Configurations.{BlockState}
use Rattle.tn_image.specs.Checks.{checks}
use Rattle.tn_image.specs.Images.{segment, segments}

abbrev name : List ℕ
name = 97 ∷ []

abbrev label_go : List ℕ
label_go = 103 ∷ 111 ∷ []

abbrev label_w : List ℕ
label_w = 119 ∷ []

abbrev with_items : List Item → Parts
with_items items = record { name = label_go; imports = []; exports = label_go ∷ []; items = items; cells = [] }

abbrev go : List Parts
go =
    with_items (
    item.Label label_go
    ∷ item.Byte 0x45
    ∷ item.Byte 0xD1
    ∷ item.Label label_w
    ∷ item.Byte 0x60
    ∷ item.Byte 0x0E
    ∷ []
    ) ∷ []

abbrev solo : BlockState
solo = record {
  name = name;
  size = 4096;
  code = 0x80000400;
  cells = 0x80000800;
  wptr = 0x80000900;
  below = 8;
  above = 8;
  modules = [];
  libraries = [];
  entry = label_go;
  args = 7 ∷ [];
  lines = record { processor = 1; code = 2; cells = 3; workspace = 4; entry = 6 };
}

abbrev found : List Parts → BlockState → ℕ → ℕ → Option Fault
found modules b code_length cells_length = first_cause (checks modules b code_length cells_length)

abbrev told : Part → ℕ → ℕ → Region
told part from to = record { part = part; from = from; to = to }

abbrev fault_of_one : FaultCode → ℕ → Region → Option Fault
fault_of_one code line region = Some (record { code = code; line = line; detail = One name region })

abbrev fault_of_two : ℕ → Region → Region → Option Fault
fault_of_two line one two = Some (record { code = Overlap; line = line; detail = Two name one two })

-- as it stands no check finds a fault
pub solo_passes : found go solo 4 0 ≡ None
solo_passes = refl

-- and its segments are the code and the argument
pub solo_segments : segments solo (0x45 ∷ 0xD1 ∷ 0x60 ∷ 0x0E ∷ []) []
    ≡ segment 0x80000400 (0x45 ∷ 0xD1 ∷ 0x60 ∷ 0x0E ∷ []) ∷ segment 0x80000900 (7 ∷ 0 ∷ 0 ∷ 0 ∷ []) ∷ []
solo_segments = refl

-- code that begins a word too low
pub code_too_low : found go (record solo { code = 0x800003FC }) 4 0 ≡ fault_of_one OutsideMemory 2 (told part.Code 0x800003FC 0x80000400)
code_too_low = refl

-- code that meets the workspace, and code that ends where it begins
pub code_meets : found go (record solo { code = 0x80000401; wptr = 0x80000424 }) 4 0
    ≡ fault_of_two 2 (told part.Code 0x80000401 0x80000405) (told part.Workspace 0x80000404 0x80000444)
code_meets = refl

pub code_beside : found go (record solo { wptr = 0x80000424 }) 4 0 ≡ None
code_beside = refl

-- code of no bytes that begins too low
pub empty_too_low : found (with_items (item.Label label_go ∷ []) ∷ []) (record solo { code = 0x80000300 }) 0 0
    ≡ fault_of_one OutsideMemory 2 (told part.Code 0x80000300 0x80000300)
empty_too_low = refl

-- arguments behind the words that are reserved count as workspace
pub arguments_above : found go (record solo { wptr = 0x80000FF8; above = 0; args = 1 ∷ 2 ∷ 3 ∷ [] }) 4 0
    ≡ fault_of_one OutsideMemory 4 (told part.Workspace 0x80000FD8 0x80001004)
arguments_above = refl

-- an entry that is no label comes before all of these, and a misaligned base before code outside
pub entry_first : found go (record solo { code = 0x800003FC; cells = 0x80000801; entry = label_w }) 4 0
    ≡ Some (record { code = NoEntry; line = 6; detail = Named label_w })
entry_first = refl

pub cells_misaligned : found go (record solo { code = 0x800003FC; cells = 0x80000801 }) 4 0
    ≡ fault_of_one Misaligned 3 (told part.Cells 0x80000801 0x80000801)
cells_misaligned = refl
