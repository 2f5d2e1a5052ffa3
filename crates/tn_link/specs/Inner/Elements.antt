-- Items that can be coded.
use Rattle.std.specs.Prelude.{⊤, ℕ, ◌≤◌, ◌<◌, List, length, All, Option}
use Rattle.tn_isa.specs.OperandRegister.{IsCoded}
use Rattle.tn_module.specs.declared.modules.Item.{Item}
use Rattle.tn_module.specs.Modules.{Parts}
use Rattle.tn_module.specs.Validity.{IsValid}
use Rattle.tn_symbols.specs.Choices.{module_at}
use Rattle.tn_module.specs.Names.{item_uses, code_uses, cell_uses}
use Rattle.tn_link.specs.declared.programs.Reach.{Reach}
use Rattle.tn_link.specs.declared.programs.Reach.TheVariants.{Number, To, Between}
use Rattle.tn_link.specs.declared.programs.Element.{Element}
use Rattle.tn_link.specs.declared.programs.Element.TheVariants as form
use Rattle.tn_link.specs.declared.tables.Target.{Target}
use Rattle.tn_link.specs.Inner.Tables.{AreFound}

-- each module is valid
abbrev pub AreValid : List Parts → Type 0
AreValid modules = (m : ℕ) → m < length modules → IsValid (module_at modules m)

-- the names that an item uses are found
pub record IsUsable (found : List ℕ → Option Target) (x : Item) : Type 0 where
  pub code : AreFound found (item_uses code_uses x)
  pub cells : AreFound found (item_uses cell_uses x)

-- an operand that names places up to n
abbrev pub NamesUpTo : ℕ → Reach → Type 0
NamesUpTo n (Number v) = ⊤
NamesUpTo n (To place) = place ≤ n
NamesUpTo n (Between high low) = (high ≤ n) × (low ≤ n)

-- an instruction whose function can be coded, and whose operand names places up to n
abbrev pub IsFit : ℕ → Element → Type 0
IsFit n (form.Instruction f r) = IsCoded f × NamesUpTo n r
IsFit n (form.Byte b) = ⊤
IsFit n form.Label = ⊤

-- all items are such, where n is their number
abbrev pub AreFit : List Element → Type 0
AreFit program = All (IsFit (length program)) program
