-- What reading a module text gives, as a function: the module, or the first fault of the text.
use Rattle.std.specs.Prelude.{ℕ, ◌+◌, zero, suc, List, length, Option, Some, None, option_map, Result, Ok, Err}
use Rattle.std.specs.Option.{option_or}
use Rattle.tn_text.specs.declared.faults.Cause.{Cause}
use Rattle.tn_text.specs.declared.faults.Fault.{Fault}
use Rattle.tn_text.specs.Reading.{result_then}
use Rattle.tn_module.specs.declared.faults.Place.{Place}
use Rattle.tn_module.specs.declared.faults.Place.TheVariants as place
use Rattle.tn_module.specs.declared.faults.ModuleFault.{ModuleFault}
use Rattle.tn_module.specs.Modules.{Parts}
use Rattle.tn_module.specs.Faults.{cause_at}
use Rattle.tn_modtext.specs.ModuleTexts.{fault_in}
use Rattle.tn_modtext.specs.Inner.Drafts.{parts_read}

-- the first cause at so many numbers from one on, and its number
unfoldable pub first_from : (ℕ → Option Cause) → ℕ → ℕ → Option (ℕ × Cause)
first_from cause i zero = None
first_from cause i (suc n) = option_or (option_map (λ c. (i, c)) (cause i)) (first_from cause (i + 1) n)

abbrev pub fault_at_place : Place → Cause → ModuleFault
fault_at_place p cause = record { code = cause.code; place = p; detail = cause.detail }

-- what is wrong first among so many places of one list
abbrev pub first_among : Parts → (ℕ → Place) → ℕ → Option ModuleFault
first_among m at n = option_map (λ f. fault_at_place (at f.0) f.1) (first_from (λ i. cause_at m (at i)) 0 n)

-- what is wrong first in a module: in its imports, else its exports, else its items, else its cells
unfoldable pub first_fault : Parts → Option ModuleFault
first_fault m =
    option_or (first_among m place.Import (length m.imports)) (option_or (first_among m place.Export (length m.exports))
    (option_or (first_among m place.Item (length m.items)) (first_among m place.Cell (length m.cells))))

abbrev pub module_or : ℕ → Parts → Option ModuleFault → Result Parts Fault
module_or before m None = Ok m
module_or before m (Some fault) = Err (fault_in before m fault)

-- parts before which so many lines stand, or their first fault
abbrev pub parts_checked : ℕ → Parts → Result Parts Fault
parts_checked before m = module_or before m (first_fault m)

-- the first fault of the lines comes before that of the module
unfoldable pub module_read : List ℕ → Result Parts Fault
module_read text = result_then (parts_read text) (parts_checked 0)
