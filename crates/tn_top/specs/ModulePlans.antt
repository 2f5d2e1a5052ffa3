-- The plans of texts that files hold.
use Rattle.std.specs.Prelude.{ℕ, List, Result, Ok, Err}
use Rattle.tn_text.specs.declared.faults.Fault.{Fault}
use Rattle.tn_module.specs.Modules.{Parts}
use Rattle.tn_modtext.specs.ModuleReading.{module_read}
use Rattle.tn_top.specs.Plans.{Answer, fault, Plan, gives, reads, then_plan, at_once}

-- what was read from a file, or the file's fault
abbrev pub or_fault : {A : Type 0} → List ℕ → Result A Fault → Result A Answer
or_fault file (Ok value) = Ok value
or_fault file (Err first) = Err (fault file first)

-- a module text is read
abbrev pub module_plan : List ℕ → Plan Parts
module_plan file = then_plan (reads file gives) (λ text. at_once (or_fault file (module_read text)))
