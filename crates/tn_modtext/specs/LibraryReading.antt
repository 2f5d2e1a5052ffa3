-- What reading a library text gives, as a function: its modules, or the first fault of the text.
use Rattle.std.specs.Prelude.{ℕ, ◌+◌, List, [], ◌∷◌, length, Result, Ok}
use Rattle.tn_text.specs.declared.faults.Fault.{Fault}
use Rattle.tn_text.specs.Reading.{result_then}
use Rattle.tn_module.specs.Modules.{Parts}
use Rattle.tn_modtext.specs.Lines.{lines_of}
use Rattle.tn_modtext.specs.ModuleReading.{parts_checked}
use Rattle.tn_modtext.specs.Inner.LibraryDrafts.{library_read}

-- modules, before which so many lines stand, or the first fault of the first that has one
unfoldable pub modules_checked : ℕ → List Parts → Result (List Parts) Fault
modules_checked before [] = Ok []
modules_checked before (m ∷ ms) =
    result_then (parts_checked before m)
    (λ checked. result_then (modules_checked (before + length (lines_of m)) ms) (λ rest. Ok (checked ∷ rest)))

-- the first fault of the lines comes before those of the modules
unfoldable pub modules_read : List ℕ → Result (List Parts) Fault
modules_read text = result_then (library_read text) (modules_checked 1)
