-- The answer of the reader is what reading the text gives.
use Rattle.std.proofs.Common.{◌≡◌, ℕ, inl, inr, List, Result, Ok, Err, refl, sym, ap, ◌∙◌}
use Rattle.tn_text.specs.declared.faults.Fault.{Fault}
use Rattle.tn_text.specs.declared.faults.ReadFault.{ReadFault}
use Rattle.tn_text.specs.declared.faults.ReadFault.TheVariants as read
use Rattle.tn_text.specs.Reading.{Gives, result_then}
use Rattle.tn_module.specs.Modules.{Parts}
use Rattle.tn_modtext.specs.ModuleTexts.{IsModuleText, IsModuleTextFault}
use Rattle.tn_modtext.specs.Readers.{Reads}
use Rattle.tn_modtext.specs.ModuleReading.{module_or, parts_checked, module_read}
use Rattle.tn_modtext.proofs.ReadLaws.{parts_reading}
use Rattle.tn_modtext.proofs.ModuleLaws.{spelled-valid}
use Rattle.tn_modtext.proofs.FirstFaults.{none-valid, some-first}

module _ (text : List ℕ) where
  pub read-text : (m : Parts) → IsModuleText text m → module_read text ≡ Ok m
  unfolding module_read
  read-text m is =
      ap (λ r. result_then r (parts_checked 0)) ((parts_reading text).only m (spelled-valid m is.valid is.ranges, is.spelled))
      ∙ ap (module_or 0 m) (none-valid m is.valid)

  pub read-fault : (fault : Fault) → IsModuleTextFault text fault → module_read text ≡ Err fault
  unfolding module_read
  read-fault fault (inl f) = ap (λ r. result_then r (parts_checked 0)) ((parts_reading text).refused fault f)
  read-fault fault (inr f) =
      ap (λ r. result_then r (parts_checked 0)) ((parts_reading text).only f.parts (f.has_spelling, f.spelled))
      ∙ (ap (module_or 0 f.parts) (some-first f.parts f.found f.first) ∙ ap Err (sym f.placed))

  pub reads-given : (result : Result Parts ReadFault) → Reads (IsModuleText text) (IsModuleTextFault text) result
      → Gives (λ m. m) result (module_read text)
  reads-given (Ok m) r = sym (read-text m r.found)
  reads-given (Err (read.Fault fault)) r = sym (read-fault fault (r.fault fault refl))
  reads-given (Err read.NoMemory) r = tt
