-- The answer of the reader of libraries is what reading the text gives.
use Rattle.std.proofs.Common.{◌≡◌, ℕ, ◌+◌, inl, inr, List, [], ◌∷◌, ◌++◌, length, length-append, Result, Ok, Err, refl, sym, ap, ◌∙◌}
use Rattle.std.proofs.Common.{arith}
use Rattle.std.specs.List.{flat_map, AllByRecursion}
use Rattle.std.proofs.lemmas.List.Elements.{recursion_from_All}
use Rattle.tn_text.specs.declared.faults.Fault.{Fault}
use Rattle.tn_text.specs.declared.faults.ReadFault.{ReadFault}
use Rattle.tn_text.specs.declared.faults.ReadFault.TheVariants as read
use Rattle.tn_text.specs.Reading.{Gives, result_then}
use Rattle.tn_module.specs.declared.faults.ModuleFault.{ModuleFault}
use Rattle.tn_module.specs.Modules.{Parts}
use Rattle.tn_module.specs.Validity.{IsValid}
use Rattle.tn_module.specs.Faults.{IsFirstFault}
use Rattle.tn_modtext.specs.Lines.{lines_of}
use Rattle.tn_modtext.specs.ModuleTexts.{fault_in}
use Rattle.tn_modtext.specs.Libraries.{IsLibraryText, IsLibraryTextFault}
use Rattle.tn_modtext.specs.Readers.{Reads}
use Rattle.tn_modtext.specs.ModuleReading.{module_or}
use Rattle.tn_modtext.specs.LibraryReading.{modules_checked, modules_read}
use Rattle.tn_modtext.proofs.FirstFaults.{none-valid, some-first}
use Rattle.tn_modtext.proofs.LibraryLaws.{spells}
use Rattle.tn_modtext.proofs.LibraryReadLaws.{library_reading}

after_one : ℕ → Parts → List Parts → Result (List Parts) Fault
after_one before m ms = result_then (modules_checked (before + length (lines_of m)) ms) (λ rest. Ok (m ∷ rest))

one-valid : (before : ℕ) (m : Parts) (ms : List Parts) → IsValid m → modules_checked before (m ∷ ms) ≡ after_one before m ms
unfolding modules_checked after_one
one-valid before m ms valid =
    ap (λ f. result_then (module_or before m f) (λ checked. result_then (modules_checked (before + length (lines_of m)) ms)
    (λ rest. Ok (checked ∷ rest)))) (none-valid m valid)

-- valid modules are given as they are
all-valid : (before : ℕ) (ms : List Parts) → AllByRecursion IsValid ms → modules_checked before ms ≡ Ok ms
unfolding modules_checked after_one
all-valid before [] valid = refl
all-valid before (m ∷ ms) (v, vs) =
    one-valid before m ms v
    ∙ ap (λ r. result_then r (λ rest. Ok (m ∷ rest))) (all-valid (before + length (lines_of m)) ms vs)

-- the first module with a fault
first-wrong : (before : ℕ) (valid : List Parts) (m : Parts) (behind : List Parts) (found : ModuleFault) → AllByRecursion IsValid valid
    → IsFirstFault m found
    → modules_checked before (valid ++ m ∷ behind) ≡ Err (fault_in (before + length (flat_map lines_of valid)) m found)
unfolding modules_checked after_one
first-wrong before [] m behind found valid first =
    let none : before ≡ before + 0 = omega arith in
    ap (λ f. result_then (module_or before m f) (λ checked. result_then (modules_checked (before + length (lines_of m)) behind)
    (λ rest. Ok (checked ∷ rest)))) (some-first m found first)
    ∙ ap (λ n. Err (fault_in n m found)) none
first-wrong before (x ∷ xs) m behind found (v, vs) first =
    let both : before + length (lines_of x) + length (flat_map lines_of xs) ≡ before + length (lines_of x ++ flat_map lines_of xs) =
    omega (arith, length-append (lines_of x) (flat_map lines_of xs)) in
    one-valid before x (xs ++ m ∷ behind) v
    ∙ (ap (λ r. result_then r (λ rest. Ok (x ∷ rest))) (first-wrong (before + length (lines_of x)) xs m behind found vs first)
    ∙ ap (λ n. Err (fault_in n m found)) both)

module _ (text : List ℕ) where
  read-library : (ms : List Parts) → IsLibraryText text ms → modules_read text ≡ Ok ms
  unfolding modules_read
  read-library ms is =
      ap (λ r. result_then r (modules_checked 1)) ((library_reading text).only ms (spells text ms is))
      ∙ all-valid 1 ms (recursion_from_All IsValid ms is.valid)

  read-fault : (fault : Fault) → IsLibraryTextFault text fault → modules_read text ≡ Err fault
  unfolding modules_read
  read-fault fault (inl f) = ap (λ r. result_then r (modules_checked 1)) ((library_reading text).refused fault f)
  read-fault fault (inr f) =
      ap (λ r. result_then r (modules_checked 1)) ((library_reading text).only f.modules (f.have_spelling, f.spelled))
      ∙ (ap (modules_checked 1) f.first.split
      ∙ (first-wrong 1 f.first.before f.first.parts f.first.behind f.first.found
      (recursion_from_All IsValid f.first.before f.first.valid) f.first.first
      ∙ ap Err (sym f.first.placed)))

  pub library-given : (result : Result (List Parts) ReadFault) → Reads (IsLibraryText text) (IsLibraryTextFault text) result
      → Gives (λ m. m) result (modules_read text)
  library-given (Ok ms) r = sym (read-library ms r.found)
  library-given (Err (read.Fault fault)) r = sym (read-fault fault (r.fault fault refl))
  library-given (Err read.NoMemory) r = tt
