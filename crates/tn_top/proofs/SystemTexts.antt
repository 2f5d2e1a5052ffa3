-- Of reading the files of a system.
use Rattle.std.proofs.Common.{◌≡◌, ℕ, ◌<◌, ◌≤◌, List, length, Result, Ok, Err, cond, ap, ◌∙◌, lt-ltb}
use Rattle.std.specs.Prelude.{nat_lt}
use Rattle.tn_text.specs.declared.faults.Fault.{Fault}
use Rattle.tn_text.specs.declared.limits.Limit.{Limit}
use Rattle.tn_text.specs.declared.limits.Limit.TheVariants.{Processors, Modules}
use Rattle.tn_text.specs.declared.limits.TheConstants.{MODULE_LIMIT, PROCESSOR_LIMIT}
use Rattle.tn_text.specs.Reading.{result_then}
use Rattle.tn_module.specs.Modules.{Parts}
use Rattle.tn_modtext.specs.LibraryReading.{modules_read}
use Rattle.tn_config.specs.Configurations.{ConfigState}
use Rattle.tn_config.specs.ConfigReading.{config_read}
use Rattle.tn_top.specs.Plans.{Answer, fault, limit}
use Rattle.tn_top.specs.ModulePlans.{or_fault}
use Rattle.tn_top.specs.SystemPlans.{library_in, config_in}
use Rattle.tn_top.proofs.LibraryTexts.{ltb-false-of, given-ok, given-fault}

-- what is read of a file and has a count that is limited
module _ {A : Type 0} (file : List ℕ) (reading : Result A Fault) (most : ℕ) (word : Limit) (count : A → ℕ) where
  abbrev limited : A → Result A Answer
  limited x = cond (nat_lt most (count x)) (Err (limit word (count x))) (Ok x)

  pub within : (x : A) → Ok x ≡ reading → count x ≤ most → result_then (or_fault file reading) limited ≡ Ok x
  within x is few =
      ap (λ r. result_then r limited) (given-ok file reading x is)
      ∙ ap (λ b. cond {A = Result A Answer} b (Err (limit word (count x))) (Ok x)) (ltb-false-of most (count x) few)

  pub above : (x : A) → Ok x ≡ reading → most < count x → result_then (or_fault file reading) limited ≡ Err (limit word (count x))
  above x is many =
      ap (λ r. result_then r limited) (given-ok file reading x is)
      ∙ ap (λ b. cond {A = Result A Answer} b (Err (limit word (count x))) (Ok x)) (lt-ltb most (count x) many)

  pub at-fault : (first : Fault) → Err first ≡ reading → result_then (or_fault file reading) limited ≡ Err (fault file first)
  at-fault first is = ap (λ r. result_then r limited) (given-fault file reading first is)

module _ (file text : List ℕ) where
  pub library-within : (ms : List Parts) → Ok ms ≡ modules_read text → length ms ≤ MODULE_LIMIT → library_in file text ≡ Ok ms
  unfolding library_in
  library-within ms is few = within file (modules_read text) MODULE_LIMIT Modules (λ xs. length xs) ms is few

  pub library-above : (ms : List Parts) → Ok ms ≡ modules_read text → MODULE_LIMIT < length ms
      → library_in file text ≡ Err (limit Modules (length ms))
  unfolding library_in
  library-above ms is many = above file (modules_read text) MODULE_LIMIT Modules (λ xs. length xs) ms is many

  pub library-fault : (first : Fault) → Err first ≡ modules_read text → library_in file text ≡ Err (fault file first)
  unfolding library_in
  library-fault first is = at-fault file (modules_read text) MODULE_LIMIT Modules (λ xs. length xs) first is

  pub config-within : (c : ConfigState) → Ok c ≡ config_read text → length c.blocks ≤ PROCESSOR_LIMIT → config_in file text ≡ Ok c
  unfolding config_in
  config-within c is few = within file (config_read text) PROCESSOR_LIMIT Processors (λ k. length k.blocks) c is few

  pub config-above : (c : ConfigState) → Ok c ≡ config_read text → PROCESSOR_LIMIT < length c.blocks
      → config_in file text ≡ Err (limit Processors (length c.blocks))
  unfolding config_in
  config-above c is many = above file (config_read text) PROCESSOR_LIMIT Processors (λ k. length k.blocks) c is many

  pub config-fault : (first : Fault) → Err first ≡ config_read text → config_in file text ≡ Err (fault file first)
  unfolding config_in
  config-fault first is = at-fault file (config_read text) PROCESSOR_LIMIT Processors (λ k. length k.blocks) first is
