-- Of reading module texts, and joining them to a library text.
use Rattle.std.proofs.Common.{◌≡◌, ℕ, ◌<◌, ◌≤◌, List, length, Result, Ok, Err, sym, ap}
use Rattle.std.proofs.Common.{arith, lt-ltb, cond, false}
use Rattle.std.specs.Prelude.{nat_lt}
use Rattle.std.proofs.lemmas.Bool.Decides.{nat_tests}
use Rattle.tn_text.specs.declared.faults.Fault.{Fault}
use Rattle.tn_text.specs.declared.limits.TheConstants.{FILE_LIMIT, MODULE_LIMIT}
use Rattle.tn_text.specs.declared.limits.Limit.TheVariants.{File, Modules}
use Rattle.tn_top.specs.Plans.{Answer, fault, limit, Plan, stops, then_plan, at_once, each}
use Rattle.tn_top.specs.ModulePlans.{or_fault, module_plan}
use Rattle.tn_top.specs.Commands.{limited_text, library_text, library_plan}

pub ltb-false-of : (a b : ℕ) → b ≤ a → nat_lt a b ≡ false
ltb-false-of a b h = grind (arith, nat_tests)

-- what was given of the text of a file
pub given-ok : {A : Type 0} (file : List ℕ) (reading : Result A Fault) (value : A) → Ok value ≡ reading → or_fault file reading ≡ Ok value
given-ok file reading value e = ap (or_fault file) (sym e)

pub given-fault : {A : Type 0} (file : List ℕ) (reading : Result A Fault) (first : Fault) → Err first ≡ reading
    → or_fault file reading ≡ Err (fault file first)
given-fault file reading first e = ap (or_fault file) (sym e)

-- a text within the limit, and one above it
pub text-within : (text : List ℕ) → length text ≤ FILE_LIMIT → limited_text text ≡ Ok text
text-within text h = ap (λ b. cond {A = Result (List ℕ) Answer} b (Err (limit File (length text))) (Ok text))
    (ltb-false-of FILE_LIMIT (length text) h)

pub text-above : (text : List ℕ) → FILE_LIMIT < length text → limited_text text ≡ Err (limit File (length text))
text-above text h = ap (λ b. cond {A = Result (List ℕ) Answer} b (Err (limit File (length text))) (Ok text))
    (lt-ltb FILE_LIMIT (length text) h)

-- sources within the limit, and too many
pub sources-within : (sources : List (List ℕ)) → length sources ≤ MODULE_LIMIT
    → library_plan sources ≡ then_plan (each module_plan sources) (λ modules. at_once (library_text modules))
sources-within sources h =
    ap (λ b. cond {A = Plan (List ℕ)} b (stops (limit Modules (length sources)))
    (then_plan (each module_plan sources) (λ modules. at_once (library_text modules)))) (ltb-false-of MODULE_LIMIT (length sources) h)

pub sources-above : (sources : List (List ℕ)) → MODULE_LIMIT < length sources
    → library_plan sources ≡ stops (limit Modules (length sources))
sources-above sources h =
    ap (λ b. cond {A = Plan (List ℕ)} b (stops (limit Modules (length sources)))
    (then_plan (each module_plan sources) (λ modules. at_once (library_text modules)))) (lt-ltb MODULE_LIMIT (length sources) h)
