-- The code in a flat source.
use Rattle.std.proofs.Common.{◌≡◌, ℕ, ℤ, ◌<◌, ◌≤◌, List, length, Ok, Err, refl, sym, ap, ◌∙◌}
use Rattle.std.proofs.lemmas.Bool.{lt-ltb, le-ltb}
use Rattle.tn_isa.specs.declared.functions.Fun.{Fun}
use Rattle.tn_text.specs.declared.faults.Fault.{Fault}
use Rattle.tn_text.specs.declared.limits.Limit.TheVariants.{Code}
use Rattle.tn_text.specs.declared.limits.TheConstants.{CODE_LIMIT}
use Rattle.tn_asm.specs.FlatReading.{flat_read}
use Rattle.tn_top.specs.FlatCode.{flat_code}
use Rattle.tn_top.specs.Plans.{fault, limit}
use Rattle.tn_top.specs.Commands.{limited_code, code_given, code_in}

-- a source that has a fault
pub code_in-fault : (source text : List ℕ) (first : Fault) → Err first ≡ flat_read text → code_in source text ≡ Err (fault source first)
unfolding code_in
code_in-fault source text first e = ap (code_given source) (sym e)

module _ (source text code : List ℕ) (instructions : List (Fun × ℤ)) (read : Ok instructions ≡ flat_read text) (made : code
    ≡ flat_code instructions) where
  limited : code_in source text ≡ limited_code code
  unfolding code_in
  limited = ap (code_given source) (sym read) ∙ ap limited_code (sym made)

  -- a source with as much code as may be
  pub code_in-code : length code ≤ CODE_LIMIT → code_in source text ≡ Ok code
  code_in-code h = limited ∙ rw (le-ltb CODE_LIMIT (length code) h) refl

  -- a source with more
  pub code_in-much : CODE_LIMIT < length code → code_in source text ≡ Err (limit Code (length code))
  code_in-much h = limited ∙ rw (lt-ltb CODE_LIMIT (length code) h) refl
