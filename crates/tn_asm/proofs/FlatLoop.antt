-- The loop that reads a flat source.
use Rattle.std.proofs.Common.{◌≡◌, ℕ, ◌+◌, ℤ, false, List, [], ◌∷◌, ◌++◌, length, map, Result, Ok, Err, sym, ap}
use Rattle.std.specs.Bool.{◌==◌}
use Rattle.std.specs.Str.Lines.{lines}
use Rattle.tn_isa.specs.declared.functions.Fun.{Fun}
use Rattle.tn_text.specs.declared.faults.Cause.{Cause}
use Rattle.tn_text.specs.declared.faults.Fault.{Fault}
use Rattle.tn_text.specs.Faults.{fault_at}
use Rattle.tn_text.specs.Reading.{result_then, placed, line_tokens, token_step}
use Rattle.tn_text.proofs.ReadingLoops.{ReadsOn, words-good, words-bad}
use Rattle.tn_asm.specs.FlatReading.{instruction_said, flat_step}

module _ (s : List (Fun × ℤ)) (n : ℕ) (rest : List ℕ) (whole : Result (List (Fun × ℤ)) Fault)
    (so_far : ReadsOn (token_step flat_step) Ok s n rest whole) (line behind : List ℕ) (cut : lines rest ≡ line ∷ lines behind)
    {W : Type 0} (seen : W → List ℕ) (words : List W) (are : Ok (map seen words) ≡ placed (n + 1) (line_tokens line))
    (some : (length words == 0) ≡ false) where
  -- a line that says an instruction
  pub one : (i : Fun × ℤ) → Ok i ≡ instruction_said (map seen words)
      → ReadsOn (token_step flat_step) Ok (s ++ i ∷ []) (n + 1) behind whole
  one i is =
      words-good flat_step Ok s n rest whole so_far line behind cut seen words are (s ++ i ∷ []) some
      (ap (λ r. result_then r (λ i. Ok (s ++ i ∷ []))) (sym is))

  -- a line that says something else
  pub refused : (cause : Cause) → Err cause ≡ instruction_said (map seen words) → Err (fault_at (n + 1) cause) ≡ whole
  refused cause is =
      words-bad flat_step Ok s n rest whole so_far line behind cut seen words are cause some
      (ap (λ r. result_then r (λ i. Ok (s ++ i ∷ []))) (sym is))
