-- The step over a line, by whether only bytes stand in it that may.
use Rattle.std.proofs.Common.{◌≡◌, ℕ, true, false, List, Result, Ok, Err, refl}
use Rattle.tn_text.specs.declared.faults.Cause.{Cause}
use Rattle.tn_text.specs.declared.faults.FaultCode.TheVariants.{NotAscii}
use Rattle.tn_text.specs.Faults.{bare}
use Rattle.tn_text.specs.Lines.{is_ascii_line, tokens}
use Rattle.tn_text.specs.Reading.{said, line_tokens, token_step}
use Rattle.tn_text.proofs.ReadingLoops.{token_step-tokens, token_step-refused}

line_tokens-bytes : (line : List ℕ) → is_ascii_line line ≡ false → line_tokens line ≡ Err (bare NotAscii)
unfolding line_tokens
line_tokens-bytes line e = rw e refl

line_tokens-ascii : (line : List ℕ) → is_ascii_line line ≡ true → line_tokens line ≡ Ok (tokens line)
unfolding line_tokens
line_tokens-ascii line e = rw e refl

module _ {S : Type 0} (step : S → List (List ℕ) → Result S Cause) (s : S) (line : List ℕ) where
  -- a line with another byte is refused
  pub token_step-bytes : is_ascii_line line ≡ false → token_step step s line ≡ Err (bare NotAscii)
  token_step-bytes e = token_step-refused step s line (bare NotAscii) (line_tokens-bytes line e)

  -- a line without is read by its tokens
  pub token_step-said : is_ascii_line line ≡ true → token_step step s line ≡ said step s (tokens line)
  token_step-said e = token_step-tokens step s line (tokens line) (line_tokens-ascii line e)
