-- The tokens of a line of a module text.
use Rattle.std.proofs.Common.{◌≡◌, ℕ, Bool, true, false, ◌&&◌, List, [], ◌∷◌, map, Ok, Err, refl, sym, ap, ◌∙◌}
use Rattle.std.specs.List.{list_all, slice_split}
use Rattle.tn_text.specs.declared.faults.FaultCode.TheVariants.{NotAscii, BadLine}
use Rattle.tn_text.specs.declared.faults.Cause.{Cause}
use Rattle.tn_text.specs.declared.faults.Fault.{Fault}
use Rattle.tn_text.specs.Faults.{bare, fault_at}
use Rattle.tn_text.specs.Reading.{placed}
use Rattle.tn_text.specs.Lines.{is_nonempty}
use Rattle.tn_modtext.specs.Pieces.{is_strict_line, is_space, strict_tokens}

pub list_all-map : {X Y : Type 0} (p : Y → Bool) (f : X → Y) (xs : List X) → list_all p (map f xs) ≡ list_all (λ x. p (f x)) xs
list_all-map p f [] = refl
list_all-map p f (x ∷ xs) = ap (λ b. p (f x) && b) (list_all-map p f xs)

-- the fault of a line that is refused
pub strict-fault : (number : ℕ) (piece : List ℕ × Bool) (cause : Cause) (fault : Fault) → strict_tokens piece ≡ Err cause
    → fault ≡ fault_at number cause → Err fault ≡ placed number (strict_tokens piece)
strict-fault number piece cause fault e is = rw (e, is) refl

-- a line with another byte
pub strict-bytes : (line : List ℕ) (ended : Bool) → is_strict_line line ≡ false → strict_tokens (line, ended) ≡ Err (bare NotAscii)
unfolding strict_tokens
strict-bytes line ended e = rw e refl

module _ {W : Type 0} (seen : W → List ℕ) (line : List ℕ) (ended : Bool) (words : List W) (ascii : is_strict_line line ≡ true)
    (are : map seen words ≡ slice_split is_space line) where
  tested : list_all is_nonempty (slice_split is_space line) ≡ list_all (λ w. is_nonempty (seen w)) words
  tested = ap (list_all is_nonempty) (sym are) ∙ list_all-map is_nonempty seen words

  -- a line whose tokens are one blank apart, and another
  pub strict-whole : (ended && list_all (λ w. is_nonempty (seen w)) words) ≡ true → strict_tokens (line, ended) ≡ Ok (map seen words)
  unfolding strict_tokens
  strict-whole e = rw (ascii, tested, e, are) refl

  pub strict-other : (ended && list_all (λ w. is_nonempty (seen w)) words) ≡ false → strict_tokens (line, ended) ≡ Err (bare BadLine)
  unfolding strict_tokens
  strict-other e = rw (ascii, tested, e) refl
