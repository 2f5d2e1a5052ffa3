-- What is common to the commands that read words.
use Rattle.std.specs.Prelude.{◌&&◌, IsSomeAnd}
use Rattle.std.specs.Bool.{◌==◌}
use Rattle.std.proofs.Common.{◌≡◌, ℕ, Bool, true, false, not, Option, Some, None, refl, ap}
use Rattle.clap.specs.Words.{Rule, Text, new_rule}

-- a positional that has to be there
abbrev pub required : Text → Rule
required id = record (new_rule id) { required = true }

pub both : (a b : Bool) → (a && b) ≡ true → (a ≡ true) × (b ≡ true)
both true b h = (refl, h)
both false b h = absurd cc

pub some_is : {A : Type 0} (o : Option A) (x : A) → IsSomeAnd o (λ y. y ≡ x) → o ≡ Some x
some_is None x h = absurd h
some_is (Some y) x h = ap Some h

-- a byte that is no minus sign
pub no_minus : (c : ℕ) → not (c == 45) ≡ true → (c == 45) ≡ false
no_minus c h = at (c == 45) h
  where
    at : (b : Bool) → not b ≡ true → b ≡ false
    at true e = absurd cc
    at false e = refl
