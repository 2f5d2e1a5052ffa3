-- Walks: a state that is stepped until it is at rest.
use Rattle.std.specs.Prelude.{◌≡◌, ℕ, zero, suc, ◌<◌, ◌≤◌, Bool, IsTrue, ◌↔◌}

-- a state after so many steps
unfoldable pub walked : {S : Type 0} → (S → S) → ℕ → S → S
walked next zero s = s
walked next (suc count) s = walked next count (next s)

-- A state was stepped until it was at rest, or until so many steps were made: `steps` of them led to
-- `new`, no state before that was at rest, and `rested` says whether `new` is.
pub record IsSettled {S : Type 0} (AtRest : S → Type 0) (next : S → S) (most : ℕ) (old new : S) (steps : ℕ) (rested : Bool) : Type 0 where
  pub few : steps ≤ most
  pub state : new ≡ walked next steps old
  pub going : (k : ℕ) → k < steps → AtRest (walked next k old) → ⊥
  pub rest : IsTrue rested ↔ AtRest new
  pub short : steps < most → AtRest new
