-- Searches for the first place where something is wrong.
use Rattle.std.specs.Prelude.{◌≡◌, ℕ, ◌<◌, Option, Some, None, MatchOption}
use Rattle.tn_symbols.specs.declared.choices.ChooseFault.{ChooseFault}

-- the fault is what is wrong at one place, and nothing is wrong before
pub record IsFirstAt (at : ℕ → Option ChooseFault) (fault : ChooseFault) : Type 0 where
  pub index : ℕ
  pub here : at index ≡ Some fault
  pub before : (i : ℕ) → i < index → at i ≡ None

abbrev pub NoneAt : (ℕ → Option ChooseFault) → Type 0
NoneAt at = (i : ℕ) → at i ≡ None

-- the first fault is found, if there is one
abbrev pub IsFound : (ℕ → Option ChooseFault) → Option ChooseFault → Type 0
IsFound at result = MatchOption result (NoneAt at) (λ fault. IsFirstAt at fault)

-- the same of places by module and index
pub record IsFirstIn (at : ℕ → ℕ → Option ChooseFault) (fault : ChooseFault) : Type 0 where
  pub place : ℕ
  pub first : IsFirstAt (at place) fault
  pub before : (m i : ℕ) → m < place → at m i ≡ None

abbrev pub AllNone : (ℕ → ℕ → Option ChooseFault) → Type 0
AllNone at = (m i : ℕ) → at m i ≡ None
