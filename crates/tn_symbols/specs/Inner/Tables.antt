-- Tables of names and sets of places in the code.
use Rattle.std.specs.Prelude.{◌≡◌, ℕ, Bool, true, ◌⊎◌, List, Option, Some, None, if◌then◌else◌}
use Rattle.std.specs.Option.{option_or}
use Rattle.tn_module.specs.Names.{is_among}

-- a name that is not exported is found where it is first provided
abbrev pub missing : (List ℕ → Option ℕ) → List (List ℕ) → List ℕ → Option ℕ
missing first exported name = if is_among exported name then None else first name

-- one of the names is found at the place
pub record Wants (found : List ℕ → Option ℕ) (names : List (List ℕ)) (place : ℕ) : Type 0 where
  pub name : List ℕ
  pub among : is_among names name ≡ true
  pub at : found name ≡ Some place

-- a set has the places where names are found, and no other
pub record AreWanted (has : ℕ → Bool) (found : List ℕ → Option ℕ) (names : List (List ℕ)) : Type 0 where
  pub all : (place : ℕ) → Wants found names place → has place ≡ true
  pub only : (place : ℕ) → has place ≡ true → Wants found names place

-- a set that had some places has those of names too
pub record WantsMore (old new : ℕ → Bool) (found : List ℕ → Option ℕ) (names : List (List ℕ)) : Type 0 where
  pub kept : (place : ℕ) → old place ≡ true → new place ≡ true
  pub all : (place : ℕ) → Wants found names place → new place ≡ true
  pub only : (place : ℕ) → new place ≡ true → (old place ≡ true) ⊎ Wants found names place

-- a table of names that keeps what it told, and tells something of the others among these
pub record TellsMore {V : Type 0} (old new : List ℕ → Option V) (names : List (List ℕ)) (value : List ℕ → V) : Type 0 where
  pub told : (name : List ℕ) → new name ≡ option_or (old name) (if is_among names name then Some (value name) else None)
