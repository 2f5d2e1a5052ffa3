-- The first thing that is wrong, among places in an order: lines by their numbers, tests by their
-- places in a list, places in several lists.
use Rattle.std.specs.Prelude.{◌≡◌, ◌⊎◌, Bool, List, [], ◌∷◌, Option, Some, None, if◌then◌else◌}

-- the cause is wrong at the place, and nothing is wrong at any place before
pub record IsFirstWrong {P C : Type 0} (IsBefore : P → P → Type 0) (IsWrong : P → C → Type 0) (place : P) (cause : C) : Type 0 where
  pub wrong : IsWrong place cause
  pub before : (p : P) (c : C) → IsBefore p place → IsWrong p c → ⊥

-- nothing is wrong at any place
abbrev pub NothingIsWrong : {P C : Type 0} → (P → C → Type 0) → Type 0
NothingIsWrong {P} {C} IsWrong = (p : P) (c : C) → IsWrong p c → ⊥

-- of two places where something is wrong, one is before the other, or they are the same
abbrev pub AreInOrder : {P C : Type 0} → (P → P → Type 0) → (P → C → Type 0) → Type 0
AreInOrder {P} {C} IsBefore IsWrong = (p q : P) (c d : C) → IsWrong p c → IsWrong q d → IsBefore p q ⊎ (IsBefore q p ⊎ (p ≡ q))

-- at each place one thing is wrong at most
abbrev pub AreSingle : {P C : Type 0} → (P → C → Type 0) → Type 0
AreSingle {P} {C} IsWrong = (p : P) (c d : C) → IsWrong p c → IsWrong p d → c ≡ d

-- the cause of the first of these tests that holds
abbrev pub first_cause : {C : Type 0} → List (Bool × C) → Option C
first_cause [] = None
first_cause (test ∷ tests) = if test.0 then Some test.1 else first_cause tests
