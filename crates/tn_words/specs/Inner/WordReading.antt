-- What is read of words inside.
use Rattle.std.specs.Prelude.{◌≡◌, ℕ, List, [], ◌∷◌, Option, Result, IfSome, IfOk, IsSomeAnd}
use Rattle.tn_words.specs.declared.faults.NoMemory.{NoMemory}

-- the words behind the first
abbrev pub behind : List (List ℕ) → List (List ℕ)
behind [] = []
behind (word ∷ words) = words

-- a value is read where one is asked for, and this one, unless there is no memory
abbrev pub ReadsAs : {A B : Type 0} → (B → A) → Option A → Result (Option B) NoMemory → Type 0
ReadsAs seen asked result = IfSome asked (λ what. IfOk result (λ o. IsSomeAnd o (λ b. what ≡ seen b)))
