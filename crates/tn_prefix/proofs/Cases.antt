-- Cases on numbers, and equations of what was found.
use Rattle.std.proofs.Common.{◌≡◌, ℕ, ◌<◌, ◌≤◌, Option, Some, ⊎_elim}
use Rattle.std.proofs.lemmas.Bool.{cases_lt}
use Rattle.tn_isa.specs.declared.functions.Fun.{Fun}

-- two cases on numbers
pub by_lt : {P : Type 0} (a b : ℕ) → (a < b → P) → (b ≤ a → P) → P
by_lt a b less more = ⊎_elim less more (cases_lt a b)

-- equal findings have equal parts
pub same_some : {A : Type 0} (x y : A) → Some x ≡ Some y → x ≡ y
same_some x y h = cc

-- findings with equal parts are equal
pub same_found : (f g : Fun) (x y m n : ℕ) → f ≡ g → x ≡ y → m ≡ n → ◌≡◌ {A = Option (Fun × ℕ × ℕ)} (Some (f, x, m)) (Some (g, y, n))
same_found f g x y m n p q r = cc
