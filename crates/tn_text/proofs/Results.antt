-- What results and options are.
use Rattle.std.proofs.Common.{◌≡◌, Option, Some, None, Result, Ok, Err, subst, sym, ◌∙◌}
use Rattle.std.specs.Result.{IsErrAnd}

-- what holds of an error holds of a result that is this error
pub of-error : {T E : Type 0} (P : Result T E → Type 0) (result : Result T E) (why : E) → IsErrAnd result (λ e. e ≡ why)
    → P (Err why) → P result
of-error P (Ok x) why h p = absurd h
of-error P (Err e) why h p = subst (λ w. P (Err w)) (sym h) p

-- a result has one value, or one error
pub ok-ok : {T E : Type 0} (r : Result T E) (a b : T) → r ≡ Ok a → r ≡ Ok b → a ≡ b
ok-ok (Ok x) a b p q = let one : x ≡ a = cc in let two : x ≡ b = cc in sym one ∙ two
ok-ok (Err e) a b p q = absurd cc

pub err-err : {T E : Type 0} (r : Result T E) (a b : E) → r ≡ Err a → r ≡ Err b → a ≡ b
err-err (Ok x) a b p q = absurd cc
err-err (Err e) a b p q = let one : e ≡ a = cc in let two : e ≡ b = cc in sym one ∙ two

-- and not both
pub ok-err : {T E P : Type 0} (r : Result T E) (a : T) (b : E) → r ≡ Ok a → r ≡ Err b → P
ok-err (Ok x) a b p q = absurd cc
ok-err (Err e) a b p q = absurd cc

-- an option that has a value is not empty
pub none-some : {A P : Type 0} (o : Option A) (a : A) → o ≡ None → o ≡ Some a → P
none-some None a p q = absurd cc
none-some (Some x) a p q = absurd cc
