-- What a step behind a result gives.
use Rattle.std.proofs.Common.{◌≡◌, Result, Ok, Err, refl}
use Rattle.tn_text.specs.Reading.{result_then}

pub then-ok : {A B E : Type 0} (r : Result A E) (f : A → Result B E) (b : B) → result_then r f ≡ Ok b → (a : A) × (r ≡ Ok a) × (f a ≡ Ok b)
then-ok (Ok a) f b e = (a, refl, e)
then-ok (Err why) f b e = absurd cc

pub then-of : {A B E : Type 0} (r : Result A E) (f : A → Result B E) (a : A) (b : B) → r ≡ Ok a → f a ≡ Ok b → result_then r f ≡ Ok b
then-of r f a b e q = rw e q
