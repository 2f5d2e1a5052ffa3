-- What a refused store leaves.
use Rattle.std.proofs.Common.{◌≡◌, Some, Result, Ok, Err, ap, refl}
use Rattle.std.specs.Prelude.{⊤}
use Rattle.std.specs.Result.{result_err}
use Rattle.tn_mem.specs.declared.touches.Touch.{Touch}
use Rattle.tn_mem.specs.Spaces.{Leaves}

-- a store that is refused, and answered so, leaves the space as it was
pub refused :
    {M : Type 0} (made : Result M Touch) (m : M) (result : Result ⊤ Touch) (touch : Touch) → result_err made ≡ Some touch
    → result ≡ Err touch → Leaves result made m m
refused (Ok n) m result touch e h = cc
refused (Err why) m result touch e h = let same : why ≡ touch = cc in rw h (ap Err same, refl)
