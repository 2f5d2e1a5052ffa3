-- Nothing is wrong exactly where no test holds.
use Rattle.std.proofs.Common.{◌≡◌, ℕ, Bool, true, false, not, List, [], ◌∷◌, ◌++◌, None, Some, refl, sym, ap, ◌∙◌, if◌then◌else◌}
use Rattle.std.specs.List.{AllByRecursion}
use Rattle.std.proofs.lemmas.Option.{none-some}
use Rattle.tn_text.specs.declared.faults.Cause.{Cause}
use Rattle.tn_text.specs.declared.faults.FaultCode.{FaultCode}
use Rattle.tn_text.specs.Firsts.{first_cause}
use Rattle.tn_module.specs.Faults.{named, each}

pub not-false : (b : Bool) → not b ≡ false → b ≡ true
not-false true h = refl
not-false false h = absurd cc

pub none-head : (b : Bool) (c : Cause) (cs : List (Bool × Cause)) → first_cause ((b, c) ∷ cs) ≡ None → (b ≡ false) × (first_cause cs ≡ None)
none-head true c cs h = absurd (none-some c (sym h))
none-head false c cs h = (refl, h)

pub none-cons : (b : Bool) (c : Cause) (cs : List (Bool × Cause)) → b ≡ false → first_cause cs ≡ None → first_cause ((b, c) ∷ cs) ≡ None
none-cons b c cs e h = ap (λ b. if b then Some c else first_cause cs) e ∙ h

pub none-append : (xs ys : List (Bool × Cause)) → first_cause xs ≡ None → first_cause ys ≡ None → first_cause (xs ++ ys) ≡ None
none-append [] ys a b = b
none-append (x ∷ xs) ys a b = let p = none-head x.0 x.1 xs a in none-cons x.0 x.1 (xs ++ ys) p.0 (none-append xs ys p.1 b)

pub none-split : (xs ys : List (Bool × Cause)) → first_cause (xs ++ ys) ≡ None → (first_cause xs ≡ None) × (first_cause ys ≡ None)
none-split [] ys h = (refl, h)
none-split (x ∷ xs) ys h = let p = none-head x.0 x.1 (xs ++ ys) h in let q = none-split xs ys p.1 in (none-cons x.0 x.1 xs p.0 q.0, q.1)

module _ (code : FaultCode) (test : List ℕ → Bool) where
  pub none-each : (names : List (List ℕ)) → first_cause (each code test names) ≡ None → AllByRecursion (λ n. test n ≡ false) names
  none-each [] h = tt
  none-each (n ∷ ns) h = let p = none-head (test n) (named code n) (each code test ns) h in (p.0, none-each ns p.1)

  pub each-none : (names : List (List ℕ)) → AllByRecursion (λ n. test n ≡ false) names → first_cause (each code test names) ≡ None
  each-none [] h = refl
  each-none (n ∷ ns) h = none-cons (test n) (named code n) (each code test ns) h.0 (each-none ns h.1)
