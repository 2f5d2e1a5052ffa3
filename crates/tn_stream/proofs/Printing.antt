-- Pieces that are printed one after the other are put one after the other.
use Rattle.std.proofs.Common.{◌≡◌, ℕ, List, [], ◌++◌, Result, Ok, Err, IsErr, subst}
use Rattle.tn_text.specs.declared.puts.PutRefused.{PutRefused}
use Rattle.tn_text.specs.Puts.{Taken, Puts}
use Rattle.tn_text.proofs.Putting.{Puts-nothing, Puts-joined, Puts-stopped}
use Rattle.tn_io.specs.declared.faults.OutFault.{OutFault}
use Rattle.tn_io.specs.Outs.{Printed, Prints}

-- an output as a sink
abbrev taken : Printed → Taken
taken p = record { bytes = p.bytes; refusals = p.faults }

abbrev put : {T : Type 0} → Result T OutFault → Result T PutRefused
put (Ok x) = Ok x
put (Err e) = Err (record {})

puts-of : {T : Type 0} (a : List ℕ) (r : Result T OutFault) (p q : Printed) → Prints a r p q → Puts a (put r) (taken p) (taken q)
puts-of a (Ok x) p q h = record { ok = h.ok; err = tt; refused = tt; count = h.count }
puts-of a (Err e) p q h = record { ok = tt; err = h.err; refused = h.failed; count = h.count }

of-puts : {T : Type 0} (a : List ℕ) (r : Result T OutFault) (p q : Printed) → Puts a (put r) (taken p) (taken q) → Prints a r p q
of-puts a (Ok x) p q h = record { ok = h.ok; err = tt; failed = tt; count = h.count }
of-puts a (Err e) p q h = record { ok = tt; err = h.err; failed = h.refused; count = h.count }

pub Prints-nothing : {T : Type 0} (x : T) (p : Printed) → Prints [] (Ok x) p p
Prints-nothing x p = of-puts [] (Ok x) p p (Puts-nothing x (taken p))

pub Prints-as : {T : Type 0} {a b : List ℕ} {r : Result T OutFault} {p q : Printed} → a ≡ b → Prints a r p q → Prints b r p q
Prints-as {r} {p} {q} e h = subst (λ piece. Prints piece r p q) e h

pub Prints-joined : {T U : Type 0} {a b : List ℕ} {x : T} {r : Result U OutFault} {p q s : Printed} → Prints a (Ok x) p q
    → Prints b r q s → Prints (a ++ b) r p s
Prints-joined {U} {a} {b} {x} {r} {p} {q} {s} h k =
    of-puts (a ++ b) r p s (Puts-joined (puts-of a (Ok x) p q h) (puts-of b r q s k))

-- a refused piece, behind which nothing was printed
pub Prints-stopped : {T : Type 0} {a : List ℕ} {e : OutFault} {p q : Printed} (b : List ℕ) → Prints {T = T} a (Err e) p q
    → Prints {T = T} (a ++ b) (Err e) p q
Prints-stopped {T} {a} {e} {p} {q} b h = of-puts (a ++ b) (Err e) p q (Puts-stopped b (puts-of {T = T} a (Err e) p q h))

-- a refusal that is handed on
pub Prints-refused : {T U : Type 0} {a : List ℕ} {e : OutFault} {r : Result U OutFault} {p q : Printed} → IsErr r
    → Prints {T = T} a (Err e) p q → Prints a r p q
Prints-refused {T} {U} {a} {e} {r} {p} {q} is h = at r is
  where
    at : (o : Result U OutFault) → IsErr o → Prints a o p q
    at (Ok x) is = absurd cc
    at (Err f) is = record { ok = tt; err = h.err; failed = h.failed; count = h.count }

-- a piece that was printed, whatever is answered
pub Prints-ok : {T U : Type 0} {a : List ℕ} {x : T} {p q : Printed} (y : U) → Prints {T = T} a (Ok x) p q → Prints {T = U} a (Ok y) p q
Prints-ok y h = record { ok = h.ok; err = tt; failed = tt; count = h.count }
