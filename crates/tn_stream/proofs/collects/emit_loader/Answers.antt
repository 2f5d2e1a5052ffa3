use Rattle.std.proofs.Common.{ℕ, List, ◌∷◌, ◌++◌, append_assoc, sym, ap}
use Rattle.tn_word.specs.Words.{bytes_of_word}
use Rattle.tn_loader.specs.Primary.{primary_bytes}
use Rattle.tn_loader.specs.Secondary.{secondary_bytes}
use Rattle.tn_stream.proofs.Printing.{Prints-as, Prints-joined, Prints-stopped, Prints-refused}
use Rattle.tn_stream.proofs.collects.emit_loader.Goals as goal

pub returns-in_err-emit_primary-clause-prints : goal.returns-in_err-emit_primary-clause-prints
returns-in_err-emit_primary-clause-prints g c =
    Prints-refused c.from_residual.ensures.0
    (Prints-as (ap (λ (xs : List ℕ). 57 ∷ xs) (sym (append_assoc (primary_bytes c.args.k) (bytes_of_word 55) secondary_bytes)))
    (Prints-stopped (bytes_of_word 55 ++ secondary_bytes) c.in_err-emit_primary.ensures.prints))

pub returns-clause-prints : goal.returns-clause-prints
returns-clause-prints g c =
    Prints-as (ap (λ (xs : List ℕ). 57 ∷ xs) (sym (append_assoc (primary_bytes c.args.k) (bytes_of_word 55) secondary_bytes)))
    (Prints-joined c.in_ok-emit_primary.ensures.prints c.emit_secondary.ensures.prints)
