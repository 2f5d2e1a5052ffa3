-- Lines on the error output.
use Rattle.std.proofs.Common.{◌≡◌, ℕ, List, [], length, take, take_all, append-nil, Option, Some, None, Result, Ok, Err, refl, sym, ap}
use Rattle.std.proofs.Common.{◌∙◌, arith}
use Rattle.tn_io.specs.declared.faults.OutFault.{OutFault}
use Rattle.tn_io.specs.Outs.{Printed, told_then, Prints}
use Rattle.tn_text.specs.declared.puts.PutRefused.{PutRefused}
use Rattle.tn_text.specs.Puts.{Puts}
use Rattle.tn_top.specs.ErrLines.{Tells}

-- all of a piece is a prefix of it
whole_part : (piece : List ℕ) (before after : Printed) → after.bytes ≡ told_then piece before.bytes
    → (k : ℕ) × (after.bytes ≡ told_then (take k piece) before.bytes)
whole_part piece before after e = (length piece, e ∙ ap (λ p. told_then p before.bytes) (sym (take_all (length piece) piece (omega arith))))

nothing : (o : Option (List ℕ)) → o ≡ told_then [] o
nothing None = refl
nothing (Some bs) = ap Some (sym (append-nil bs))

-- nothing was told
pub tells-nothing : (p : Printed) → Tells [] p p
tells-nothing p = record { whole = λ calm. nothing p.bytes; part = (0, nothing p.bytes) }

-- a line that was written
pub tells-written : {T : Type 0} (line : List ℕ) (r : Result T OutFault) (before after : Printed) → Prints line r before after
    → Tells line before after
tells-written line (Ok x) before after h = record { whole = λ calm. h.ok; part = whole_part line before after h.ok }
tells-written line (Err e) before after h = record { whole = λ calm. absurd (calm h.failed); part = h.err }

-- a line that was put
pub tells-put : {T : Type 0} (line : List ℕ) (r : Result T PutRefused) (before after : Printed)
    → Puts line r (record { bytes = before.bytes; refusals = before.faults }) (record { bytes = after.bytes; refusals = after.faults })
    → Tells line before after
tells-put line (Ok x) before after h = record { whole = λ calm. h.ok; part = whole_part line before after h.ok }
tells-put line (Err e) before after h = record { whole = λ calm. absurd (calm h.refused); part = h.err }
