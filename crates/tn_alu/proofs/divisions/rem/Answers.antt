use Rattle.std.proofs.Common.{◌∙◌, sym, w32, FitsSigned, rules}
use Rattle.std.proofs.lemmas.Int.{rem_is}
use Rattle.tn_alu.proofs.divisions.rem.Goals as goal

pub returns : goal.returns
returns c =
    let b = c.cast_signed.result in
    let a = c.cast_signed-2.result in
    let b_fits : FitsSigned w32 b = search rules in
    let a_fits : FitsSigned w32 a = search rules in
    c.defined.ensures
    ∙ rw (rem_is w32 b a b_fits a_fits, c.cast_signed.ensures, c.cast_signed-2.ensures, sym c.if-is_without_quotient.ensures)
