use Rattle.std.proofs.Common.{◌≡◌, ℕ, ◌<◌, ◌^◌, ◌∙◌, false, sym, w32, FitsSigned, rules, arith}
use Rattle.std.specs.Prelude.{int_div}
use Rattle.std.proofs.lemmas.Int.{ints, quot_is}
use Rattle.std.proofs.lemmas.Bool.Decides.{nat_tests}
use Rattle.tn_alu.specs.SignedWords.{signed}
use Rattle.tn_alu.specs.Divisions.{has_no_quotient}
use Rattle.tn_alu.proofs.divisions.div.Goals as goal

-- where there is a quotient it is a signed word
fits : (b a : ℕ) → b < 2 ^ 32 → a < 2 ^ 32 → false ≡ has_no_quotient b a → FitsSigned w32 (int_div (signed b) (signed a))
fits b a hb ha defined = grind (arith, ints, nat_tests)

pub returns : goal.returns
returns c =
    let b = c.cast_signed.result in
    let a = c.cast_signed-2.result in
    let b_fits : FitsSigned w32 b = search rules in
    let a_fits : FitsSigned w32 a = search rules in
    let words_fit = fits c.args.b c.args.a (omega arith) (omega arith) c.if-is_without_quotient.ensures in
    let q_fits : FitsSigned w32 (int_div b a) = rw (c.cast_signed.ensures, c.cast_signed-2.ensures) words_fit in
    c.defined.ensures
    ∙ rw (quot_is w32 b a b_fits a_fits q_fits, c.cast_signed.ensures, c.cast_signed-2.ensures, sym c.if-is_without_quotient.ensures)
