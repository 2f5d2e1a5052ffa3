use Rattle.std.proofs.Common.{◌+ℤ◌, ◌∙◌, w64, FitsSigned, rules, arith}
use Rattle.std.proofs.lemmas.Int.{ints, to_z-of_z}
use Rattle.tn_alu.proofs.checked.add.Goals as goal

pub overflow_add-signed_word : goal.overflow_add-signed_word
overflow_add-signed_word c =
    let x = c.signed_word.result in
    let y = c.signed_word-2.result in
    let x_fits : FitsSigned w64 x = search rules in
    let y_fits : FitsSigned w64 y = search rules in
    let sum_fits : FitsSigned w64 (x +ℤ y) = omega (arith, ints) in
    rw (to_z-of_z w64 x x_fits, to_z-of_z w64 y y_fits) sum_fits

pub returns : goal.returns
returns c =
    let x = c.signed_word.result in
    let y = c.signed_word-2.result in
    let x_fits : FitsSigned w64 x = search rules in
    let y_fits : FitsSigned w64 y = search rules in
    let sum_fits : FitsSigned w64 (x +ℤ y) = omega (arith, ints) in
    c.checked_word.ensures ∙ rw (
      to_z-of_z w64 x x_fits,
      to_z-of_z w64 y y_fits,
      to_z-of_z w64 (x +ℤ y) sum_fits,
      c.signed_word.ensures.value,
      c.signed_word-2.ensures.value,
    )
