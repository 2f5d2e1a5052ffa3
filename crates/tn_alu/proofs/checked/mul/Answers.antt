use Rattle.std.proofs.Common.{◌*ℤ◌, ◌≤◌, ℤ, ◌∙◌, lit<, w64, FitsSigned, arith, rules}
use Rattle.std.specs.Prelude.{unsigned_abs}
use Rattle.std.proofs.lemmas.Int.{ints, to_z-of_z, fits_signed_mul}
use Rattle.tn_alu.proofs.checked.mul.Goals as goal

-- a product of words as signed numbers is no longer than two words
fits : (x y : ℤ) → unsigned_abs x ≤ 0x80000000 → unsigned_abs y ≤ 0x80000000 → FitsSigned w64 (x *ℤ y)
fits x y x_size y_size = fits_signed_mul w64 x y 0x80000000 0x80000000 x_size y_size (lit< tt)

pub overflow_mul-signed_word : goal.overflow_mul-signed_word
overflow_mul-signed_word c =
    let x = c.signed_word.result in
    let y = c.signed_word-2.result in
    let x_fits : FitsSigned w64 x = search rules in
    let y_fits : FitsSigned w64 y = search rules in
    rw (to_z-of_z w64 x x_fits, to_z-of_z w64 y y_fits) (fits x y (omega (arith, ints)) (omega (arith, ints)))

pub returns : goal.returns
returns c =
    let x = c.signed_word.result in
    let y = c.signed_word-2.result in
    let x_fits : FitsSigned w64 x = search rules in
    let y_fits : FitsSigned w64 y = search rules in
    let product_fits : FitsSigned w64 (x *ℤ y) = fits x y (omega (arith, ints)) (omega (arith, ints)) in
    c.checked_word.ensures ∙ rw (
      to_z-of_z w64 x x_fits,
      to_z-of_z w64 y y_fits,
      to_z-of_z w64 (x *ℤ y) product_fits,
      c.signed_word.ensures.value,
      c.signed_word-2.ensures.value,
    )
