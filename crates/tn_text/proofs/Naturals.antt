-- Decimal digits are read back as the number that they were written for.
use Rattle.std.proofs.Common.{◌≡◌, ℕ, ◌^◌, ◌<◌, ◌≤◌, true, List, [], ◌∷◌, length, Some, refl, arith, lt-ltb, le-leb}
use Rattle.std.specs.List.{list_all}
use Rattle.std.specs.Char.{is_digit, digit_value}
use Rattle.std.specs.Fmt.{decimal}
use Rattle.std.specs.Str.Parse.{AllDigits}
use Rattle.std.proofs.lemmas.Fmt.{decimal_is_IsNumeral, length-decimal-le}
use Rattle.tn_text.specs.Numbers.{natural_of}

pub digits_tested : (ds : List ℕ) → AllDigits 10 ds → list_all (λ c. is_digit c 10) ds ≡ true
digits_tested [] h = refl
digits_tested (c ∷ cs) h = rw (lt-ltb (digit_value c) 10 h.0, digits_tested cs h.1) refl

pub natural-only : (n : ℕ) → n < 10 ^ 10 → natural_of 10 10 (decimal n) ≡ Some n
unfolding natural_of
natural-only n small =
    let below : n < 2 ^ 64 = omega arith in
    let numeral = decimal_is_IsNumeral n below in
    let some : 1 ≤ length (decimal n) = omega (arith, numeral.0.0) in
    let few : length (decimal n) ≤ 10 = length-decimal-le 10 n (omega arith) small below in
    rw (le-leb 1 (length (decimal n)) some, le-leb (length (decimal n)) 10 few, digits_tested (decimal n) numeral.0.1, numeral.1) refl
