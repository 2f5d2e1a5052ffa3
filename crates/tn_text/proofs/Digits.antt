-- Digits of a radix, and their value.
use Rattle.std.proofs.Common.{◌≡◌, ℕ, ◌+◌, ◌*◌, ◌^◌, ◌<◌, ◌≤◌, Bool, true, false, ◌&&◌, List, [], ◌∷◌, length, take, get_or, refl, sym}
use Rattle.std.proofs.Common.{◌∙◌, arith}
use Rattle.std.proofs.Math.Nat.{mul-le-mul, pow-le-pow_left, pow-le-pow_right}
use Rattle.std.proofs.lemmas.List.{length-take}
use Rattle.std.proofs.lemmas.List.Folds.{list_all_more}
use Rattle.std.proofs.lemmas.Bool.{ltb-true, lt-ltb}
use Rattle.std.proofs.lemmas.Int.Digits.{digits_value-lt, digits_value_more}
use Rattle.std.specs.Char.{is_digit, digit_value}
use Rattle.std.specs.List.{list_all}
use Rattle.std.specs.Str.Parse.{digits_value, AllDigits}

pub all_digits : (radix : ℕ) (ds : List ℕ) → list_all (λ c. is_digit c radix) ds ≡ true → AllDigits radix ds
all_digits radix [] h = tt
all_digits radix (c ∷ cs) h = at (is_digit c radix) refl h (all_digits radix cs)
  where
    at : (b : Bool) → is_digit c radix ≡ b → (b && list_all (λ d. is_digit d radix) cs) ≡ true
        → (list_all (λ d. is_digit d radix) cs ≡ true → AllDigits radix cs) → AllDigits radix (c ∷ cs)
    at true e r more = (ltb-true (digit_value c) radix e, more r)
    at false e r more = absurd cc

-- so many digits have a value below that power of 16
pub few_digits : (radix : ℕ) (ds : List ℕ) (most : ℕ) → radix ≤ 16 → list_all (λ c. is_digit c radix) ds ≡ true
    → length ds ≤ most → digits_value radix ds < 16 ^ most
few_digits radix ds most small h short =
    let value = digits_value-lt radix ds (all_digits radix ds h) in
    let base : radix ^ length ds ≤ 16 ^ length ds = pow-le-pow_left small (length ds) in
    let sixteen : 0 < 16 = omega arith in
    let power : 16 ^ length ds ≤ 16 ^ most = pow-le-pow_right sixteen short in
    omega (arith, value, base, power)

module _ (radix : ℕ) (ds : List ℕ) (i : ℕ) (here : i < length ds) (small : radix ≤ 16)
    (so_far : list_all (λ c. is_digit c radix) (take i ds) ≡ true) where
  -- one digit more, before the tenth, has room
  pub room : length ds ≤ 10 → (value base : ℕ) → value ≡ digits_value radix (take i ds) → base ≤ 16 → value * base ≤ 68719476736 * 16
  room short value base e sixteen =
      let below : digits_value radix (take i ds) < 16 ^ 9 = few_digits radix (take i ds) 9 small so_far (rw length-take (omega arith)) in
      let most : value ≤ 68719476736 = omega (arith, e, below) in
      mul-le-mul most sixteen

  -- one digit more
  pub one_more : digit_value (get_or ds i 0) < radix
      → (list_all (λ c. is_digit c radix) (take (i + 1) ds) ≡ true)
      × (digits_value radix (take i ds) * radix + digit_value (get_or ds i 0) ≡ digits_value radix (take (i + 1) ds))
  one_more digit = (
    list_all_more (λ c. is_digit c radix) ds i 0 here ∙ rw (so_far, lt-ltb (digit_value (get_or ds i 0)) radix digit) refl,
    sym (digits_value_more radix ds i here),
  )
