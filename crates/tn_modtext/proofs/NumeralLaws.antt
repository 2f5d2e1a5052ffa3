-- The numbers of a module text are what their tokens spell.
use Rattle.std.proofs.Common.{◌≡◌, ℕ, suc, zero, ◌^◌, ◌<◌, ◌≤◌, ℤ, pos, negsuc, neg_ℤ, Bool, true, false, ◌&&◌, cond, List, [], ◌∷◌, length}
use Rattle.std.proofs.Common.{get_or, Option, Some, None, Result, Ok, Err, refl, sym, ap, ◌∙◌, subst, arith, ltb, leb, le-leb, lt-ltb}
use Rattle.std.specs.Prelude.{FitsSigned}
use Rattle.std.specs.Bool.{◌==◌}
use Rattle.std.specs.List.{list_all}
use Rattle.std.specs.Char.{is_digit, digit_value}
use Rattle.std.specs.Fmt.{decimal, signed_decimal}
use Rattle.std.specs.Int.{w32}
use Rattle.std.specs.Str.Parse.{AllDigits, digits_value}
use Rattle.std.proofs.lemmas.Bool.Decides.{nat_tests}
use Rattle.std.proofs.lemmas.Bool.{ltb-true, leb-true}
use Rattle.std.proofs.lemmas.Fmt.{decimal_digit, decimal_is_IsNumeral, first_decimal, decimal-digits_value}
use Rattle.std.proofs.lemmas.Str.Parse.{IsNumeralModel, numerals_by_value, tells_digits}
use Rattle.tn_text.specs.declared.faults.Cause.{Cause}
use Rattle.tn_text.specs.declared.faults.FaultCode.TheVariants.{BadNumber}
use Rattle.tn_text.specs.Faults.{bare}
use Rattle.tn_text.specs.Numbers.{natural_of}
use Rattle.tn_text.proofs.Digits.{all_digits, few_digits}
use Rattle.tn_text.proofs.Naturals.{natural-only as decimal-only}
use Rattle.tn_modtext.specs.Numerals.{has_leading_zero, plain_natural, up_to, natural_at, negative_at, positive_at, signed_at}

-- digits, as std's lemmas speak of them
digits_are : IsNumeralModel (AllDigits 10) (digits_value 10)
digits_are = numerals_by_value (AllDigits 10) tells_digits

-- a first zero stands alone
alone : (ds : List ℕ) → has_leading_zero ds ≡ false → 1 ≤ length ds → get_or ds 0 0 ≡ 48 → length ds ≡ 1
alone [] e some z = absurd (omega arith)
alone (c ∷ []) e some z = refl
alone (c ∷ d ∷ ds) e some z = absurd (grind (arith, nat_tests))

record IsPlain (ds : List ℕ) (n : ℕ) : Type 0 where
  some : 1 ≤ length ds
  few : length ds ≤ 10
  digits : list_all (λ c. is_digit c 10) ds ≡ true
  value : digits_value 10 ds ≡ n

both : (a b : Bool) → (a && b) ≡ true → (a ≡ true) × (b ≡ true)
both true b h = (refl, h)
both false b h = absurd cc

natural-plain : (ds : List ℕ) (n : ℕ) → natural_of 10 10 ds ≡ Some n → IsPlain ds n
unfolding natural_of
natural-plain ds n e = at (leb 1 (length ds) && (leb (length ds) 10 && list_all (λ c. is_digit c 10) ds)) refl e
  where
    at : (b : Bool) → (leb 1 (length ds) && (leb (length ds) 10 && list_all (λ c. is_digit c 10) ds)) ≡ b
        → cond {A = Option ℕ} b (Some (digits_value 10 ds)) None ≡ Some n → IsPlain ds n
    at true t q =
        let first = both (leb 1 (length ds)) (leb (length ds) 10 && list_all (λ c. is_digit c 10) ds) t in
        let second = both (leb (length ds) 10) (list_all (λ c. is_digit c 10) ds) first.1 in
        record {
          some = leb-true 1 (length ds) first.0;
          few = leb-true (length ds) 10 second.0;
          digits = second.1;
          value = cc;
        }
    at false t q = absurd cc

-- digits without leading zeros are those of their value
plain-found : (ds : List ℕ) (n : ℕ) → plain_natural ds ≡ Some n → (decimal n ≡ ds) × (n < 16 ^ 10)
unfolding plain_natural
plain-found ds n e = at (has_leading_zero ds) refl e
  where
    at : (b : Bool) → has_leading_zero ds ≡ b → cond {A = Option ℕ} b None (natural_of 10 10 ds) ≡ Some n
        → (decimal n ≡ ds) × (n < 16 ^ 10)
    at true z q = absurd cc
    at false z q =
        let p = natural-plain ds n q in
        let below : digits_value 10 ds < 16 ^ 10 = few_digits 10 ds 10 (omega arith) p.digits p.few in
        let small : digits_value 10 ds < 2 ^ 64 = omega (arith, below) in (
          ap decimal (sym p.value) ∙ decimal-digits_value digits_are ds (all_digits 10 ds p.digits) (omega (arith, p.some))
              (alone ds z p.some) small,
          omega (arith, below, p.value),
        )

-- and back
no_zero : (n : ℕ) → n < 2 ^ 64 → has_leading_zero (decimal n) ≡ false
no_zero zero small = ap has_leading_zero (decimal_digit 0 (omega arith))
no_zero (suc n) small = at (decimal (suc n)) (first_decimal (suc n) (omega arith) small)
  where
    at : (ds : List ℕ) → 48 < get_or ds 0 0 → has_leading_zero ds ≡ false
    at [] h = refl
    at (c ∷ []) h = refl
    at (c ∷ d ∷ ds) h = grind (arith, nat_tests)

plain-only : (n : ℕ) → n < 10 ^ 10 → plain_natural (decimal n) ≡ Some n
unfolding plain_natural
plain-only n small = rw (no_zero n (omega arith), decimal-only n small) refl

-- ---- numbers up to a limit

pub natural-found : (limit : ℕ) (t : List ℕ) (n : ℕ) → natural_at limit t ≡ Ok n → (decimal n ≡ t) × (n ≤ limit)
unfolding natural_at
natural-found limit t n e = at (plain_natural t) refl e
  where
    by : (v : ℕ) → plain_natural t ≡ Some v → (b : Bool) → leb v limit ≡ b
        → cond {A = Result ℕ Cause} b (Ok v) (Err (bare BadNumber)) ≡ Ok n → (decimal n ≡ t) × (n ≤ limit)
    by v is true test q =
        let same : v ≡ n = cc in
        let within : v ≤ limit = leb-true v limit test in
        (ap decimal (sym same) ∙ (plain-found t v is).0, omega (arith, same, within))
    by v is false test q = absurd cc

    at : (o : Option ℕ) → plain_natural t ≡ o → up_to limit o ≡ Ok n → (decimal n ≡ t) × (n ≤ limit)
    at None is q = absurd cc
    at (Some v) is q = by v is (leb v limit) refl q

pub natural-only : (limit n : ℕ) → n ≤ limit → limit < 2 ^ 32 → natural_at limit (decimal n) ≡ Ok n
unfolding natural_at
natural-only limit n within word =
    let small : n < 10 ^ 10 = omega arith in
    rw (plain-only n small, le-leb n limit within) refl

-- ---- signed words

minus_digits : (n : ℕ) → 1 ≤ n → signed_decimal (neg_ℤ (pos n)) ≡ 45 ∷ decimal n
minus_digits zero h = absurd (omega arith)
minus_digits (suc n) h = refl

minus_fits : (n : ℕ) → 1 ≤ n → n ≤ 2 ^ 31 → FitsSigned w32 (neg_ℤ (pos n))
minus_fits zero h k = absurd (omega arith)
minus_fits (suc n) h k = record { sfits = omega arith }

module _ (t : List ℕ) (v : ℤ) where
  negative-found : (ds : List ℕ) (o : Option ℕ) → plain_natural ds ≡ o → negative_at o ≡ Ok v
      → (signed_decimal v ≡ 45 ∷ ds) × FitsSigned w32 v
  negative-found ds None is q = absurd cc
  negative-found ds (Some n) is q = by (leb 1 n && leb n (2 ^ 31)) refl q
    where
      by : (b : Bool) → (leb 1 n && leb n (2 ^ 31)) ≡ b
          → cond {A = Result ℤ Cause} b (Ok (neg_ℤ (pos n))) (Err (bare BadNumber)) ≡ Ok v
          → (signed_decimal v ≡ 45 ∷ ds) × FitsSigned w32 v
      by true test q =
          let tests = both (leb 1 n) (leb n (2 ^ 31)) test in
          let low = leb-true 1 n tests.0 in
          let high = leb-true n (2 ^ 31) tests.1 in
          let same : neg_ℤ (pos n) ≡ v = cc in (
            ap signed_decimal (sym same) ∙ (minus_digits n low ∙ ap (λ d. 45 ∷ d) (plain-found ds n is).0),
            subst (FitsSigned w32) same (minus_fits n low high),
          )
      by false test q = absurd cc

  positive-found : (ds : List ℕ) (o : Option ℕ) → plain_natural ds ≡ o → positive_at o ≡ Ok v → (signed_decimal v ≡ ds) × FitsSigned w32 v
  positive-found ds None is q = absurd cc
  positive-found ds (Some n) is q = by (ltb n (2 ^ 31)) refl q
    where
      by : (b : Bool) → ltb n (2 ^ 31) ≡ b → cond {A = Result ℤ Cause} b (Ok (pos n)) (Err (bare BadNumber)) ≡ Ok v
          → (signed_decimal v ≡ ds) × FitsSigned w32 v
      by true test q =
          let below = ltb-true n (2 ^ 31) test in
          let same : pos n ≡ v = cc in
          let fits : FitsSigned w32 (pos n) = record { sfits = below } in
          (ap signed_decimal (sym same) ∙ (plain-found ds n is).0, subst (FitsSigned w32) same fits)
      by false test q = absurd cc

pub signed-found : (t : List ℕ) (v : ℤ) → signed_at t ≡ Ok v → (signed_decimal v ≡ t) × FitsSigned w32 v
unfolding signed_at
signed-found [] v e = absurd cc
signed-found (c ∷ cs) v e = at (c == 45) refl e
  where
    at : (b : Bool) → (c == 45) ≡ b
        → cond {A = Result ℤ Cause} b (negative_at (plain_natural cs)) (positive_at (plain_natural (c ∷ cs))) ≡ Ok v
        → (signed_decimal v ≡ c ∷ cs) × FitsSigned w32 v
    at true test q =
        let found = negative-found (c ∷ cs) v cs (plain_natural cs) refl q in
        let first : 45 ≡ c = grind (arith, nat_tests) in
        (found.0 ∙ ap (λ d. d ∷ cs) first, found.1)
    at false test q = positive-found (c ∷ cs) v (c ∷ cs) (plain_natural (c ∷ cs)) refl q

-- a digit stands first
first_digit : (ds : List ℕ) → 0 < length ds → AllDigits 10 ds → (get_or ds 0 0 == 45) ≡ false
first_digit [] some h = absurd (omega arith)
first_digit (c ∷ cs) some h = at (c == 45) refl
  where
    at : (b : Bool) → (c == 45) ≡ b → (c == 45) ≡ false
    at false e = e
    at true e =
        let same : c ≡ 45 = grind (arith, nat_tests) in
        let digit : digit_value 45 < 10 = subst (λ d. digit_value d < 10) same h.0 in
        absurd (omega arith)

positive_token : (ds : List ℕ) (v : ℤ) → (get_or ds 0 0 == 45) ≡ false → 0 < length ds → positive_at (plain_natural ds) ≡ Ok v
    → signed_at ds ≡ Ok v
unfolding signed_at
positive_token [] v first some e = absurd (omega arith)
positive_token (c ∷ cs) v first some e = rw first e

pub signed-only : (v : ℤ) → FitsSigned w32 v → signed_at (signed_decimal v) ≡ Ok v
unfolding signed_at
signed-only (pos n) fits =
    let below : n < 2 ^ 31 = fits.sfits in
    let small : n < 10 ^ 10 = omega arith in
    let numeral = decimal_is_IsNumeral n (omega arith) in
    positive_token (decimal n) (pos n) (first_digit (decimal n) numeral.0.0 numeral.0.1) numeral.0.0
    (rw (plain-only n small, lt-ltb n (2 ^ 31) below) refl)
signed-only (negsuc n) fits =
    let below : n < 2 ^ 31 = fits.sfits in
    let small : suc n < 10 ^ 10 = omega arith in
    let low : 1 ≤ suc n = omega arith in
    let high : suc n ≤ 2 ^ 31 = omega arith in
    rw (plain-only (suc n) small, le-leb 1 (suc n) low, le-leb (suc n) (2 ^ 31) high) refl
