-- Bits of words.
use Rattle.std.proofs.Common.{◌≡◌, ◌≢◌, ℕ, zero, suc, ◌+◌, ◌-◌, ◌*◌, ◌/◌, ◌%◌, ◌^◌, ◌<◌, ◌≤◌, ◌==◌, ◌⊎◌, inl, inr, Bool, true, false}
use Rattle.std.proofs.Common.{List, replicate, length, get_or, set, get_or-set_same, get_or-set_other, refl, sym, ap, subst, ◌∙◌}
use Rattle.std.proofs.Common.{arith, add-one, w64}
use native.Mathlib.Nat.{pow-succ', div-eq_of_lt-le}
use Rattle.std.specs.Prelude.{bit_and, if◌then◌else◌}
use Rattle.std.specs.Int.{bit_at, trailing_zeros}
use Rattle.std.proofs.lemmas.Bool.{cases_eq, cases_lt}
use Rattle.std.proofs.lemmas.Bool.Decides.{nat_tests}
use Rattle.std.proofs.lemmas.Nat.Bits.{shr_and_one, bit_at-zero, bit_at_set_same, bit_at_set_other, bit_at_clear_same, bit_at_clear_other}
use Rattle.std.proofs.lemmas.Nat.Bits.{bit_at-trailing_zeros, bit_at_above, bit_at-lt}
use Rattle.tn_network.specs.Inner.PickBits.{has_bit, with_bit, NoBit, IsFirstBit, IsLastBit}

abbrev pub bit_of : Bool → ℕ
bit_of true = 1
bit_of false = 0

with_bit-same : (word k : ℕ) (on : Bool) → k < 64 → bit_at (with_bit word k on) k ≡ bit_of on
with_bit-same word k true within = bit_at_set_same w64 word k within
with_bit-same word k false within = bit_at_clear_same w64 word k within

with_bit-other : (word k : ℕ) (on : Bool) (i : ℕ) → k < 64 → i < 64 → i ≢ k → bit_at (with_bit word k on) i ≡ bit_at word i
with_bit-other word k true i within small apart = bit_at_set_other w64 word k within i apart
with_bit-other word k false i within small apart = bit_at_clear_other w64 word k within i small apart

tells : (on : Bool) → bit_of on == 1 ≡ on
tells true = refl
tells false = refl

pub has_bit-read : (words : List ℕ) (k : ℕ) → bit_and (get_or words (k / 64) 0 / 2 ^ (k % 64)) 1 == 1 ≡ has_bit words k
unfolding has_bit
has_bit-read words k = ap (λ b. b == 1) (shr_and_one (get_or words (k / 64) 0) (k % 64))

-- words with a bit set, or cleared, have it so, and the others as before
pub has_bit-set : (words : List ℕ) (k : ℕ) (on : Bool) (j : ℕ) → k < 64 * length words
    → has_bit (set words (k / 64) (with_bit (get_or words (k / 64) 0) (k % 64) on)) j ≡ (if j == k then on else has_bit words j)
unfolding has_bit
has_bit-set words k on j within = elim (cases_eq j k) [
  | inl same ↦
      let test : j == k ≡ true = grind (arith, nat_tests) in
      let here : get_or (set words (k / 64) (with_bit (get_or words (k / 64) 0) (k % 64) on)) (k / 64) 0
      ≡ with_bit (get_or words (k / 64) 0) (k % 64) on = get_or-set_same words (k / 64) _ 0 (omega arith) in
      rw (test, same, here, with_bit-same (get_or words (k / 64) 0) (k % 64) on (omega arith)) (tells on)
  | inr apart ↦
      let test : j == k ≡ false = grind (arith, nat_tests) in
      rw test (ap (λ b. b == 1) (elim (cases_eq (j / 64) (k / 64)) [
        | inl place ↦
            let here : get_or (set words (k / 64) (with_bit (get_or words (k / 64) 0) (k % 64) on)) (k / 64) 0
            ≡ with_bit (get_or words (k / 64) 0) (k % 64) on = get_or-set_same words (k / 64) _ 0 (omega arith) in
            let other : j % 64 ≢ k % 64 = λ e. apart (omega arith) in
            rw (place, here) (with_bit-other (get_or words (k / 64) 0) (k % 64) on (j % 64) (omega arith) (omega arith) other)
        | inr places ↦ rw (get_or-set_other words (k / 64) (j / 64) (with_bit (get_or words (k / 64) 0) (k % 64) on) 0 places) refl
      ]))
]

-- a word that is 0 has no bit
pub has_bit-none : (words : List ℕ) (j : ℕ) → get_or words (j / 64) 0 ≡ 0 → has_bit words j ≡ false
unfolding has_bit
has_bit-none words j none = rw (none, bit_at-zero (j % 64)) refl

-- the lowest bit of a word
pub has_bit-lowest : (words : List ℕ) (place : ℕ) → 0 < get_or words place 0 → get_or words place 0 < 2 ^ 64
    → (trailing_zeros w64 (get_or words place 0) < 64) × (has_bit words (64 * place + trailing_zeros w64 (get_or words place 0)) ≡ true)
    × ((j : ℕ) → 64 * place ≤ j → j < 64 * place + trailing_zeros w64 (get_or words place 0) → has_bit words j ≡ false)
unfolding has_bit
has_bit-lowest words place some small =
    let low = bit_at-trailing_zeros w64 (get_or words place 0) some small in
    let at : ℕ = trailing_zeros w64 (get_or words place 0) in
    let here : (64 * place + trailing_zeros w64 (get_or words place 0)) / 64 ≡ place = omega (arith, low.0) in
    let there : (64 * place + trailing_zeros w64 (get_or words place 0)) % 64 ≡ trailing_zeros w64 (get_or words place 0) =
    omega (arith, low.0) in (
      low.0,
      rw (here, there, low.1) refl,
      λ j above below.
          let word : j / 64 ≡ place = omega (arith, low.0) in
          let rest : j % 64 < trailing_zeros w64 (get_or words place 0) = omega (arith, low.0) in
          rw (word, low.2 (j % 64) rest) refl,
    )

-- the highest, which is that of the greatest power in it
pub has_bit-highest : (words : List ℕ) (place top : ℕ) → 2 ^ top ≤ get_or words place 0 → get_or words place 0 < 2 * 2 ^ top → top < 64
    → (has_bit words (64 * place + top) ≡ true) × ((j : ℕ) → 64 * place + top < j → j < 64 * (place + 1) → has_bit words j ≡ false)
unfolding has_bit
has_bit-highest words place top least most small =
    let here : (64 * place + top) / 64 ≡ place = omega arith in
    let there : (64 * place + top) % 64 ≡ top = omega arith in
    let one : get_or words place 0 / 2 ^ top ≡ 1 = quotient (get_or words place 0) (2 ^ top) least most in (
      rw (here, there, one) refl,
      λ j above below.
          let word : j / 64 ≡ place = omega arith in
          let rest : top < j % 64 = omega arith in
          let none : bit_at (get_or words place 0) (j % 64) ≡ 0 =
          bit_at_above (get_or words place 0) (top + 1) (j % 64) (subst (λ (x : ℕ). get_or words place 0 < x) (sym
          (doubled top)) most) (omega arith) in
          rw (word, none) refl,
    )
  where
    quotient : (n d : ℕ) → d ≤ n → n < 2 * d → n / d ≡ 1
    quotient n d least most = div-eq_of_lt-le {k = 1} d (omega arith) (omega arith)

    doubled : (k : ℕ) → 2 ^ (k + 1) ≡ 2 * 2 ^ k
    doubled k = rw add-one (pow-succ' 2 k)

-- ---- the first word, and the last, that is not 0

pub first-found : (words : List ℕ) (place at : ℕ) → place < length words → 0 < get_or words place 0 → get_or words place 0 < 2 ^ 64
    → at ≡ trailing_zeros w64 (get_or words place 0) → ((j : ℕ) → j < place → get_or words j 0 ≡ 0) → IsFirstBit words (64 * place + at)
first-found words place at within some small is none =
    let low = has_bit-lowest words place some small in
    record {
      within = omega (arith, low.0);
      here = rw is low.1;
      before = λ j below. elim (cases_lt (j / 64) place) [
        | inl before ↦ has_bit-none words j (none (j / 64) before)
        | inr from ↦ low.2 j (omega arith) (omega arith)
      ];
    }

pub last-found : (words : List ℕ) (place top : ℕ) → place < length words → 2 ^ top ≤ get_or words place 0
    → get_or words place 0 < 2 * 2 ^ top → top < 64
    → ((j : ℕ) → place < j → j < length words → get_or words j 0 ≡ 0) → IsLastBit words (64 * place + top)
last-found words place top within least most small none =
    let high = has_bit-highest words place top least most small in
    record {
      within = omega arith;
      here = high.0;
      behind = λ j above inside. elim (cases_lt place (j / 64)) [
        | inl behind ↦ has_bit-none words j (none (j / 64) behind (omega arith))
        | inr from ↦ high.1 j above (omega arith)
      ];
    }

pub none-found : (words : List ℕ) → ((j : ℕ) → j < length words → get_or words j 0 ≡ 0) → NoBit words
none-found words none k within = has_bit-none words k (none (k / 64) (omega arith))

-- words that are all 0 have no bit
replicate-get : (n j : ℕ) → ◌≡◌ {A = ℕ} (get_or (replicate n 0) j 0) 0
replicate-get zero j = refl
replicate-get (suc n) zero = refl
replicate-get (suc n) (suc j) = replicate-get n j

pub zeros-clear : (n k : ℕ) → has_bit (replicate n 0) k ≡ false
zeros-clear n k = has_bit-none (replicate n 0) k (replicate-get n (k / 64))
