-- How many bytes codings have.
use Rattle.std.proofs.Common.{◌≡◌, ℕ, zero, suc, ◌+◌, ◌-◌, ◌*◌, ◌/◌, ◌%◌, ◌^◌, ◌<◌, ◌≤◌, ℤ, pos, negsuc, Bool, true, false, List, [], ◌∷◌}
use Rattle.std.proofs.Common.{◌++◌, length, nat_lt, if◌then◌else◌, find, unwrap_or, refl, sym, ap, ◌∙◌, arith, length-append, add-one}
use Rattle.std.specs.Int.{w32}
use Rattle.std.specs.Int.RustNames.{FitsSigned}
use Rattle.std.proofs.Math.Nat.{pow-suc}
use Rattle.std.proofs.lemmas.List.{append-nil}
use Rattle.std.proofs.lemmas.Bool.{cond-true, cond-false, lt-ltb, le-ltb, ltb-true}
use Rattle.std.proofs.lemmas.Bool.Decides.{nat_tests}
use Rattle.tn_isa.specs.declared.functions.Fun.{Fun}
use Rattle.tn_isa.specs.declared.functions.Fun.TheVariants.{Pfix, Nfix}
use Rattle.tn_prefix.specs.Coding.{instruction, coding_up_to, unsigned_coding, coding, lies_within, coding_length}
use Rattle.tn_prefix.proofs.Cases.{by_lt}
use Rattle.tn_prefix.proofs.Codings.{coding_up_to-zero, coding_up_to-small, coding_up_to-large, coding-natural, coding-negative}

-- the least number of bytes from 2 to 8 that a number needs
abbrev pub least_bytes : ℕ → ℕ
least_bytes n = unwrap_or (find (λ k. nat_lt n (16 ^ k)) (2 ∷ 3 ∷ 4 ∷ 5 ∷ 6 ∷ 7 ∷ [])) 8

-- four bits take one byte
pub coding_length-small : (n : ℕ) → n < 16 → coding_length (pos n) ≡ 1
unfolding coding_length
coding_length-small n h = cond-true (nat_lt n 16) 1 (least_bytes n) (lt-ltb n 16 h)

-- more bits take what the number needs
pub coding_length-large : (n : ℕ) → 16 ≤ n → coding_length (pos n) ≡ least_bytes n
unfolding coding_length
coding_length-large n h = cond-false (nat_lt n 16) 1 (least_bytes n) (le-ltb n 16 h)

-- and a negative operand what its complement needs
pub coding_length-negative : (n : ℕ) → coding_length (negsuc n) ≡ least_bytes n
unfolding coding_length
coding_length-negative n = refl

-- which are 2 to 8
least_bytes-range : (n : ℕ) → (2 ≤ least_bytes n) × (least_bytes n ≤ 8)
least_bytes-range n = grind (arith, nat_tests)

-- they are enough
least_bytes-enough : (n : ℕ) → n < 2 ^ 32 → n < 16 ^ least_bytes n
least_bytes-enough n h = grind (arith, nat_tests)

-- less than 16 ^ k needs at most k bytes
below_2 : (n : ℕ) → n < 16 ^ 2 → least_bytes n ≤ 2
below_2 n h = grind (arith, nat_tests)

below_3 : (n : ℕ) → n < 16 ^ 3 → least_bytes n ≤ 3
below_3 n h = grind (arith, nat_tests)

below_4 : (n : ℕ) → n < 16 ^ 4 → least_bytes n ≤ 4
below_4 n h = grind (arith, nat_tests)

below_5 : (n : ℕ) → n < 16 ^ 5 → least_bytes n ≤ 5
below_5 n h = grind (arith, nat_tests)

below_6 : (n : ℕ) → n < 16 ^ 6 → least_bytes n ≤ 6
below_6 n h = grind (arith, nat_tests)

below_7 : (n : ℕ) → n < 16 ^ 7 → least_bytes n ≤ 7
below_7 n h = grind (arith, nat_tests)

-- and no fewer are
least_bytes-least : (n k : ℕ) → 2 ≤ k → n < 16 ^ k → least_bytes n ≤ k
least_bytes-least n zero two h = absurd (omega arith)
least_bytes-least n (suc zero) two h = absurd (omega arith)
least_bytes-least n (suc (suc zero)) two h = below_2 n h
least_bytes-least n (suc (suc (suc zero))) two h = below_3 n h
least_bytes-least n (suc (suc (suc (suc zero)))) two h = below_4 n h
least_bytes-least n (suc (suc (suc (suc (suc zero))))) two h = below_5 n h
least_bytes-least n (suc (suc (suc (suc (suc (suc zero)))))) two h = below_6 n h
least_bytes-least n (suc (suc (suc (suc (suc (suc (suc zero))))))) two h = below_7 n h
least_bytes-least n (suc (suc (suc (suc (suc (suc (suc (suc k)))))))) two h = omega (arith, (least_bytes-range n).1)

-- 1 to 8 bytes
pub coding_length-range : (e : ℤ) → (0 < coding_length e) × (coding_length e ≤ 8)
coding_length-range (pos n) = by_lt n 16
    (λ small. rw (coding_length-small n small) (omega arith, omega arith))
    (λ large. rw (coding_length-large n large) (omega (arith, (least_bytes-range n).0), (least_bytes-range n).1))
coding_length-range (negsuc n) = rw (coding_length-negative n) (omega (arith, (least_bytes-range n).0), (least_bytes-range n).1)

-- from 2 on, no number of bytes is enough that is less
pub coding_length-least : (e : ℤ) (k : ℕ) → 2 ≤ k → lies_within (16 ^ k) e ≡ true → coding_length e ≤ k
coding_length-least (pos n) k two h = by_lt n 16
    (λ small. omega (arith, coding_length-small n small))
    (λ large. rw (coding_length-large n large) (least_bytes-least n k two (ltb-true n (16 ^ k) h)))
coding_length-least (negsuc n) k two h = rw (coding_length-negative n) (least_bytes-least n k two (ltb-true n (16 ^ k) h))

-- and that number of bytes is enough
pub coding_length-enough : (e : ℤ) → FitsSigned w32 e → 1 < coding_length e → lies_within (16 ^ coding_length e) e ≡ true
coding_length-enough (pos n) h more = by_lt n 16
    (λ small. absurd (omega (arith, coding_length-small n small)))
    (λ large. let fits : n < 2 ^ 31 = h.sfits in
    rw (coding_length-large n large) (lt-ltb n (16 ^ least_bytes n) (least_bytes-enough n (omega arith))))
coding_length-enough (negsuc n) h more =
    let fits : n < 2 ^ 31 = h.sfits in
    rw (coding_length-negative n) (lt-ltb n (16 ^ least_bytes n) (least_bytes-enough n (omega arith)))

-- no number needs more than eight
least_bytes-high : (n : ℕ) → 2 ^ 32 ≤ n → least_bytes n ≡ 8
least_bytes-high n h = grind (arith, nat_tests)

-- an operand that is further from 0 takes no fewer bytes
least_bytes-mono : (m n : ℕ) → m ≤ n → least_bytes m ≤ least_bytes n
least_bytes-mono m n h = by_lt n (2 ^ 32)
    (λ word. least_bytes-least m (least_bytes n) (least_bytes-range n).0 (omega (arith, least_bytes-enough n word)))
    (λ over. omega (arith, (least_bytes-range m).1, least_bytes-high n over))

-- the same of an operand that is not negative
pub coding_length-mono : (m n : ℕ) → m ≤ n → coding_length (pos m) ≤ coding_length (pos n)
coding_length-mono m n h = by_lt m 16
    (λ small. rw (coding_length-small m small) (coding_length-range (pos n)).0)
    (λ large. rw (coding_length-large m large, coding_length-large n (omega arith)) (least_bytes-mono m n h))

-- and of a negative one, by its complement
pub coding_length-mono_negative : (m n : ℕ) → m ≤ n → coding_length (negsuc m) ≤ coding_length (negsuc n)
coding_length-mono_negative m n h = rw (coding_length-negative m, coding_length-negative n) (least_bytes-mono m n h)

-- a coding has no more bytes than its operand needs
length-coding_up_to_le : (more : ℕ) (f : Fun) (n k : ℕ) → n < 16 ^ suc k → length (coding_up_to more f n) ≤ suc k
length-coding_up_to_le zero f n k h = rw (coding_up_to-zero f n) (omega arith)
length-coding_up_to_le (suc more) f n zero h =
    let small : n < 16 = omega (arith, pow-suc 16 0) in
    rw (coding_up_to-small (suc more) f n small) (omega arith)
length-coding_up_to_le (suc more) f n (suc k) h = by_lt n 16
    (λ small. rw (coding_up_to-small (suc more) f n small) (omega arith))
    (λ large. rw (coding_up_to-large more f n large, length-append (coding_up_to more Pfix (n / 16)) (instruction f n ∷ []))
    (omega (arith, length-coding_up_to_le more Pfix (n / 16) k (omega (arith, pow-suc 16 (suc k))))))

-- nor fewer
below-length-coding_up_to : (more : ℕ) (f : Fun) (n : ℕ) → n < 16 ^ suc more → n < 16 ^ length (coding_up_to more f n)
below-length-coding_up_to zero f n h = rw (coding_up_to-zero f n) h
below-length-coding_up_to (suc more) f n h = by_lt n 16
    (λ small. rw (coding_up_to-small (suc more) f n small) (omega arith))
    (λ large. rw (
      coding_up_to-large more f n large,
      length-append (coding_up_to more Pfix (n / 16)) (instruction f n ∷ []),
      add-one,
      pow-suc,
    )
    (let rest = below-length-coding_up_to more Pfix (n / 16) (omega (arith, pow-suc 16 (suc more))) in omega arith))

-- it has at least one
some-length-coding_up_to : (more : ℕ) (f : Fun) (n : ℕ) → 0 < length (coding_up_to more f n)
some-length-coding_up_to zero f n = rw (coding_up_to-zero f n) (omega arith)
some-length-coding_up_to (suc more) f n = by_lt n 16
    (λ small. rw (coding_up_to-small (suc more) f n small) (omega arith))
    (λ large. rw (coding_up_to-large more f n large, length-append (coding_up_to more Pfix (n / 16)) (instruction f n ∷ [])) (omega arith))

-- the bytes of a prefix with n / 16 and one more are as many as n needs
length_behind_prefix : (more : ℕ) (f : Fun) (n : ℕ) → n < 2 ^ 32 → n / 16 < 16 ^ suc more
    → length (coding_up_to more f (n / 16)) + 1 ≡ least_bytes n
length_behind_prefix more f n word h =
    let rest = coding_up_to more f (n / 16) in
    let some = some-length-coding_up_to more f (n / 16) in
    let reach = below-length-coding_up_to more f (n / 16) h in
    let under : least_bytes n ≤ length rest + 1 =
    least_bytes-least n (length rest + 1) (omega arith) (rw (add-one, pow-suc) (omega arith)) in
    let over : length rest + 1 ≤ least_bytes n = up_to (least_bytes n) (least_bytes-range n).0 (least_bytes-enough n word) in
    omega arith
  where
    up_to : (w : ℕ) → 2 ≤ w → n < 16 ^ w → length (coding_up_to more f (n / 16)) + 1 ≤ w
    up_to zero two l = absurd (omega arith)
    up_to (suc zero) two l = absurd (omega arith)
    up_to (suc (suc k)) two l = omega (arith, length-coding_up_to_le more f (n / 16) k (omega (arith, pow-suc 16 (suc k))))

-- how many bytes a coding has
pub length-coding : (f : Fun) (e : ℤ) → FitsSigned w32 e → length (coding f e) ≡ coding_length e
length-coding f (pos n) h =
    let fits : n < 2 ^ 31 = h.sfits in
    by_lt n 16
    (λ small. rw (coding-natural f n, coding_up_to-small 7 f n small, coding_length-small n small))
    (λ large. rw (
      coding-natural f n,
      coding_up_to-large 6 f n large,
      length-append (coding_up_to 6 Pfix (n / 16)) (instruction f n ∷ []),
      coding_length-large n large,
    )
    (length_behind_prefix 6 Pfix n (omega arith) (omega arith)))
length-coding f (negsuc n) h =
    let fits : n < 2 ^ 31 = h.sfits in
    rw (
      coding-negative f n,
      coding-natural Nfix (n / 16),
      length-append (unsigned_coding Nfix (n / 16)) (instruction f (15 - n % 16)
          ∷ []),
      coding_length-negative n,
    )
    (length_behind_prefix 7 Nfix n (omega arith) (omega arith))

-- an operand that needs a prefix takes as many bytes as its complement
pub coding_length-complement : (n : ℕ) → 16 ≤ n → coding_length (pos n) ≡ coding_length (negsuc n)
coding_length-complement n h = coding_length-large n h ∙ sym (coding_length-negative n)

-- and a negative one at least as many
pub coding_length-complement_le : (n : ℕ) → coding_length (pos n) ≤ coding_length (negsuc n)
coding_length-complement_le n = by_lt n 16
    (λ small. rw (coding_length-small n small) (coding_length-range (negsuc n)).0)
    (λ large. omega (arith, coding_length-complement n large))

-- what the search takes from here for an operand by its sign
pub ruleset by_sign = (coding_length-small, coding_length-complement)

-- an unsigned number of a word takes at most eight bytes, and one of seven digits at most seven
pub length-unsigned_coding_le : (f : Fun) (n : ℕ) → n < 2 ^ 32 → length (unsigned_coding f n) ≤ 8
length-unsigned_coding_le f n h = length-coding_up_to_le 7 f n 7 h

pub length-unsigned_coding_le_7 : (f : Fun) (n : ℕ) → n < 2 ^ 28 → length (unsigned_coding f n) ≤ 7
length-unsigned_coding_le_7 f n h = length-coding_up_to_le 7 f n 6 h

-- what makes a coding of its parts
pub ruleset coding_steps = (coding-natural, coding-negative, length-unsigned_coding_le, length-unsigned_coding_le_7, append-nil)
