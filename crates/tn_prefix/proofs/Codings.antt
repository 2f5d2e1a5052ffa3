-- The coding of an operand, byte by byte.
use Rattle.std.proofs.Common.{◌≡◌, ℕ, zero, suc, ◌+◌, ◌*◌, ◌/◌, ◌%◌, ◌^◌, ◌<◌, ◌≤◌, ◌-◌, ℤ, pos, negsuc, if◌then◌else◌, true, false, cond}
use Rattle.std.proofs.Common.{List, [], ◌∷◌, ◌++◌, All, length, nat_lt, refl, sym, ap, ◌∙◌, length-append, append_assoc, arith}
use Rattle.std.proofs.Math.Nat.{pow-suc}
use Rattle.tn_prefix.proofs.Cases.{by_lt}
use Rattle.std.specs.Int.{w32}
use Rattle.std.specs.Int.RustNames.{FitsSigned}
use Rattle.std.proofs.lemmas.Bool.{cond-true, cond-false, lt-ltb, le-ltb}
use Rattle.std.proofs.lemmas.List.Elements.{All-nil, All-cons, All-push, All-same}
use Rattle.std.proofs.lemmas.Bool.Decides.{nat_tests}
use Rattle.tn_isa.specs.declared.functions.Fun.{Fun}
use Rattle.tn_isa.specs.declared.functions.Fun.TheVariants.{Pfix, Nfix}
use Rattle.tn_isa.specs.Functions.{code_of}
use Rattle.tn_prefix.specs.Coding.{instruction, coding_up_to, unsigned_coding, coding}

-- with no prefix allowed there is none
pub coding_up_to-zero : (f : Fun) (n : ℕ) → coding_up_to 0 f n ≡ instruction f n ∷ []
unfolding coding_up_to
coding_up_to-zero f n = refl

-- four bits need no prefix
pub coding_up_to-small : (more : ℕ) (f : Fun) (n : ℕ) → n < 16 → coding_up_to more f n ≡ instruction f n ∷ []
unfolding coding_up_to
coding_up_to-small zero f n h = refl
coding_up_to-small (suc more) f n h = grind (arith, nat_tests)

-- more bits need one
pub coding_up_to-large : (more : ℕ) (f : Fun) (n : ℕ) → 16 ≤ n → coding_up_to (suc more) f n ≡ coding_up_to more Pfix (n / 16)
    ++ instruction f n ∷ []
unfolding coding_up_to
coding_up_to-large more f n h = grind (arith, nat_tests)

-- a place for one more prefix changes nothing where there are enough
pub coding_up_to-more : (more : ℕ) (f : Fun) (n : ℕ) → n < 16 ^ suc more → coding_up_to (suc more) f n ≡ coding_up_to more f n
coding_up_to-more zero f n h =
    let small : n < 16 = omega (arith, pow-suc 16 0) in
    coding_up_to-small 1 f n small ∙ sym (coding_up_to-small 0 f n small)
coding_up_to-more (suc more) f n h =
    by_lt n 16
    (λ small. coding_up_to-small (suc (suc more)) f n small ∙ sym (coding_up_to-small (suc more) f n small))
    (λ large. let less : n / 16 < 16 ^ suc more = omega (arith, pow-suc 16 (suc more)) in
    coding_up_to-large (suc more) f n large ∙ (ap (λ bytes. bytes ++ instruction f n ∷ []) (coding_up_to-more more Pfix (n / 16) less)
    ∙ sym (coding_up_to-large more f n large)))

-- the rule of coding for an operand of four bits
pub coding-small : (f : Fun) (n : ℕ) → n < 16 → coding f (pos n) ≡ instruction f n ∷ []
unfolding coding
coding-small f n h = coding_up_to-small 7 f n h

-- the rule for an unsigned number of more bits
pub unsigned_coding-large : (f : Fun) (n : ℕ) → 16 ≤ n → n < 2 ^ 32
    → unsigned_coding f n ≡ unsigned_coding Pfix (n / 16) ++ instruction f n ∷ []
unsigned_coding-large f n h below =
    let less : n / 16 < 16 ^ 7 = omega arith in
    coding_up_to-large 6 f n h ∙ ap (λ bytes. bytes ++ instruction f n ∷ []) (sym (coding_up_to-more 6 Pfix (n / 16) less))

-- and of an operand
pub coding-large : (f : Fun) (n : ℕ) → 16 ≤ n → n < 2 ^ 32 → coding f (pos n) ≡ coding Pfix (pos (n / 16)) ++ instruction f n ∷ []
unfolding coding
coding-large f n h below = unsigned_coding-large f n h below

-- the rule for a negative operand, whose complement is n
pub coding-negative : (f : Fun) (n : ℕ) → coding f (negsuc n) ≡ coding Nfix (pos (n / 16)) ++ instruction f (15 - n % 16) ∷ []
unfolding coding
coding-negative f n = refl

-- an operand that is not negative is coded as the unsigned number
pub coding-natural : (f : Fun) (n : ℕ) → coding f (pos n) ≡ unsigned_coding f n
unfolding coding
coding-natural f n = refl

-- an unsigned number of four bits takes one byte
pub unsigned_coding-small : (f : Fun) (n : ℕ) → n < 16 → unsigned_coding f n ≡ instruction f n ∷ []
unsigned_coding-small f n h = coding_up_to-small 7 f n h

-- a larger one takes one more than what its prefix takes
pub length-unsigned_coding-large : (f : Fun) (n : ℕ) → 16 ≤ n → n < 2 ^ 32
    → length (unsigned_coding f n) ≡ length (unsigned_coding Pfix (n / 16)) + 1
length-unsigned_coding-large f n h below = ap length (unsigned_coding-large f n h below)
    ∙ length-append (unsigned_coding Pfix (n / 16)) (instruction f n ∷ [])

-- a step of what appends a coding
pub ruleset push_steps = (unsigned_coding-small, unsigned_coding-large, length-unsigned_coding-large, append_assoc, length-append)

-- what holds of the bytes of pfix, and of those of f, holds of each byte of a coding
pub All-coding_up_to : (P : ℕ → Type 0) → ((n : ℕ) → P (instruction Pfix n)) → (more : ℕ) (f : Fun) (n : ℕ)
    → ((m : ℕ) → P (instruction f m)) → All P (coding_up_to more f n)
All-coding_up_to P prefix zero f n last =
    All-same P (coding_up_to 0 f n) (instruction f n ∷ []) (coding_up_to-zero f n) (All-cons P (instruction f n) [] (last n) (All-nil P))
All-coding_up_to P prefix (suc more) f n last =
    by_lt n 16
    (λ small. All-same P (coding_up_to (suc more) f n) (instruction f n
    ∷ []) (coding_up_to-small (suc more) f n small) (All-cons P (instruction f n) [] (last n) (All-nil P)))
    (λ large. All-same P (coding_up_to (suc more) f n) (coding_up_to more Pfix (n / 16) ++ instruction f n
    ∷ []) (coding_up_to-large more f n large)
    (All-push P (coding_up_to more Pfix (n / 16)) (instruction f n) (All-coding_up_to P prefix more Pfix (n / 16) prefix) (last n)))

-- the prefix bytes of an operand, which are the same for each function
unfoldable pub coding_prefixes : ℤ → List ℕ
coding_prefixes (pos n) = if nat_lt n 16 then [] else unsigned_coding Pfix (n / 16)
coding_prefixes (negsuc n) = unsigned_coding Nfix (n / 16)

-- an operand of four bits has none
pub coding_prefixes-small : (n : ℕ) → n < 16 → coding_prefixes (pos n) ≡ []
unfolding coding_prefixes
coding_prefixes-small n h = cond-true (nat_lt n 16) [] (unsigned_coding Pfix (n / 16)) (lt-ltb n 16 h)

-- one of more bits has the coding of pfix with the rest
pub coding_prefixes-large : (n : ℕ) → 16 ≤ n → coding_prefixes (pos n) ≡ unsigned_coding Pfix (n / 16)
unfolding coding_prefixes
coding_prefixes-large n h = cond-false (nat_lt n 16) [] (unsigned_coding Pfix (n / 16)) (le-ltb n 16 h)

-- a negative one has the coding of nfix with the rest of its complement
pub coding_prefixes-negative : (n : ℕ) → coding_prefixes (negsuc n) ≡ unsigned_coding Nfix (n / 16)
unfolding coding_prefixes
coding_prefixes-negative n = refl

-- an operand's low four bits
abbrev pub low_bits : ℤ → ℕ
low_bits (pos n) = n % 16
low_bits (negsuc n) = 15 - n % 16

-- a coding is the operand's prefix bytes and then the function's byte with its low four bits
pub coding-prefixes : (f : Fun) (e : ℤ) → FitsSigned w32 e → coding f e ≡ coding_prefixes e ++ instruction f (low_bits e) ∷ []
coding-prefixes f (pos n) h =
    let fits : n < 2 ^ 31 = h.sfits in
    let twice : n % 16 ≡ n % 16 % 16 = omega arith in
    let same = ap (λ low. (code_of f * 16 + low) ∷ []) twice in
    by_lt n 16
    (λ small. rw (coding_prefixes-small n small) (coding-small f n small ∙ same))
    (λ large. rw (coding_prefixes-large n large) (coding-large f n large (omega arith)
    ∙ (rw (coding-natural Pfix (n / 16)) (ap (λ bytes. unsigned_coding Pfix (n / 16) ++ bytes) same))))
coding-prefixes f (negsuc n) h = coding-negative f n ∙ rw (coding-natural Nfix (n / 16), coding_prefixes-negative n)
