-- What a coding loads.
use Rattle.std.proofs.Common.{◌≡◌, ℕ, zero, suc, ◌+◌, ◌*◌, ◌/◌, ◌%◌, ◌^◌, ◌<◌, ◌-◌, ℤ, pos, negsuc, true, [], ◌∷◌, All, refl, ap, ◌∙◌}
use Rattle.std.proofs.Common.{arith}
use Rattle.std.specs.Int.{w32}
use Rattle.std.specs.Int.RustNames.{FitsSigned}
use Rattle.std.proofs.Math.Nat.{pow-suc}
use Rattle.std.proofs.lemmas.List.Sums.{fold-append}
use Rattle.std.proofs.lemmas.List.Elements.{All-nil, All-push, All-same}
use Rattle.tn_isa.specs.declared.functions.Fun.{Fun}
use Rattle.tn_isa.specs.declared.functions.Fun.TheVariants.{Pfix, Nfix}
use Rattle.tn_isa.specs.OperandRegister.{is_prefix, IsCoded, IsPrefix, loaded, shifted, operand_after, register_after}
use Rattle.tn_prefix.specs.Coding.{instruction, coding_up_to, unsigned_coding, coding}
use Rattle.tn_prefix.specs.Operand.{LoadsAll, word_of}
use Rattle.tn_prefix.proofs.Instructions.{instruction-below, instruction-low, function_of-instruction}
use Rattle.tn_prefix.proofs.Cases.{by_lt}
use Rattle.tn_prefix.proofs.Codings.{coding_up_to-small, coding_up_to-large, All-coding_up_to, coding_prefixes, coding_prefixes-small}
use Rattle.tn_prefix.proofs.Codings.{coding_prefixes-large, coding_prefixes-negative, low_bits, coding-prefixes}

-- what an instruction's byte leaves in the register where the function sees x
operand_after-instruction : (register : ℕ) (f : Fun) (n x : ℕ) → (register / 16) * 16 + n % 16 ≡ x
    → operand_after register (instruction f n) ≡ shifted f x
operand_after-instruction register f n x h =
    let seen : loaded register (instruction f n) ≡ x = omega (arith, instruction-low f n) in
    ap (λ g. shifted g (loaded register (instruction f n))) (function_of-instruction f n) ∙ ap (shifted f) seen

-- a byte of pfix or nfix is a prefix, whatever its bits are
IsPrefix-instruction : (f : Fun) (n : ℕ) → is_prefix f ≡ true → IsPrefix (instruction f n)
IsPrefix-instruction f n h = ap is_prefix (function_of-instruction f n) ∙ h

-- a coding of pfix or nfix is prefix bytes
pub IsPrefix-coding_up_to : (more : ℕ) (f : Fun) (n : ℕ) → is_prefix f ≡ true → All IsPrefix (coding_up_to more f n)
IsPrefix-coding_up_to more f n h =
    All-coding_up_to IsPrefix (λ m. IsPrefix-instruction Pfix m refl) more f n (λ m. IsPrefix-instruction f m h)

-- which leave in the register what the function makes of the whole operand
pub register_after-coding_up_to : (more : ℕ) (f : Fun) (n : ℕ) → n < 16 ^ suc more → n < 2 ^ 32
    → register_after 0 (coding_up_to more f n) ≡ shifted f n
register_after-coding_up_to zero f n h below =
    let small : n < 16 = omega (arith, pow-suc 16 0) in
    ap (register_after 0) (coding_up_to-small 0 f n small) ∙ operand_after-instruction 0 f n n (omega arith)
register_after-coding_up_to (suc more) f n h below =
    by_lt n 16
    (λ small. ap (register_after 0) (coding_up_to-small (suc more) f n small) ∙ operand_after-instruction 0 f n n (omega arith))
    (λ large. let less : n / 16 < 16 ^ suc more = omega (arith, pow-suc 16 (suc more)) in
    let high : register_after 0 (coding_up_to more Pfix (n / 16)) ≡ (n / 16) * 16 =
    register_after-coding_up_to more Pfix (n / 16) less (omega arith) ∙ omega arith in
    ap (register_after 0) (coding_up_to-large more f n large)
    ∙ (fold-append operand_after 0 (coding_up_to more Pfix (n / 16)) (instruction f n ∷ [])
    ∙ operand_after-instruction (register_after 0 (coding_up_to more Pfix (n / 16))) f n n (omega arith)))

-- the prefix bytes of an operand are prefix bytes
pub IsPrefix-coding_prefixes : (e : ℤ) → All IsPrefix (coding_prefixes e)
IsPrefix-coding_prefixes (pos n) = by_lt n 16
    (λ small. All-same IsPrefix (coding_prefixes (pos n)) [] (coding_prefixes-small n small) (All-nil IsPrefix))
    (λ large. All-same IsPrefix (coding_prefixes (pos n)) (unsigned_coding Pfix (n / 16)) (coding_prefixes-large n large)
    (IsPrefix-coding_up_to 7 Pfix (n / 16) refl))
IsPrefix-coding_prefixes (negsuc n) =
    All-same IsPrefix (coding_prefixes (negsuc n)) (unsigned_coding Nfix (n / 16)) (coding_prefixes-negative n)
    (IsPrefix-coding_up_to 7 Nfix (n / 16) refl)

-- they leave all but the low four bits in the register
pub register_after-coding_prefixes : (e : ℤ) → FitsSigned w32 e → register_after 0 (coding_prefixes e) ≡ (word_of e / 16) * 16
register_after-coding_prefixes (pos n) h =
    let fits : n < 2 ^ 31 = h.sfits in
    by_lt n 16
    (λ small. ap (register_after 0) (coding_prefixes-small n small) ∙ omega arith)
    (λ large. ap (register_after 0) (coding_prefixes-large n large)
    ∙ (register_after-coding_up_to 7 Pfix (n / 16) (omega arith) (omega arith) ∙ omega arith))
register_after-coding_prefixes (negsuc n) h =
    let fits : n < 2 ^ 31 = h.sfits in
    ap (register_after 0) (coding_prefixes-negative n) ∙ (register_after-coding_up_to 7 Nfix (n / 16) (omega arith) (omega arith)
    ∙ omega arith)

-- its low four bits are those of the word
low_bits-word_of : (e : ℤ) → FitsSigned w32 e → low_bits e ≡ word_of e % 16
low_bits-word_of (pos n) h = refl
low_bits-word_of (negsuc n) h =
    let fits : n < 2 ^ 31 = h.sfits in omega arith

-- the last byte of a coding sees the operand modulo 2 ^ 32
pub loaded-coding_prefixes : (f : Fun) (e : ℤ) → FitsSigned w32 e
    → loaded (register_after 0 (coding_prefixes e)) (instruction f (low_bits e)) ≡ word_of e
loaded-coding_prefixes f e h =
    let high = register_after-coding_prefixes e h in
    let low = instruction-low f (low_bits e) in
    let bits = low_bits-word_of e h in
    omega arith

-- a coding, all of it, loads the operand modulo 2 ^ 32 into its function
pub LoadsAll-coding : (f : Fun) (e : ℤ) → FitsSigned w32 e → IsCoded f → LoadsAll (coding f e) f (word_of e)
LoadsAll-coding f e h coded = record {
  prefixes = coding_prefixes e;
  last = instruction f (low_bits e);
  parts = coding-prefixes f e h;
  before = IsPrefix-coding_prefixes e;
  names = function_of-instruction f (low_bits e);
  executes = coded;
  sees = loaded-coding_prefixes f e h;
}

-- the numbers of a coding are bytes
bytes : (more : ℕ) (f : Fun) (n : ℕ) → All (λ byte. byte < 256) (coding_up_to more f n)
bytes more f n = All-coding_up_to (λ byte. byte < 256) (λ m. instruction-below Pfix m) more f n (λ m. instruction-below f m)

-- and so of an operand's coding
pub IsByte-coding : (f : Fun) (e : ℤ) → All (λ byte. byte < 256) (coding f e)
unfolding coding
IsByte-coding f (pos n) = bytes 7 f n
IsByte-coding f (negsuc n) =
    All-push (λ byte. byte < 256) (unsigned_coding Nfix (n / 16)) (instruction f (15 - n % 16)) (bytes 7 Nfix (n / 16))
    (instruction-below f (15 - n % 16))
