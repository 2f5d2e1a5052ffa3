-- What the tests of accesses say, and what a refusal depends on.
use Rattle.std.specs.Prelude.{◌≡◌, ◌≢◌, ℕ, ◌+◌, ◌-◌, ◌%◌, ◌^◌, ◌<◌, ◌≤◌, Bool, true, false, ◌&&◌, if◌then◌else◌, Some, Ok, refl}
use Rattle.std.proofs.Common.{arith}
use Rattle.std.specs.Result.{result_err}
use Rattle.std.proofs.lemmas.Bool.Decides.{nat_tests}
use Rattle.tn_mem.specs.declared.touches.Touch.TheVariants.{Outside}
use Rattle.tn_mem.specs.Spaces.{first_refusal}
use Rattle.tn_mem.specs.Memories.{most_neg, reachable, allows_block, allows_word, answer_if}
use Rattle.tn_mem.specs.Guards.{meets}

-- a block that is reachable lies inside the memory, above word 8
pub fits-reachable : (size a n : ℕ) → reachable size a n ≡ true → (most_neg + 36 ≤ a) × (a - most_neg + n ≤ size)
fits-reachable size a n test = (grind (arith, nat_tests), grind (arith, nat_tests))

pub reachable-fits :
    (size a n : ℕ) → most_neg + 36 ≤ a → a - most_neg + n ≤ size → a + n ≤ 2 ^ 32 → reachable size a n ≡ true
reachable-fits size a n lowest highest end = grind (arith, nat_tests)

-- a block that is allowed ends at 2 ^ 32 at most, unless it is empty
pub allows_block-end : (size a n : ℕ) → 0 < n → allows_block size a n ≡ true → a + n ≤ 2 ^ 32
allows_block-end size a n some test = grind (arith, nat_tests)

-- an unaligned word is not allowed
pub allows_word-unaligned : (size a : ℕ) → a % 4 ≢ 0 → allows_word size a ≡ false
allows_word-unaligned size a unaligned = grind (arith, nat_tests)

-- a word that is allowed is aligned and reachable
pub reachable-allows_word : (size a : ℕ) → allows_word size a ≡ true → (a % 4 ≡ 0) × (reachable size a 4 ≡ true)
reachable-allows_word size a test = (grind (arith, nat_tests), grind (arith, nat_tests))

pub allows_word-reachable : (size a : ℕ) → a % 4 ≡ 0 → reachable size a 4 ≡ true → allows_word size a ≡ true
allows_word-reachable size a aligned inside = grind (arith, nat_tests)

-- a part of a block that is allowed
pub allows_block-part : (size a n k j : ℕ) → allows_block size a n ≡ true → k + j ≤ n → allows_block size (a + k) j ≡ true
allows_block-part size a n k j whole within = grind (arith, nat_tests)

-- a part of a block that meets no byte of a region
pub meets-part : (from to a n k j : ℕ) → meets from to a n ≡ false → k + j ≤ n → meets from to (a + k) j ≡ false
meets-part from to a n k j apart within = grind (arith, nat_tests)

pub meets-empty : (from to a : ℕ) → meets from to a 0 ≡ false
meets-empty from to a = grind (arith, nat_tests)

-- an answer says that the access was allowed, and which answer it is
pub allowed-answer_if : {X : Type 0} (allowed : Bool) (x y : X) → answer_if allowed x ≡ Ok y → (allowed ≡ true) × (y ≡ x)
allowed-answer_if true x y e = (refl, cc)
allowed-answer_if false x y e = cc

pub answer_if-allowed : {X : Type 0} (allowed : Bool) (x : X) → allowed ≡ true → answer_if allowed x ≡ Ok x
answer_if-allowed allowed x e = rw e refl

-- a refusal doesn't depend on the answer that there would be
pub refusal-answer_if :
    {X Y : Type 0} (allowed : Bool) (x : X) (y : Y) → result_err (answer_if allowed x) ≡ result_err (answer_if allowed y)
refusal-answer_if true x y = refl
refusal-answer_if false x y = refl

-- the refusal of an access that needs two tests
pub refusal-answer_if_aligned :
    {X : Type 0} (aligned inside : Bool) (x : X)
    → result_err (answer_if (aligned && inside) x) ≡ (if aligned then result_err (answer_if inside (tt {0})) else Some Outside)
refusal-answer_if_aligned true inside x = refusal-answer_if inside x tt
refusal-answer_if_aligned false inside x = refl

pub refusal-answer_if_both :
    {X : Type 0} (source target : Bool) (x : X)
    → result_err (answer_if (source && target) x) ≡ first_refusal (result_err (answer_if source (tt {0})))
    (result_err (answer_if target (tt {0})))
refusal-answer_if_both true true x = refl
refusal-answer_if_both true false x = refl
refusal-answer_if_both false target x = refl
