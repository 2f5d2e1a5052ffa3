-- What each access of a memory answers where it is allowed, and what an answer tells.
use Rattle.std.proofs.Common.{◌≡◌, ℕ, ◌+◌, ◌^◌, ◌≤◌, List, [], ◌∷◌, length, true, ◌&&◌, Ok, ◌⊎◌, arith}
use Rattle.std.specs.Int.{w32, to_le_bytes, from_le_bytes}
use Rattle.std.proofs.lemmas.Bool.Decides.{nat_tests}
use Rattle.tn_mem.specs.Memories.{most_neg, reachable, allows_block, allows_word, put, block, fetch, store_byte, load, store}
use Rattle.tn_mem.specs.Memories.{test_block, copy_block}
use Rattle.tn_mem.specs.Inner.AccessTests.{fits-reachable, reachable-fits, reachable-allows_word, allowed-answer_if, answer_if-allowed}
use Rattle.tn_mem.proofs.Puts.{IsInside, byte_at}

-- ---- tests

-- a reachable block lies in the memory
pub inside-reachable : (m : List ℕ) (a n : ℕ) → reachable (length m) a n ≡ true → IsInside m a n
inside-reachable m a n test =
    let h = fits-reachable (length m) a n test in
    record { low = omega (arith, h.0); high = omega (arith, h.0, h.1) }

-- a block that lies in a memory of at most 2 ^ 31 bytes is reachable from word 9 on
pub reachable-inside : (m : List ℕ) (a n : ℕ) → length m ≤ 2 ^ 31 → IsInside m a n → most_neg + 36 ≤ a → reachable (length m) a n ≡ true
reachable-inside m a n small inside low = reachable-fits (length m) a n low (omega arith) (omega arith)

pub inside-word : (m : List ℕ) (a : ℕ) → allows_word (length m) a ≡ true → IsInside m a 4
inside-word m a test = inside-reachable m a 4 (reachable-allows_word (length m) a test).1

pub inside-block : (m : List ℕ) (a n : ℕ) → most_neg ≤ a → a ≤ most_neg + length m → allows_block (length m) a n ≡ true → IsInside m a n
inside-block m a n low high test = record { low = low; high = grind (arith, nat_tests) }

-- a block that is allowed is empty or reachable
pub block_cases : (size a n : ℕ) → allows_block size a n ≡ true → (n ≡ 0) ⊎ (reachable size a n ≡ true)
block_cases size a n test = grind (arith, nat_tests)

-- ---- answers

pub fetch-allowed : (m : List ℕ) (a : ℕ) → reachable (length m) a 1 ≡ true → fetch m a ≡ Ok (byte_at m a)
unfolding fetch
fetch-allowed m a test = answer_if-allowed (reachable (length m) a 1) (byte_at m a) test

pub store_byte-allowed : (m : List ℕ) (a v : ℕ) → reachable (length m) a 1 ≡ true → store_byte m a v ≡ Ok (put m a (v ∷ []))
unfolding store_byte
store_byte-allowed m a v test = answer_if-allowed (reachable (length m) a 1) (put m a (v ∷ [])) test

pub load-allowed : (m : List ℕ) (a : ℕ) → allows_word (length m) a ≡ true → load m a ≡ Ok (from_le_bytes w32 (block m a 4))
unfolding load
load-allowed m a test = answer_if-allowed (allows_word (length m) a) (from_le_bytes w32 (block m a 4)) test

pub store-allowed : (m : List ℕ) (a v : ℕ) → allows_word (length m) a ≡ true → store m a v ≡ Ok (put m a (to_le_bytes w32 v))
unfolding store
store-allowed m a v test = answer_if-allowed (allows_word (length m) a) (put m a (to_le_bytes w32 v)) test

pub test_block-allowed : (m : List ℕ) (a n : ℕ) → allows_block (length m) a n ≡ true → test_block m a n ≡ Ok tt
unfolding test_block
test_block-allowed m a n test = answer_if-allowed (allows_block (length m) a n) tt test

pub copy_block-allowed :
    (m : List ℕ) (from to n : ℕ) → allows_block (length m) from n ≡ true → allows_block (length m) to n ≡ true
    → copy_block m from to n ≡ Ok (put m to (block m from n))
unfolding copy_block
copy_block-allowed m from to n source target =
    answer_if-allowed (allows_block (length m) from n && allows_block (length m) to n) (put m to (block m from n)) (rw (source, target))

-- ---- what an answer tells

pub allowed-fetch : (m : List ℕ) (a v : ℕ) → fetch m a ≡ Ok v → (reachable (length m) a 1 ≡ true) × (v ≡ byte_at m a)
unfolding fetch
allowed-fetch m a v e = allowed-answer_if (reachable (length m) a 1) (byte_at m a) v e

pub allowed-store_byte : (m n : List ℕ) (a v : ℕ) → store_byte m a v ≡ Ok n → (reachable (length m) a 1 ≡ true) × (n ≡ put m a (v ∷ []))
unfolding store_byte
allowed-store_byte m n a v e = allowed-answer_if (reachable (length m) a 1) (put m a (v ∷ [])) n e

pub allowed-load : (m : List ℕ) (a v : ℕ) → load m a ≡ Ok v → (allows_word (length m) a ≡ true) × (v ≡ from_le_bytes w32 (block m a 4))
unfolding load
allowed-load m a v e = allowed-answer_if (allows_word (length m) a) (from_le_bytes w32 (block m a 4)) v e

pub allowed-store : (m n : List ℕ) (a v : ℕ) → store m a v ≡ Ok n → (allows_word (length m) a ≡ true) × (n ≡ put m a (to_le_bytes w32 v))
unfolding store
allowed-store m n a v e = allowed-answer_if (allows_word (length m) a) (put m a (to_le_bytes w32 v)) n e

pub allowed-test_block : (m : List ℕ) (a n : ℕ) → test_block m a n ≡ Ok tt → allows_block (length m) a n ≡ true
unfolding test_block
allowed-test_block m a n e = (allowed-answer_if (allows_block (length m) a n) tt tt e).0

pub allowed-copy_block :
    (m n : List ℕ) (from to count : ℕ) → copy_block m from to count ≡ Ok n
    → (allows_block (length m) from count ≡ true) × (allows_block (length m) to count ≡ true) × (n ≡ put m to (block m from count))
unfolding copy_block
allowed-copy_block m n from to count e =
    let h = allowed-answer_if (allows_block (length m) from count && allows_block (length m) to count)
    (put m to (block m from count)) n e in
    (grind (arith, nat_tests), grind (arith, nat_tests), h.1)
