-- What is read of a memory in which the bytes at some of the addresses are below 2 ^ 8.
use Rattle.std.specs.Prelude.{◌≡◌, ℕ, zero, suc, ◌+◌, ◌-◌, ◌^◌, ◌<◌, ◌≤◌, ⊤, List, [], ◌∷◌, length, slice_index, Bool, true}
use Rattle.std.specs.Prelude.{false, nat_lt, refl}
use Rattle.std.specs.Int.{w32, to_le_bytes, from_le_bytes}
use Rattle.std.proofs.Common.{add-zero, arith}
use Rattle.std.proofs.lemmas.List.{places, get_or_past, take-append-drop}
use Rattle.std.proofs.lemmas.Bool.Decides.{nat_tests}
use Rattle.tn_mem.specs.Memories.{most_neg, reachable, allows_block, put, block}
use Rattle.tn_mem.specs.Inner.AccessTests.{allows_block-part}

-- the byte at each reachable address of which P holds is below 2 ^ 8
pub record BytesWhere (P : ℕ → Type 0) (m : List ℕ) : Type 0 where
  pub byte : (a : ℕ) → P a → reachable (length m) a 1 ≡ true → slice_index m (a - most_neg) < 2 ^ 8

-- of any address
abbrev pub Anywhere : ℕ → Type 0
Anywhere a = ⊤

-- each element is below 2 ^ 8
abbrev pub AreBytes : List ℕ → Type 0
AreBytes bytes = (k : ℕ) → slice_index bytes k < 2 ^ 8

-- so it stays where bytes are written
pub bytes_where-put :
    (P : ℕ → Type 0) (m : List ℕ) (a : ℕ) (bytes : List ℕ) → a - most_neg + length bytes ≤ length m → length (put m a bytes) ≡ length m
    → AreBytes bytes → BytesWhere P m → BytesWhere P (put m a bytes)
unfolding put
bytes_where-put P m a bytes fits size written old =
    record {
      byte = λ x holds test.
          let here = old.byte x holds (rw (← size) test) in
          grind (arith, places, get_or_past, here, written (x - most_neg - (a - most_neg)));
    }

block-inside : (m : List ℕ) (a n k : ℕ) → most_neg ≤ a → k < n → slice_index (block m a n) k ≡ slice_index m (a + k - most_neg)
unfolding block
block-inside m a n k low below = grind (arith, places)

block-past : (m : List ℕ) (a n k : ℕ) → n ≤ k → slice_index (block m a n) k ≡ 0
unfolding block
block-past m a n k past = grind (arith, places, get_or_past)

-- a block of such bytes is one of bytes
pub bytes_where-block :
    (P : ℕ → Type 0) (m : List ℕ) (a n : ℕ) → allows_block (length m) a n ≡ true → ((k : ℕ) → k < n → P (a + k))
    → BytesWhere P m → AreBytes (block m a n)
bytes_where-block P m a n test holds old k = by_test (nat_lt k n) refl
  where
    by_test : (below : Bool) → nat_lt k n ≡ below → slice_index (block m a n) k < 2 ^ 8
    by_test true is =
        let below : k < n = grind (arith, nat_tests) in
        let low : most_neg ≤ a = grind (arith, nat_tests) in
        let part : reachable (length m) (a + k) 1 ≡ true = allows_block-part (length m) a n k 1 test (omega arith) in
        rw (block-inside m a n k low below) (old.byte (a + k) (holds k below) part)
    by_test false is =
        let past : n ≤ k = grind (arith, nat_tests) in
        rw (block-past m a n k past) (omega arith)

put-nothing : (m : List ℕ) (from to : ℕ) → put m to (block m from 0) ≡ m
unfolding put block
put-nothing m from to = rw add-zero (take-append-drop (to - most_neg) m)

long-block : (m : List ℕ) (a n : ℕ) → a - most_neg + n ≤ length m → length (block m a n) ≡ n
unfolding block
long-block m a n inside = grind (arith, places)

-- and writing one leaves such bytes
pub bytes_where-put_block :
    (P : ℕ → Type 0) (m : List ℕ) (from to n : ℕ) → length (put m to (block m from n)) ≡ length m
    → allows_block (length m) from n ≡ true → allows_block (length m) to n ≡ true → ((k : ℕ) → k < n → P (from + k))
    → BytesWhere P m → BytesWhere P (put m to (block m from n))
bytes_where-put_block P m from to zero size source target holds old = rw (put-nothing m from to) old
bytes_where-put_block P m from to (suc n) size source target holds old =
    let long : length (block m from (suc n)) ≡ suc n = long-block m from (suc n) (grind (arith, nat_tests)) in
    let inside : to - most_neg + length (block m from (suc n)) ≤ length m = rw long (grind (arith, nat_tests)) in
    bytes_where-put P m to (block m from (suc n)) inside size (bytes_where-block P m from (suc n) source holds old) old

pub below_word : (m : List ℕ) (a : ℕ) → AreBytes (block m a 4) → from_le_bytes w32 (block m a 4) < 2 ^ 32
below_word m a are = omega (arith, are 0, are 1, are 2, are 3)

pub bytes-byte : (v : ℕ) → v < 2 ^ 8 → AreBytes (v ∷ [])
bytes-byte v fits = λ k. grind (arith, places, get_or_past)

pub bytes-word : (w : ℕ) → AreBytes (to_le_bytes w32 w)
bytes-word w = λ k. grind (arith, places, get_or_past)
