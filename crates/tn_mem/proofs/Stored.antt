-- What is read of a memory after a write.
use Rattle.std.proofs.Common.{add-zero, ◌≡◌, ℕ, ◌+◌, ◌^◌, ◌<◌, ◌≤◌, List, [], ◌∷◌, length, take, drop, slice_index, true, Ok, ap}
use Rattle.std.proofs.Common.{◌∙◌, refl, arith}
use Rattle.std.specs.Int.{w32, to_le_bytes, from_le_bytes}
use Rattle.std.proofs.lemmas.Nat.{from_le_bytes-to_le_bytes_4}
use Rattle.tn_mem.specs.Memories.{most_neg, reachable, allows_word, put, fetch, store_byte, load, store}
use Rattle.tn_mem.proofs.Puts.{IsInside, byte_at, length-put, byte_at-put_below, byte_at-put_above, byte_at-put_inside, block-put}
use Rattle.tn_mem.proofs.Puts.{block-put_part, block-put_below, block-put_above}
use Rattle.tn_mem.proofs.Allowed.{inside-reachable, inside-word, fetch-allowed, load-allowed, allowed-store_byte, allowed-store}

-- ---- bytes

pub fetch-put_below :
    (m : List ℕ) (a : ℕ) (bytes : List ℕ) (x : ℕ) → IsInside m a (length bytes) → most_neg ≤ x → x < a → fetch (put m a bytes) x ≡ fetch m x
unfolding fetch
fetch-put_below m a bytes x inside low below = rw (length-put m a bytes inside, byte_at-put_below m a bytes x inside low below) refl

pub fetch-put_above :
    (m : List ℕ) (a : ℕ) (bytes : List ℕ) (x : ℕ) → IsInside m a (length bytes) → a + length bytes ≤ x → fetch (put m a bytes) x ≡ fetch m x
unfolding fetch
fetch-put_above m a bytes x inside above = rw (length-put m a bytes inside, byte_at-put_above m a bytes x inside above) refl

-- a byte of what was written, where it is reachable
pub fetch-put_inside :
    (m : List ℕ) (a : ℕ) (bytes : List ℕ) (k : ℕ) → IsInside m a (length bytes) → k < length bytes → reachable (length m) (a + k) 1 ≡ true
    → fetch (put m a bytes) (a + k) ≡ Ok (slice_index bytes k)
fetch-put_inside m a bytes k inside below test =
    fetch-allowed (put m a bytes) (a + k) (rw (length-put m a bytes inside) test) ∙ ap Ok (byte_at-put_inside m a bytes k inside below)

-- a byte that was stored is there
pub fetch-store_byte : (m n : List ℕ) (a v : ℕ) → store_byte m a v ≡ Ok n → fetch n a ≡ Ok v
fetch-store_byte m n a v e =
    let h = allowed-store_byte m n a v e in
    let inside = inside-reachable m a 1 h.0 in
    let first : byte_at (put m a (v ∷ [])) a ≡ v = rw add-zero at (byte_at-put_inside m a (v ∷ []) 0 inside (omega arith)) in
    rw h.1 (fetch-allowed (put m a (v ∷ [])) a (rw (length-put m a (v ∷ []) inside) h.0) ∙ ap Ok first)

-- ---- words

pub load-put_below :
    (m : List ℕ) (a : ℕ) (bytes : List ℕ) (x : ℕ) → IsInside m a (length bytes) → most_neg ≤ x → x + 4 ≤ a
    → load (put m a bytes) x ≡ load m x
unfolding load
load-put_below m a bytes x inside low below = rw (length-put m a bytes inside, block-put_below m a bytes x 4 inside low below) refl

pub load-put_above :
    (m : List ℕ) (a : ℕ) (bytes : List ℕ) (x : ℕ) → IsInside m a (length bytes) → a + length bytes ≤ x → load (put m a bytes) x ≡ load m x
unfolding load
load-put_above m a bytes x inside above = rw (length-put m a bytes inside, block-put_above m a bytes x 4 inside above) refl

-- a word among the bytes that were written
pub load-put_part :
    (m : List ℕ) (a : ℕ) (bytes : List ℕ) (j : ℕ) → IsInside m a (length bytes) → j + 4 ≤ length bytes
    → allows_word (length m) (a + j) ≡ true → load (put m a bytes) (a + j) ≡ Ok (from_le_bytes w32 (take 4 (drop j bytes)))
load-put_part m a bytes j inside within test =
    load-allowed (put m a bytes) (a + j) (rw (length-put m a bytes inside) test) ∙ ap (λ (word : List ℕ). Ok (from_le_bytes w32 word))
    (block-put_part m a bytes j 4 inside within)

-- a word that was written is loaded
pub load-put : (m : List ℕ) (a w : ℕ) → w < 2 ^ 32 → allows_word (length m) a ≡ true → load (put m a (to_le_bytes w32 w)) a ≡ Ok w
load-put m a w in_word test =
    let inside = inside-word m a test in
    load-allowed (put m a (to_le_bytes w32 w)) a (rw (length-put m a (to_le_bytes w32 w) inside) test)
    ∙ (ap (λ (word : List ℕ). Ok (from_le_bytes w32 word)) (block-put m a (to_le_bytes w32 w) inside)
    ∙ ap Ok (from_le_bytes-to_le_bytes_4 w in_word))

-- a word that was stored is there
pub load-store : (m n : List ℕ) (a w : ℕ) → w < 2 ^ 32 → store m a w ≡ Ok n → load n a ≡ Ok w
load-store m n a w in_word e = let h = allowed-store m n a w e in rw h.1 (load-put m a w in_word h.0)

-- a word below or above one that was stored is as before
pub load-store_below : (m n : List ℕ) (a w x : ℕ) → store m a w ≡ Ok n → most_neg ≤ x → x + 4 ≤ a → load n x ≡ load m x
load-store_below m n a w x e low below =
    let h = allowed-store m n a w e in
    rw h.1 (load-put_below m a (to_le_bytes w32 w) x (inside-word m a h.0) low below)

pub load-store_above : (m n : List ℕ) (a w x : ℕ) → store m a w ≡ Ok n → a + 4 ≤ x → load n x ≡ load m x
load-store_above m n a w x e above =
    let h = allowed-store m n a w e in
    rw h.1 (load-put_above m a (to_le_bytes w32 w) x (inside-word m a h.0) above)
