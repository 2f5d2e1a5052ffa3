-- What a write leaves of a memory, and which blocks are read after it.
use Rattle.std.proofs.Common.{add-zero, ◌≡◌, ℕ, ◌+◌, ◌-◌, ◌<◌, ◌≤◌, List, [], ◌∷◌, ◌++◌, length, take, drop, set, slice_index}
use Rattle.std.proofs.Common.{refl, sym, ◌∙◌, arith}
use Rattle.std.proofs.lemmas.List.{places, ext_get_or, take-append-drop, set_split}
use Rattle.tn_mem.specs.Memories.{most_neg, put, block}
use Rattle.tn_mem.specs.Inner.MemoryLaws as laws

-- n bytes from an address on lie in a memory
pub record IsInside (m : List ℕ) (a n : ℕ) : Type 0 where
  pub low : most_neg ≤ a
  pub high : a + n ≤ most_neg + length m

-- the byte at an address
abbrev pub byte_at : List ℕ → ℕ → ℕ
byte_at m a = slice_index m (a - most_neg)

-- a write of one byte, by its place in the list
pub set_is_put : (m : List ℕ) (a i v : ℕ) → i ≡ a - most_neg → i < length m → set m i v ≡ put m a (v ∷ [])
unfolding put
set_is_put m a i v at below = rw (← at) (set_split m i v below ∙ grind (arith, places))

-- ---- lengths

pub length-put : (m : List ℕ) (a : ℕ) (bytes : List ℕ) → IsInside m a (length bytes) → length (put m a bytes) ≡ length m
length-put m a bytes inside = laws.length-put m a bytes (omega arith)

pub length-block : (m : List ℕ) (a n : ℕ) → IsInside m a n → length (block m a n) ≡ n
length-block m a n inside = laws.length-block m a n (omega arith)

-- ---- bytes after a write

pub byte_at-put_below :
    (m : List ℕ) (a : ℕ) (bytes : List ℕ) (x : ℕ) → IsInside m a (length bytes) → most_neg ≤ x → x < a
    → byte_at (put m a bytes) x ≡ byte_at m x
unfolding put
byte_at-put_below m a bytes x inside low below = grind (arith, places)

pub byte_at-put_above :
    (m : List ℕ) (a : ℕ) (bytes : List ℕ) (x : ℕ) → IsInside m a (length bytes) → a + length bytes ≤ x
    → byte_at (put m a bytes) x ≡ byte_at m x
unfolding put
byte_at-put_above m a bytes x inside above = grind (arith, places)

pub byte_at-put_inside :
    (m : List ℕ) (a : ℕ) (bytes : List ℕ) (k : ℕ) → IsInside m a (length bytes) → k < length bytes
    → byte_at (put m a bytes) (a + k) ≡ slice_index bytes k
unfolding put
byte_at-put_inside m a bytes k inside below = grind (arith, places)

pub byte_at-block : (m : List ℕ) (a n k : ℕ) → most_neg ≤ a → k < n → slice_index (block m a n) k ≡ byte_at m (a + k)
unfolding block
byte_at-block m a n k low below = grind (arith, places)

-- ---- equal memories and blocks, byte by byte

pub same_memory : (m n : List ℕ) → length m ≡ length n → ((x : ℕ) → most_neg ≤ x → byte_at m x ≡ byte_at n x) → m ≡ n
same_memory m n sizes bytes =
    ext_get_or 0 m n sizes (λ i below. let e : most_neg + i - most_neg ≡ i = omega arith in rw e at (bytes (most_neg + i) (omega arith)))

pub same_block :
    (m n : List ℕ) (a b k : ℕ) → IsInside m a k → IsInside n b k → ((i : ℕ) → i < k → byte_at m (a + i) ≡ byte_at n (b + i))
    → block m a k ≡ block n b k
same_block m n a b k m_inside n_inside bytes =
    ext_get_or 0 (block m a k) (block n b k) (length-block m a k m_inside ∙ sym (length-block n b k n_inside)) (λ i below.
    let within : i < k = omega (arith, length-block m a k m_inside) in
    byte_at-block m a k i m_inside.low within ∙ (bytes i within ∙ sym (byte_at-block n b k i n_inside.low within)))

-- ---- blocks after a write

pub block-put : (m : List ℕ) (a : ℕ) (bytes : List ℕ) → IsInside m a (length bytes) → block (put m a bytes) a (length bytes) ≡ bytes
unfolding put block
block-put m a bytes inside =
    ext_get_or 0 (block (put m a bytes) a (length bytes)) bytes (grind (arith, places)) (λ i below. grind (arith, places))

pub block-put_part :
    (m : List ℕ) (a : ℕ) (bytes : List ℕ) (j n : ℕ) → IsInside m a (length bytes) → j + n ≤ length bytes
    → block (put m a bytes) (a + j) n ≡ take n (drop j bytes)
unfolding put block
block-put_part m a bytes j n inside within =
    ext_get_or 0 (block (put m a bytes) (a + j) n) (take n (drop j bytes)) (grind (arith, places)) (λ i below. grind (arith, places))

pub block-put_below :
    (m : List ℕ) (a : ℕ) (bytes : List ℕ) (x n : ℕ) → IsInside m a (length bytes) → most_neg ≤ x → x + n ≤ a
    → block (put m a bytes) x n ≡ block m x n
block-put_below m a bytes x n inside low below =
    let after : IsInside (put m a bytes) x n = record { low = low; high = omega (arith, length-put m a bytes inside) } in
    let before : IsInside m x n = record { low = low; high = omega arith } in
    same_block (put m a bytes) m x x n after before (λ i within. byte_at-put_below m a bytes (x + i) inside (omega arith) (omega arith))

pub block-put_above :
    (m : List ℕ) (a : ℕ) (bytes : List ℕ) (x n : ℕ) → IsInside m a (length bytes) → a + length bytes ≤ x
    → block (put m a bytes) x n ≡ block m x n
unfolding put block
block-put_above m a bytes x n inside above =
    ext_get_or 0 (block (put m a bytes) x n) (block m x n) (grind (arith, places)) (λ i below. grind (arith, places))

-- ---- parts of blocks

pub block-none : (m : List ℕ) (a : ℕ) → block m a 0 ≡ []
unfolding block
block-none m a = refl

pub block-part : (m : List ℕ) (a n j k : ℕ) → most_neg ≤ a → j + k ≤ n → take k (drop j (block m a n)) ≡ block m (a + j) k
unfolding block
block-part m a n j k low within =
    ext_get_or 0 (take k (drop j (block m a n))) (block m (a + j) k) (grind (arith, places)) (λ i below. grind (arith, places))

pub block-append : (m : List ℕ) (a j k : ℕ) → most_neg ≤ a → block m a (j + k) ≡ block m a j ++ block m (a + j) k
unfolding block
block-append m a j k low =
    ext_get_or 0 (block m a (j + k)) (block m a j ++ block m (a + j) k) (grind (arith, places)) (λ i below. grind (arith, places))

-- ---- writes after writes

pub put-none : (m : List ℕ) (a : ℕ) → put m a [] ≡ m
unfolding put
put-none m a = rw (add-zero) (take-append-drop (a - most_neg) m)

pub put-block : (m : List ℕ) (a n : ℕ) → IsInside m a n → put m a (block m a n) ≡ m
unfolding put block
put-block m a n inside = ext_get_or 0 (put m a (block m a n)) m (grind (arith, places)) (λ i below. grind (arith, places))

pub put-put :
    (m : List ℕ) (a : ℕ) (bytes others : List ℕ) → IsInside m a (length bytes) → length others ≡ length bytes
    → put (put m a bytes) a others ≡ put m a others
unfolding put block
put-put m a bytes others inside sizes =
    ext_get_or 0 (put (put m a bytes) a others) (put m a others) (grind (arith, places)) (λ i below. grind (arith, places))

pub put-append :
    (m : List ℕ) (a : ℕ) (bytes others : List ℕ) → IsInside m a (length bytes + length others)
    → put (put m a bytes) (a + length bytes) others ≡ put m a (bytes ++ others)
unfolding put block
put-append m a bytes others inside =
    ext_get_or 0 (put (put m a bytes) (a + length bytes) others) (put m a (bytes ++ others)) (grind (arith, places))
    (λ i below. grind (arith, places))

pub put_comm :
    (m : List ℕ) (a b : ℕ) (bytes others : List ℕ) → IsInside m a (length bytes) → IsInside m b (length others) → a + length bytes ≤ b
    → put (put m a bytes) b others ≡ put (put m b others) a bytes
unfolding put block
put_comm m a b bytes others a_inside b_inside apart =
    ext_get_or 0 (put (put m a bytes) b others) (put (put m b others) a bytes) (grind (arith, places)) (λ i below. grind (arith, places))
