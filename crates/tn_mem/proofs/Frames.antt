-- Memories that differ in one region alone.
use Rattle.std.proofs.Common.{◌≡◌, ℕ, ◌+◌, ◌<◌, ◌≤◌, List, [], ◌∷◌, length, Bool, true, false, Ok, inl, inr, subst, refl, sym, ap}
use Rattle.std.proofs.Common.{◌∙◌, arith}
use Rattle.std.specs.Int.{w32, to_le_bytes, from_le_bytes}
use Rattle.tn_mem.specs.Memories.{most_neg, allows_word, answer_if, put, block, fetch, store_byte, load, store, copy_block}
use Rattle.tn_mem.proofs.Puts.{IsInside, byte_at, length-put, length-block, block-none, put-none, byte_at-put_below}
use Rattle.tn_mem.proofs.Puts.{byte_at-put_above, same_block}
use Rattle.tn_mem.proofs.Allowed.{block_cases, inside-reachable, inside-word, allowed-store_byte, allowed-store, allowed-copy_block}

-- n is m but for the bytes from one address up to, but not including, another
pub record Changed (m n : List ℕ) (from to : ℕ) : Type 0 where
  pub size : length n ≡ length m
  pub below : (x : ℕ) → most_neg ≤ x → x < from → byte_at n x ≡ byte_at m x
  pub above : (x : ℕ) → most_neg ≤ x → to ≤ x → byte_at n x ≡ byte_at m x

pub changed-none : (m : List ℕ) (from to : ℕ) → Changed m m from to
changed-none m from to = record { size = refl; below = λ x low h. refl; above = λ x low h. refl }

pub changed-put : (m : List ℕ) (a : ℕ) (bytes : List ℕ) → IsInside m a (length bytes) → Changed m (put m a bytes) a (a + length bytes)
changed-put m a bytes inside =
    record {
      size = length-put m a bytes inside;
      below = λ x low h. byte_at-put_below m a bytes x inside low h;
      above = λ x low h. byte_at-put_above m a bytes x inside h;
    }

pub changed-wider : (m n : List ℕ) (from to low high : ℕ) → low ≤ from → to ≤ high → Changed m n from to → Changed m n low high
changed-wider m n from to low high from_low to_high c =
    record {
      size = c.size;
      below = λ x h below. c.below x h (omega arith);
      above = λ x h above. c.above x h (omega arith);
    }

pub changed-more : (m n k : List ℕ) (from to : ℕ) → Changed m n from to → Changed n k from to → Changed m k from to
changed-more m n k from to first second =
    record {
      size = second.size ∙ first.size;
      below = λ x low h. second.below x low h ∙ first.below x low h;
      above = λ x low h. second.above x low h ∙ first.above x low h;
    }

pub changed-back : (m n : List ℕ) (from to : ℕ) → Changed m n from to → Changed n m from to
changed-back m n from to c =
    record {
      size = sym c.size;
      below = λ x low h. sym (c.below x low h);
      above = λ x low h. sym (c.above x low h);
    }

pub changed-store_byte : (m n : List ℕ) (a v : ℕ) → store_byte m a v ≡ Ok n → Changed m n a (a + 1)
changed-store_byte m n a v e =
    let h = allowed-store_byte m n a v e in rw h.1 (changed-put m a (v ∷ []) (inside-reachable m a 1 h.0))

pub changed-store : (m n : List ℕ) (a v : ℕ) → store m a v ≡ Ok n → Changed m n a (a + 4)
changed-store m n a v e =
    let h = allowed-store m n a v e in rw h.1 (changed-put m a (to_le_bytes w32 v) (inside-word m a h.0))

pub changed-copy_block : (m n : List ℕ) (from to count : ℕ) → copy_block m from to count ≡ Ok n → Changed m n to (to + count)
changed-copy_block m n from to count e =
    let h = allowed-copy_block m n from to count e in
    elim (block_cases (length m) from count h.0) [
      | inl none ↦ rw (h.2, none, block-none m from, put-none m to) (changed-none m to (to + 0))
      | inr source ↦ elim (block_cases (length m) to count h.1) [
        | inl none ↦ rw (h.2, none, block-none m from, put-none m to) (changed-none m to (to + 0))
        | inr target ↦
            let size = length-block m from count (inside-reachable m from count source) in
            let inside : IsInside m to (length (block m from count)) = rw size (inside-reachable m to count target) in
            rw h.2
            (subst (λ (k : ℕ). Changed m (put m to (block m from count)) to (to + k)) size
            (changed-put m to (block m from count) inside))
      ]
    ]

-- ---- what is read outside the region is as before

pub fetch-changed_below : (m n : List ℕ) (from to x : ℕ) → Changed m n from to → most_neg ≤ x → x < from → fetch n x ≡ fetch m x
unfolding fetch
fetch-changed_below m n from to x c low h = rw (c.size, c.below x low h) refl

pub fetch-changed_above : (m n : List ℕ) (from to x : ℕ) → Changed m n from to → most_neg ≤ x → to ≤ x → fetch n x ≡ fetch m x
unfolding fetch
fetch-changed_above m n from to x c low h = rw (c.size, c.above x low h) refl

pub block-changed_below : (m n : List ℕ) (from to x k : ℕ) → Changed m n from to → IsInside m x k → x + k ≤ from → block n x k ≡ block m x k
block-changed_below m n from to x k c inside h =
    let after : IsInside n x k = record { low = inside.low; high = omega (arith, c.size) } in
    same_block n m x x k after inside (λ i below. c.below (x + i) (omega arith) (omega arith))

pub block-changed_above : (m n : List ℕ) (from to x k : ℕ) → Changed m n from to → IsInside m x k → to ≤ x → block n x k ≡ block m x k
block-changed_above m n from to x k c inside h =
    let after : IsInside n x k = record { low = inside.low; high = omega (arith, c.size) } in
    same_block n m x x k after inside (λ i below. c.above (x + i) (omega arith) (omega arith))

-- words of memories of one length are the same where their bytes are
load-by_block : (m n : List ℕ) (x : ℕ) → length n ≡ length m → (IsInside m x 4 → block n x 4 ≡ block m x 4) → load n x ≡ load m x
unfolding load
load-by_block m n x sizes same =
    rw sizes
    (allowed (allows_word (length m) x) (from_le_bytes w32 (block n x 4)) (from_le_bytes w32 (block m x 4))
    (λ test. ap (from_le_bytes w32) (same (inside-word m x test))))
  where
    allowed : (test : Bool) (v w : ℕ) → (test ≡ true → v ≡ w) → answer_if test v ≡ answer_if test w
    allowed true v w h = ap Ok (h refl)
    allowed false v w h = refl

pub load-changed_below : (m n : List ℕ) (from to x : ℕ) → Changed m n from to → x + 4 ≤ from → load n x ≡ load m x
load-changed_below m n from to x c h = load-by_block m n x c.size (λ inside. block-changed_below m n from to x 4 c inside h)

pub load-changed_above : (m n : List ℕ) (from to x : ℕ) → Changed m n from to → to ≤ x → load n x ≡ load m x
load-changed_above m n from to x c h = load-by_block m n x c.size (λ inside. block-changed_above m n from to x 4 c inside h)
