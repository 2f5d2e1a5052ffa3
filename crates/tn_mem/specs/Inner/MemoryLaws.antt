-- A memory keeps the laws of spaces.
use Rattle.std.specs.Prelude.{◌≡◌, ℕ, ◌+◌, ◌-◌, ◌%◌, ◌^◌, ◌<◌, ◌≤◌, ◌==◌, ◌≢◌, Err, List, [], ◌∷◌, length, slice_index, Bool}
use Rattle.std.specs.Prelude.{true, false, ◌&&◌, Ok, is_ok, refl}
use Rattle.std.proofs.Common.{ap, ◌∙◌}
use Rattle.std.specs.Result.{result_err}
use Rattle.std.specs.Int.{w32, to_le_bytes, from_le_bytes}
use Rattle.std.proofs.lemmas.List.{places}
use Rattle.std.proofs.lemmas.Bool.Decides.{nat_tests}
use Rattle.std.proofs.Common.{arith}
use Rattle.tn_mem.specs.declared.touches.Touch.TheVariants.{Outside}
use Rattle.tn_mem.specs.Spaces.{SameExtents, ReadsBytes, IsSpace}
use Rattle.tn_mem.specs.Inner.Reads.{Anywhere, BytesWhere, bytes_where-put, bytes_where-block, bytes_where-put_block, below_word}
use Rattle.tn_mem.specs.Inner.Reads.{bytes-byte, bytes-word}
use Rattle.tn_mem.specs.Memories.{most_neg, reachable, allows_block, allows_word, put, block, fetch, store_byte, load, store}
use Rattle.tn_mem.specs.Memories.{test_block, copy_block, plain_access}
use Rattle.tn_mem.specs.Inner.AccessTests.{fits-reachable, reachable-allows_word, allows_word-reachable, allows_block-part}
use Rattle.tn_mem.specs.Inner.AccessTests.{allows_block-end, allows_word-unaligned, allowed-answer_if, answer_if-allowed}
use Rattle.tn_mem.specs.Inner.AccessTests.{refusal-answer_if, refusal-answer_if_aligned, refusal-answer_if_both}

-- a write inside a memory keeps its length
pub length-put : (m : List ℕ) (a : ℕ) (bytes : List ℕ) → a - most_neg + length bytes ≤ length m → length (put m a bytes) ≡ length m
unfolding put
length-put m a bytes fits = grind (arith, places)

-- the length of a block that lies inside a memory
pub length-block : (m : List ℕ) (a n : ℕ) → a - most_neg + n ≤ length m → length (block m a n) ≡ n
unfolding block
length-block m a n fits = grind (arith, places)

-- a copy of an allowed block over an allowed block keeps the length
length-put_block :
    (m : List ℕ) (from to n : ℕ) → allows_block (length m) from n ≡ true → allows_block (length m) to n ≡ true
    → length (put m to (block m from n)) ≡ length m
unfolding put block
length-put_block m from to n source target = grind (arith, nat_tests, places)

-- no store changes the length
pub length-store_byte : (m n : List ℕ) (a v : ℕ) → store_byte m a v ≡ Ok n → length n ≡ length m
unfolding store_byte
length-store_byte m n a v e =
    let h = allowed-answer_if (reachable (length m) a 1) (put m a (v ∷ [])) n e in
    ap length h.1 ∙ length-put m a (v ∷ []) (fits-reachable (length m) a 1 h.0).1

pub length-store : (m n : List ℕ) (a v : ℕ) → store m a v ≡ Ok n → length n ≡ length m
unfolding store
length-store m n a v e =
    let h = allowed-answer_if (allows_word (length m) a) (put m a (to_le_bytes w32 v)) n e in
    ap length h.1 ∙ length-put m a (to_le_bytes w32 v) (fits-reachable (length m) a 4 (reachable-allows_word (length m) a h.0).1).1

both_true : (a b : Bool) → a && b ≡ true → (a ≡ true) × (b ≡ true)
both_true true b e = (refl, e)
both_true false b e = cc

pub length-copy_block : (m n : List ℕ) (from to count : ℕ) → copy_block m from to count ≡ Ok n → length n ≡ length m
unfolding copy_block
length-copy_block m n from to count e =
    let h = allowed-answer_if (allows_block (length m) from count && allows_block (length m) to count)
    (put m to (block m from count)) n e in
    let both = both_true (allows_block (length m) from count) (allows_block (length m) to count) h.0 in
    ap length h.1 ∙ length-put_block m from to count both.0 both.1

-- memories of one length refuse the same accesses
pub same_by_length : (old new : List ℕ) → length new ≡ length old → SameExtents plain_access old new
unfolding fetch load test_block
same_by_length old new e =
    record {
      byte = λ a. rw e (refusal-answer_if (reachable (length old) a 1) (slice_index new (a - most_neg)) (slice_index old (a - most_neg)));
      word =
          λ a. rw e
          (refusal-answer_if (allows_word (length old) a) (from_le_bytes w32 (block new a 4)) (from_le_bytes w32 (block old a 4)));
      block = λ a n. rw e refl;
      source = λ a n. rw e refl;
    }

-- a word that may not be loaded may not be stored either, and for the same reason
pub refusal-store : (m : List ℕ) (a v : ℕ) → result_err (store m a v) ≡ result_err (load m a)
unfolding load store
refusal-store m a v = refusal-answer_if (allows_word (length m) a) (put m a (to_le_bytes w32 v)) (from_le_bytes w32 (block m a 4))

-- what is read of a memory is its bytes, all of them
bytes_where-reads : (m : List ℕ) → ReadsBytes plain_access m → BytesWhere Anywhere m
unfolding fetch
bytes_where-reads m reads =
    record {
      byte =
          λ a anywhere test. reads a (slice_index m (a - most_neg))
          (answer_if-allowed (reachable (length m) a 1) (slice_index m (a - most_neg)) test);
    }

reads-bytes_where : (m : List ℕ) → BytesWhere Anywhere m → ReadsBytes plain_access m
unfolding fetch
reads-bytes_where m bytes a v e =
    let h = allowed-answer_if (reachable (length m) a 1) (slice_index m (a - most_neg)) v e in
    omega (arith, h.1, bytes.byte a tt h.0)

-- a store leaves bytes
pub bytes-store_byte : (P : ℕ → Type 0) (m n : List ℕ) (a v : ℕ) → v < 2 ^ 8 → BytesWhere P m → store_byte m a v ≡ Ok n → BytesWhere P n
unfolding store_byte
bytes-store_byte P m n a v fits old e =
    let h = allowed-answer_if (reachable (length m) a 1) (put m a (v ∷ [])) n e in
    let inside = (fits-reachable (length m) a 1 h.0).1 in
    rw h.1 (bytes_where-put P m a (v ∷ []) inside (length-put m a (v ∷ []) inside) (bytes-byte v fits) old)

pub bytes-store : (P : ℕ → Type 0) (m n : List ℕ) (a v : ℕ) → BytesWhere P m → store m a v ≡ Ok n → BytesWhere P n
unfolding store
bytes-store P m n a v old e =
    let h = allowed-answer_if (allows_word (length m) a) (put m a (to_le_bytes w32 v)) n e in
    let inside = (fits-reachable (length m) a 4 (reachable-allows_word (length m) a h.0).1).1 in
    rw h.1 (bytes_where-put P m a (to_le_bytes w32 v) inside (length-put m a (to_le_bytes w32 v) inside) (bytes-word v) old)

pub bytes-copy_block :
    (P : ℕ → Type 0) (m n : List ℕ) (from to count : ℕ) → ((k : ℕ) → k < count → P (from + k)) → BytesWhere P m
    → copy_block m from to count ≡ Ok n → BytesWhere P n
unfolding copy_block
bytes-copy_block P m n from to count read old e =
    let source = allows_block (length m) from count in
    let target = allows_block (length m) to count in
    let copied = block m from count in
    let h = allowed-answer_if (source && target) (put m to copied) n e in
    let both = both_true source target h.0 in
    let size = length-put_block m from to count both.0 both.1 in
    rw h.1 (bytes_where-put_block P m from to count size both.0 both.1 read old)

pub bytes-load :
    (P : ℕ → Type 0) (m : List ℕ) (a w : ℕ) → ((k : ℕ) → k < 4 → P (a + k)) → BytesWhere P m → load m a ≡ Ok w → w < 2 ^ 32
unfolding load
bytes-load P m a w read old e =
    let h = allowed-answer_if (allows_word (length m) a) (from_le_bytes w32 (block m a 4)) w e in
    let inside : allows_block (length m) a 4 ≡ true = (reachable-allows_word (length m) a h.0).1 in
    omega (arith, h.1, below_word m a (bytes_where-block P m a 4 inside read old))

pub load-unaligned : (m : List ℕ) (a : ℕ) → a % 4 ≢ 0 → load m a ≡ Err Outside
unfolding load
load-unaligned m a unaligned = rw (allows_word-unaligned (length m) a unaligned) refl

pub plain_lawful : IsSpace plain_access
unfolding fetch store_byte load store test_block copy_block
plain_lawful =
    record {
      empty_block = λ m a. refl;
      source_part = λ m a n k j whole within.
          answer_if-allowed (allows_block (length m) (a + k) j) tt
          (allows_block-part (length m) a n k j (allowed-answer_if (allows_block (length m) a n) tt tt whole).0 within);
      source_end = λ m a n some whole. allows_block-end (length m) a n some (allowed-answer_if (allows_block (length m) a n) tt tt whole).0;
      source_as_block = λ m a n. refl;
      unaligned_word = λ m a unaligned. load-unaligned m a unaligned;
      word_below = λ m a w reads e. bytes-load Anywhere m a w (λ k below. tt) (bytes_where-reads m reads) e;
      set_byte_bytes = λ m n a v fits reads e. reads-bytes_where n (bytes-store_byte Anywhere m n a v fits (bytes_where-reads m reads) e);
      set_word_bytes = λ m n a v reads e. reads-bytes_where n (bytes-store Anywhere m n a v (bytes_where-reads m reads) e);
      copy_bytes =
          λ m n from to count reads e. reads-bytes_where n
          (bytes-copy_block Anywhere m n from to count (λ k below. tt) (bytes_where-reads m reads) e);
      part = λ m a n k j whole within.
          answer_if-allowed (allows_block (length m) (a + k) j) tt
          (allows_block-part (length m) a n k j (allowed-answer_if (allows_block (length m) a n) tt tt whole).0 within);
      source_of_block = λ m a n h. h;
      byte_of_source = λ m a n k whole below.
          ap is_ok
          (answer_if-allowed (reachable (length m) (a + k) 1) (slice_index m (a + k - most_neg))
          (allows_block-part (length m) a n k 1 (allowed-answer_if (allows_block (length m) a n) tt tt whole).0 (omega arith)));
      word_of_block = λ m a aligned whole.
          ap is_ok
          (answer_if-allowed (allows_word (length m) a) (from_le_bytes w32 (block m a 4))
          (allows_word-reachable (length m) a aligned (allowed-answer_if (allows_block (length m) a 4) tt tt whole).0));
      set_byte_as_block = λ m a v. refusal-answer_if (reachable (length m) a 1) (put m a (v ∷ [])) tt;
      set_word_as_block = λ m a v. refusal-answer_if_aligned (a % 4 == 0) (reachable (length m) a 4) (put m a (to_le_bytes w32 v));
      copy_as_blocks =
          λ m from to n. refusal-answer_if_both (allows_block (length m) from n) (allows_block (length m) to n) (put m to (block m from n));
      set_byte_keeps = λ m n a v e. same_by_length m n (length-store_byte m n a v e);
      set_word_keeps = λ m n a v e. same_by_length m n (length-store m n a v e);
      copy_keeps = λ m n from to count e. same_by_length m n (length-copy_block m n from to count e);
    }
