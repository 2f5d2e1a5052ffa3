-- Spaces that hold a memory.
use Rattle.std.specs.Prelude.{◌≡◌, ℕ, ◌%◌, List, [], ◌∷◌, length, Ok}
use Rattle.std.specs.Int.{w32, to_le_bytes}
use Rattle.tn_mem.specs.Spaces.{Access}
use Rattle.tn_mem.specs.Memories.{put, block, fetch, load, test_block}

-- each access of a block that the space allows is that of the memory in it, which a store changes alone
pub record HoldsMemory {M : Type 0} (access : Access M) (memory : M → List ℕ) (over : M → List ℕ → M) : Type 0 where
  -- a space over another memory
  pub memory_of : (s : M) (m : List ℕ) → memory (over s m) ≡ m
  pub over_own : (s : M) → over s (memory s) ≡ s
  pub over_twice : (s : M) (m n : List ℕ) → over (over s m) n ≡ over s n
  pub same_blocks : (s : M) (m : List ℕ) (a n : ℕ) → length m ≡ length (memory s) → access.block (over s m) a n ≡ access.block s a n
  -- what the space allows
  pub allowed : (s : M) (a n : ℕ) → access.block s a n ≡ Ok tt → test_block (memory s) a n ≡ Ok tt
  pub byte : (s : M) (a : ℕ) → access.block s a 1 ≡ Ok tt → access.byte s a ≡ fetch (memory s) a
  pub set_byte : (s : M) (a v : ℕ) → access.block s a 1 ≡ Ok tt → access.set_byte s a v ≡ Ok (over s (put (memory s) a (v ∷ [])))
  pub word : (s : M) (a : ℕ) → a % 4 ≡ 0 → access.block s a 4 ≡ Ok tt → access.word s a ≡ load (memory s) a
  pub set_word :
      (s : M) (a v : ℕ) → a % 4 ≡ 0 → access.block s a 4 ≡ Ok tt
      → access.set_word s a v ≡ Ok (over s (put (memory s) a (to_le_bytes w32 v)))
  pub copy :
      (s : M) (from to n : ℕ) → access.block s from n ≡ Ok tt → access.block s to n ≡ Ok tt
      → access.copy s from to n ≡ Ok (over s (put (memory s) to (block (memory s) from n)))
