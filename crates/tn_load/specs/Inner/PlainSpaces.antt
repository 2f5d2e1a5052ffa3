-- Spaces that answer as a memory does wherever the memory allows an access.
use Rattle.std.specs.Prelude.{◌≡◌, ℕ, List, [], ◌∷◌, length, true, Ok}
use Rattle.std.specs.Int.{w32, to_le_bytes}
use Rattle.tn_mem.specs.Spaces.{Access}
use Rattle.tn_mem.specs.Memories.{reachable, allows_word, allows_block, put, fetch, load}

pub record IsPlainSpace {M : Type 0} (access : Access M) (space : List ℕ → M) : Type 0 where
  pub byte : (m : List ℕ) (a : ℕ) → reachable (length m) a 1 ≡ true → access.byte (space m) a ≡ fetch m a
  pub set_byte : (m : List ℕ) (a v : ℕ) → reachable (length m) a 1 ≡ true → access.set_byte (space m) a v ≡ Ok (space (put m a (v ∷ [])))
  pub word : (m : List ℕ) (a : ℕ) → allows_word (length m) a ≡ true → access.word (space m) a ≡ load m a
  pub set_word :
      (m : List ℕ) (a v : ℕ) → allows_word (length m) a ≡ true → access.set_word (space m) a v ≡ Ok (space (put m a (to_le_bytes w32 v)))
  pub block : (m : List ℕ) (a n : ℕ) → allows_block (length m) a n ≡ true → access.block (space m) a n ≡ Ok tt
  pub source : (m : List ℕ) (a n : ℕ) → allows_block (length m) a n ≡ true → access.source (space m) a n ≡ Ok tt
