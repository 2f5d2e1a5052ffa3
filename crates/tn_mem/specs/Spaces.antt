-- What a processor may ask of a space of addresses, and what each space keeps.
use Rattle.std.specs.Prelude.{◌≡◌, ◌≢◌, ℕ, ◌+◌, ◌%◌, ◌^◌, ◌<◌, ◌≤◌, ◌==◌, if◌then◌else◌, ⊤, Option, None, Some, Result, Ok, Err}
use Rattle.std.specs.Prelude.{IsOk, MatchResult}
use Rattle.std.specs.Result.{result_err}
use Rattle.tn_mem.specs.declared.touches.Touch.{Touch}
use Rattle.tn_mem.specs.declared.touches.Touch.TheVariants.{Outside, Code}

-- what each access of a space answers: a store, the space that it leaves. `block` and `source`
-- answer whether a block may be written, and whether it may be read
pub record Access (M : Type 0) : Type 0 where
  pub byte : M → ℕ → Result ℕ Touch
  pub set_byte : M → ℕ → ℕ → Result M Touch
  pub word : M → ℕ → Result ℕ Touch
  pub set_word : M → ℕ → ℕ → Result M Touch
  pub block : M → ℕ → ℕ → Result ⊤ Touch
  pub source : M → ℕ → ℕ → Result ⊤ Touch
  pub copy : M → ℕ → ℕ → ℕ → Result M Touch

-- a call on a space that was old made this space, or was refused and left the space as it was
abbrev pub Leaves : {M : Type 0} → Result ⊤ Touch → Result M Touch → M → M → Type 0
Leaves result made old new =
    MatchResult result (λ _. made ≡ Ok new) (λ touch. (made ≡ Err touch) × (new ≡ old))

-- the refusal of two accesses together: Outside goes before Code
abbrev pub first_refusal : Option Touch → Option Touch → Option Touch
first_refusal (Some Outside) other = Some Outside
first_refusal (Some Code) (Some Outside) = Some Outside
first_refusal (Some Code) (Some Code) = Some Code
first_refusal (Some Code) None = Some Code
first_refusal None other = other

-- two states of a space refuse the same accesses
pub record SameExtents {M : Type 0} (access : Access M) (old new : M) : Type 0 where
  pub byte : (a : ℕ) → result_err (access.byte new a) ≡ result_err (access.byte old a)
  pub word : (a : ℕ) → result_err (access.word new a) ≡ result_err (access.word old a)
  pub block : (a n : ℕ) → result_err (access.block new a n) ≡ result_err (access.block old a n)
  pub source : (a n : ℕ) → result_err (access.source new a n) ≡ result_err (access.source old a n)

-- each byte that is read of a space is one
abbrev pub ReadsBytes : {M : Type 0} → Access M → M → Type 0
ReadsBytes access m = (a v : ℕ) → access.byte m a ≡ Ok v → v < 2 ^ 8

-- the laws of a space
pub record IsSpace {M : Type 0} (access : Access M) : Type 0 where
  -- a block of 0 bytes is allowed anywhere, and so is each part of a block that is allowed
  pub empty_block : (m : M) (a : ℕ) → access.block m a 0 ≡ Ok tt
  pub part : (m : M) (a n k j : ℕ) → access.block m a n ≡ Ok tt → k + j ≤ n → access.block m (a + k) j ≡ Ok tt
  pub source_part : (m : M) (a n k j : ℕ) → access.source m a n ≡ Ok tt → k + j ≤ n → access.source m (a + k) j ≡ Ok tt
  -- any other block that is allowed ends at 2 ^ 32 at most, so no address in it wraps
  pub source_end : (m : M) (a n : ℕ) → 0 < n → access.source m a n ≡ Ok tt → a + n ≤ 2 ^ 32
  -- what may be written may be read, and so far nothing else
  pub source_of_block : (m : M) (a n : ℕ) → access.block m a n ≡ Ok tt → access.source m a n ≡ Ok tt
  pub source_as_block : (m : M) (a n : ℕ) → access.source m a n ≡ access.block m a n
  pub byte_of_source : (m : M) (a n k : ℕ) → access.source m a n ≡ Ok tt → k < n → IsOk (access.byte m (a + k))
  pub word_of_block : (m : M) (a : ℕ) → a % 4 ≡ 0 → access.block m a 4 ≡ Ok tt → IsOk (access.word m a)
  -- an unaligned word is Outside
  pub unaligned_word : (m : M) (a : ℕ) → a % 4 ≢ 0 → access.word m a ≡ Err Outside
  -- where the bytes are below 2 ^ 8, a word is below 2 ^ 32, and a store leaves them so
  pub word_below : (m : M) (a w : ℕ) → ReadsBytes access m → access.word m a ≡ Ok w → w < 2 ^ 32
  pub set_byte_bytes : (m n : M) (a v : ℕ) → v < 2 ^ 8 → ReadsBytes access m → access.set_byte m a v ≡ Ok n → ReadsBytes access n
  pub set_word_bytes : (m n : M) (a v : ℕ) → ReadsBytes access m → access.set_word m a v ≡ Ok n → ReadsBytes access n
  pub copy_bytes : (m n : M) (from to count : ℕ) → ReadsBytes access m → access.copy m from to count ≡ Ok n → ReadsBytes access n
  -- a store is refused as its block is, and an unaligned word is Outside
  pub set_byte_as_block : (m : M) (a v : ℕ) → result_err (access.set_byte m a v) ≡ result_err (access.block m a 1)
  pub set_word_as_block :
      (m : M) (a v : ℕ) → result_err (access.set_word m a v) ≡ (if a % 4 == 0 then result_err (access.block m a 4) else Some Outside)
  pub copy_as_blocks :
      (m : M) (from to n : ℕ)
      → result_err (access.copy m from to n) ≡ first_refusal (result_err (access.source m from n)) (result_err (access.block m to n))
  -- no call changes what is refused
  pub set_byte_keeps : (m n : M) (a v : ℕ) → access.set_byte m a v ≡ Ok n → SameExtents access m n
  pub set_word_keeps : (m n : M) (a v : ℕ) → access.set_word m a v ≡ Ok n → SameExtents access m n
  pub copy_keeps : (m n : M) (from to count : ℕ) → access.copy m from to count ≡ Ok n → SameExtents access m n
