-- A memory as the list of its bytes, of which the first stands at MostNeg.
use Rattle.std.specs.Prelude.{ℕ, ◌+◌, ◌-◌, ◌%◌, ◌^◌, ◌==◌, Bool, ◌&&◌, ◌||◌, nat_le, if◌then◌else◌, List, [], ◌∷◌, ◌++◌, length}
use Rattle.std.specs.Prelude.{take, drop, slice_index, Result, Ok, Err, ⊤}
use Rattle.std.specs.Int.{w32, to_le_bytes, from_le_bytes}
use Rattle.tn_mem.specs.declared.touches.Touch.{Touch}
use Rattle.tn_mem.specs.declared.touches.Touch.TheVariants.{Outside}
use Rattle.tn_mem.specs.Spaces.{Access}

-- the lowest address
abbrev pub most_neg : ℕ
most_neg = 0x80000000

-- a block of n bytes is wholly inside a memory of so many bytes, above word 8, and its addresses are
-- words; a memory of at most 2 ^ 31 bytes has no others
abbrev pub reachable : ℕ → ℕ → ℕ → Bool
reachable size a n = nat_le (most_neg + 36) a && (nat_le (a - most_neg + n) size && nat_le (a + n) (2 ^ 32))

-- a block of 0 bytes is allowed anywhere, any other where it is reachable
abbrev pub allows_block : ℕ → ℕ → ℕ → Bool
allows_block size a n = n == 0 || reachable size a n

-- a word is allowed at a multiple of 4 where it is reachable
abbrev pub allows_word : ℕ → ℕ → Bool
allows_word size a = a % 4 == 0 && reachable size a 4

-- a memory with these bytes from an address on
unfoldable pub put : List ℕ → ℕ → List ℕ → List ℕ
put m a bytes = take (a - most_neg) m ++ (bytes ++ drop (a - most_neg + length bytes) m)

-- the n bytes from an address on
unfoldable pub block : List ℕ → ℕ → ℕ → List ℕ
block m a n = take n (drop (a - most_neg) m)

-- an answer where an access is allowed, else Outside
abbrev pub answer_if : {X : Type 0} → Bool → X → Result X Touch
answer_if allowed x = if allowed then Ok x else Err Outside

-- the byte at an address
unfoldable pub fetch : List ℕ → ℕ → Result ℕ Touch
fetch m a = answer_if (reachable (length m) a 1) (slice_index m (a - most_neg))

-- the memory after a byte is stored
unfoldable pub store_byte : List ℕ → ℕ → ℕ → Result (List ℕ) Touch
store_byte m a v = answer_if (reachable (length m) a 1) (put m a (v ∷ []))

-- the word at an address, its lowest byte first
unfoldable pub load : List ℕ → ℕ → Result ℕ Touch
load m a = answer_if (allows_word (length m) a) (from_le_bytes w32 (block m a 4))

-- the memory after a word is stored, its lowest byte first
unfoldable pub store : List ℕ → ℕ → ℕ → Result (List ℕ) Touch
store m a v = answer_if (allows_word (length m) a) (put m a (to_le_bytes w32 v))

-- whether a block is allowed
unfoldable pub test_block : List ℕ → ℕ → ℕ → Result ⊤ Touch
test_block m a n = answer_if (allows_block (length m) a n) tt

-- the memory after n bytes are copied, as if all were read first
unfoldable pub copy_block : List ℕ → ℕ → ℕ → ℕ → Result (List ℕ) Touch
copy_block m from to n =
    answer_if (allows_block (length m) from n && allows_block (length m) to n) (put m to (block m from n))

-- what each access of a memory answers
abbrev pub plain_access : Access (List ℕ)
plain_access =
    record {
      byte = fetch;
      set_byte = store_byte;
      word = load;
      set_word = store;
      block = test_block;
      source = test_block;
      copy = copy_block;
    }
