-- Memories of bytes: what is read of them is a byte or a word.
use Rattle.std.proofs.Common.{◌≡◌, ℕ, ◌+◌, ◌-◌, ◌^◌, ◌<◌, List, length, slice_index, Ok, arith}
use Rattle.std.specs.Int.{w32, to_le_bytes}
use Rattle.std.proofs.lemmas.List.{places, get_or_past}
use Rattle.tn_mem.specs.Spaces.{ReadsBytes}
use Rattle.tn_mem.specs.Memories.{most_neg, put, block, fetch, load, plain_access}
use Rattle.tn_mem.specs.Guards.{Guarded, guarded}
use Rattle.tn_mem.specs.Inner.GuardLaws.{allowed-unless_met}
use Rattle.tn_mem.proofs.Puts.{IsInside}
use Rattle.tn_mem.proofs.Allowed.{allowed-fetch, allowed-load}

-- each element is a byte
abbrev pub IsBytes : List ℕ → Type 0
IsBytes m = (k : ℕ) → slice_index m k < 256

pub IsBytes-block : (m : List ℕ) (a n : ℕ) → IsBytes m → IsBytes (block m a n)
unfolding block
IsBytes-block m a n bytes = λ k. grind (arith, places, get_or_past, bytes (a - most_neg + k))

pub IsBytes-put :
    (m : List ℕ) (a : ℕ) (written : List ℕ) → IsInside m a (length written) → IsBytes m → IsBytes written → IsBytes (put m a written)
unfolding put
IsBytes-put m a written inside bytes others = λ k. grind (arith, places, get_or_past, bytes k, others (k - (a - most_neg)))

pub IsBytes-word : (w : ℕ) → IsBytes (to_le_bytes w32 w)
IsBytes-word w = λ k. grind (arith, places, get_or_past)

pub fetch-below : (m : List ℕ) (a v : ℕ) → IsBytes m → fetch m a ≡ Ok v → v < 256
fetch-below m a v bytes e = let h = allowed-fetch m a v e in omega (arith, h.1, bytes (a - most_neg))

pub load-below : (m : List ℕ) (a v : ℕ) → IsBytes m → load m a ≡ Ok v → v < 2 ^ 32
load-below m a v bytes e =
    let h = allowed-load m a v e in
    let b = IsBytes-block m a 4 bytes in
    omega (arith, h.1, b 0, b 1, b 2, b 3)

-- what is read of a memory of bytes, guarded or not, is bytes
pub reads-bytes : (m : List ℕ) → IsBytes m → ReadsBytes plain_access m
reads-bytes m bytes = λ a v e. fetch-below m a v bytes e

pub reads-guarded_bytes : (s : Guarded) → IsBytes s.bytes → ReadsBytes guarded s
reads-guarded_bytes s bytes = λ a v e. fetch-below s.bytes a v bytes (allowed-unless_met s a 1 (fetch s.bytes a) v e).1
