-- The bytes that a memory holds for a word are those of tn_word.
use Rattle.std.proofs.Common.{◌≡◌, ℕ, List, refl, arith}
use Rattle.std.specs.Int.{w32, to_le_bytes, from_le_bytes}
use Rattle.tn_word.specs.Words.{bytes_of_word, word_of}

-- a word is stored as them
pub to_le_bytes-bytes_of_word : (word : ℕ) → to_le_bytes w32 word ≡ bytes_of_word word
to_le_bytes-bytes_of_word word = refl

-- and loaded from them
pub from_le_bytes-word_of : (bytes : List ℕ) → from_le_bytes w32 bytes ≡ word_of bytes
from_le_bytes-word_of bytes = omega arith
