-- Words of 32 bits, the bytes that they stand as in memory, and the addresses that the T425 fixes.
use Rattle.std.specs.Prelude.{ℕ, ◌+◌, ◌*◌, ◌/◌, ◌%◌, ◌^◌, List, [], ◌∷◌, length, drop, slice_index, nat_le, Option, Some, None}
use Rattle.std.specs.Prelude.{if◌then◌else◌}

-- the least address
abbrev pub most_neg : ℕ
most_neg = 0x80000000

-- where the T425 stores a bootstrap
abbrev pub mem_start : ℕ
mem_start = 0x80000070

-- the least address that an image may use
abbrev pub load_base : ℕ
load_base = 0x80000400

-- what stands in place of a process where there is none
abbrev pub not_process : ℕ
not_process = 0x80000000

-- the four bytes of a word, the lowest first
abbrev pub bytes_of_word : ℕ → List ℕ
bytes_of_word w = (w % 256) ∷ (w / 256 % 256) ∷ (w / 256 ^ 2 % 256) ∷ (w / 256 ^ 3 % 256) ∷ []

-- the word in the first four bytes of a list, the lowest byte first
abbrev pub word_of : List ℕ → ℕ
word_of bytes = slice_index bytes 0 + 256 * slice_index bytes 1 + 256 ^ 2 * slice_index bytes 2 + 256 ^ 3 * slice_index bytes 3

-- the word at a place of a list, where four bytes remain from there
abbrev pub word_from : List ℕ → ℕ → Option ℕ
word_from bytes at = if nat_le (at + 4) (length bytes) then Some (word_of (drop at bytes)) else None
