-- Sizes of memories.
use Rattle.std.specs.Prelude.{◌≡◌, ℕ, ◌%◌, ◌≤◌}

-- the fewest and the most bytes that a memory has
abbrev pub memory_size_least : ℕ
memory_size_least = 4096

abbrev pub memory_size_most : ℕ
memory_size_most = 1048576

-- a memory has a number of bytes between these, whole words of them
abbrev pub IsMemorySize : ℕ → Type 0
IsMemorySize size = (memory_size_least ≤ size) × (size ≤ memory_size_most) × (size % 4 ≡ 0)
