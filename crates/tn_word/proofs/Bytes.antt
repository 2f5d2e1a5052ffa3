-- A word and its four bytes tell the same.
use Rattle.std.proofs.Common.{◌≡◌, ℕ, ◌+◌, ◌*◌, ◌/◌, ◌%◌, ◌^◌, ◌<◌, ◌≤◌, List, ◌∷◌, ◌++◌, length, take, get_or, Some, refl, arith}
use Rattle.std.proofs.lemmas.Grind.{common_steps}
use Rattle.tn_word.specs.Words.{bytes_of_word, word_of, word_from}

-- a word has four bytes
pub length-bytes_of_word : (w : ℕ) → length (bytes_of_word w) ≡ 4
length-bytes_of_word w = refl

-- the bytes of a word read as that word, whatever follows them
pub word_of-bytes_of_word : (w : ℕ) (rest : List ℕ) → w < 2 ^ 32 → word_of (bytes_of_word w ++ rest) ≡ w
word_of-bytes_of_word w rest h = omega arith

-- the word that four bytes read as has these bytes
pub bytes_of_word-word_of : (bytes : List ℕ) → 4 ≤ length bytes → ((k : ℕ) → get_or bytes k 0 < 256)
    → bytes_of_word (word_of bytes) ≡ take 4 bytes
bytes_of_word-word_of (a ∷ b ∷ c ∷ d ∷ rest) long small =
    let in_a : a < 256 = small 0 in
    let in_b : b < 256 = small 1 in
    let in_c : c < 256 = small 2 in
    let in_d : d < 256 = small 3 in
    let w : ℕ = a + 256 * b + 256 ^ 2 * c + 256 ^ 3 * d in
    let is_a : w % 256 ≡ a = omega arith in
    let is_b : w / 256 % 256 ≡ b = omega arith in
    let is_c : w / 256 ^ 2 % 256 ≡ c = omega arith in
    let is_d : w / 256 ^ 3 % 256 ≡ d = omega arith in
    cc
bytes_of_word-word_of bytes long small = absurd (omega arith)

-- the bytes of a word read as that word wherever they stand
pub word_from-bytes_of_word : (before after : List ℕ) (w : ℕ) → w < 2 ^ 32
    → word_from (before ++ bytes_of_word w ++ after) (length before) ≡ Some w
word_from-bytes_of_word before after w h = grind (arith, common_steps)
