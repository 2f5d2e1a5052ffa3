-- A command tells its three words.
use Rattle.std.proofs.Common.{◌≡◌, ℕ, ◌^◌, ◌<◌, List, [], ◌++◌, length, Some, refl}
use Rattle.tn_word.specs.Words.{bytes_of_word, word_from}
use Rattle.tn_word.proofs.Bytes.{word_from-bytes_of_word}
use Rattle.tn_loader.specs.Commands.{command_bytes}

-- a command has 12 bytes
pub length-command_bytes : (op x n : ℕ) → length (command_bytes op x n) ≡ 12
unfolding command_bytes
length-command_bytes op x n = refl

-- its operation
pub word_from-command_bytes_op : (op x n : ℕ) (rest : List ℕ) → op < 2 ^ 32 → word_from (command_bytes op x n ++ rest) 0 ≡ Some op
unfolding command_bytes
word_from-command_bytes_op op x n rest h = word_from-bytes_of_word [] (bytes_of_word x ++ bytes_of_word n ++ rest) op h

-- its first argument
pub word_from-command_bytes_x : (op x n : ℕ) (rest : List ℕ) → x < 2 ^ 32 → word_from (command_bytes op x n ++ rest) 4 ≡ Some x
unfolding command_bytes
word_from-command_bytes_x op x n rest h = word_from-bytes_of_word (bytes_of_word op) (bytes_of_word n ++ rest) x h

-- its second argument
pub word_from-command_bytes_n : (op x n : ℕ) (rest : List ℕ) → n < 2 ^ 32 → word_from (command_bytes op x n ++ rest) 8 ≡ Some n
unfolding command_bytes
word_from-command_bytes_n op x n rest h = word_from-bytes_of_word (bytes_of_word op ++ bytes_of_word x) rest n h
