-- The words of memory that stand for the ends of the four links.
use Rattle.std.specs.Prelude.{ℕ, ◌+◌, ◌*◌}
use Rattle.tn_word.specs.Words.{most_neg}

-- the address of the channel that puts out on link l: words 0 to 3
abbrev pub out_channel_of : ℕ → ℕ
out_channel_of l = most_neg + 4 * l

-- the address of the channel that takes in on link l: words 4 to 7
abbrev pub in_channel_of : ℕ → ℕ
in_channel_of l = most_neg + 16 + 4 * l
