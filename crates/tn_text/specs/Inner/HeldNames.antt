-- The cells in which a name lies.
use Rattle.std.specs.Prelude.{◌≡◌, ℕ, ◌-◌, ◌≤◌, true, List, ◌++◌, length, take, drop, replicate}
use Rattle.std.proofs.Common.{arith}
use Rattle.std.proofs.lemmas.List.{length-take, take-append-drop}
use Rattle.tn_text.specs.declared.limits.TheConstants.{NAME_LIMIT}
use Rattle.tn_text.specs.Names.{is_name}

-- a name's bytes lie at the front of its cells, and zeros behind them
pub record IsHeldName (cells : List ℕ) (len : ℕ) : Type 0 where
  pub valid : is_name (take len cells) ≡ true
  pub short : len ≤ NAME_LIMIT
  pub room : length cells ≡ NAME_LIMIT
  pub clear : drop len cells ≡ replicate (NAME_LIMIT - len) 0

-- the cells of a name
abbrev pub cells_of : List ℕ → List ℕ
cells_of bytes = bytes ++ replicate (NAME_LIMIT - length bytes) 0

-- as many bytes as were counted
pub length-held : (cells : List ℕ) (len : ℕ) → IsHeldName cells len → length (take len cells) ≡ len
length-held cells len h = rw length-take (omega (arith, h.short, h.room))

-- a name's bytes give its cells back
pub cells-held : (cells : List ℕ) (len : ℕ) → IsHeldName cells len → cells_of (take len cells) ≡ cells
cells-held cells len h = rw (length-held cells len h, ← h.clear) (take-append-drop len cells)
