-- Sizes of pieces in bytes: the positions that they give, the operands of references, and the
-- least sizes that hold them.
use Rattle.std.specs.Prelude.{◌≡◌, ℕ, ◌+◌, ◌<◌, ◌≤◌, ℤ, pos, ◌-ℤ◌, List, length, take, slice_index, slice_index_or, ⊤}
use Rattle.std.specs.List.{sum}
use Rattle.tn_text.specs.declared.limits.TheConstants.{CODE_LIMIT}
use Rattle.tn_prefix.specs.Coding.{coding_length}
use Rattle.tn_layout.specs.declared.pieces.Piece.{Piece}
use Rattle.tn_layout.specs.declared.pieces.Piece.TheVariants.{Fixed, Rel, Diff}
use Rattle.tn_layout.specs.declared.pieces.LayoutFault.{LayoutFault}
use Rattle.tn_layout.specs.declared.pieces.LayoutFault.TheVariants.{TooLong, NoMemory}

-- the piece at a place
abbrev pub piece_at : List Piece → ℕ → Piece
piece_at pieces i = slice_index_or pieces i (Fixed 0)

-- where the piece at a place starts; at the number of pieces, where the last one ends
abbrev pub position : List ℕ → ℕ → ℕ
position sizes i = sum (take i sizes)

-- how far one position lies behind another
abbrev pub distance : List ℕ → ℕ → ℕ → ℤ
distance sizes high low = pos (position sizes high) -ℤ pos (position sizes low)

-- how many bytes a piece at place i needs: a reference as many as the coding of its operand has,
-- which is the distance from its end to its label, or from one label to another
abbrev pub needed : List ℕ → ℕ → Piece → ℕ
needed sizes i (Fixed size) = size
needed sizes i (Rel to) = coding_length (distance sizes to (i + 1))
needed sizes i (Diff high low) = coding_length (distance sizes high low)

-- the size at place i is right for the piece there: that of a fixed one is kept, and that of a
-- reference is enough
abbrev pub Suits : List ℕ → ℕ → Piece → Type 0
Suits sizes i (Fixed size) = slice_index sizes i ≡ size
Suits sizes i (Rel to) = coding_length (distance sizes to (i + 1)) ≤ slice_index sizes i
Suits sizes i (Diff high low) = coding_length (distance sizes high low) ≤ slice_index sizes i

-- each size is right
pub record Valid (pieces : List Piece) (sizes : List ℕ) : Type 0 where
  pub as_many : length sizes ≡ length pieces
  pub suits : (i : ℕ) → i < length pieces → Suits sizes i (piece_at pieces i)

-- no size is larger than in any other valid list
pub record Least (pieces : List Piece) (sizes : List ℕ) : Type 0 where
  pub valid : Valid pieces sizes
  pub least : (others : List ℕ) → Valid pieces others → (i : ℕ) → i < length pieces → slice_index sizes i ≤ slice_index others i

-- each size is what the piece needs
abbrev pub IsExact : List Piece → List ℕ → Type 0
IsExact pieces sizes = (i : ℕ) → i < length pieces → slice_index sizes i ≡ needed sizes i (piece_at pieces i)

-- one list is the least, and no other; in it each size is what its piece needs
pub record OneIsLeast (pieces : List Piece) : Type 0 where
  pub sizes : List ℕ
  pub least : Least pieces sizes
  pub exact : IsExact pieces sizes
  pub only : (others : List ℕ) → Least pieces others → others ≡ sizes

-- the places that a reference names are at most n
abbrev pub NamesUpTo : ℕ → Piece → Type 0
NamesUpTo n (Fixed size) = ⊤
NamesUpTo n (Rel to) = to ≤ n
NamesUpTo n (Diff high low) = (high ≤ n) × (low ≤ n)

-- no reference names a place behind the end of the last piece
abbrev pub AreNamed : List Piece → Type 0
AreNamed pieces = (i : ℕ) → i < length pieces → NamesUpTo (length pieces) (piece_at pieces i)

-- the least sizes have a total above the limit
pub record IsTooLong (pieces : List Piece) (total : ℕ) : Type 0 where
  pub sizes : List ℕ
  pub least : Least pieces sizes
  pub total_is : sum sizes ≡ total
  pub over : CODE_LIMIT < total

-- why the pieces get no sizes
abbrev pub IsLayoutFault : List Piece → LayoutFault → Type 0
IsLayoutFault pieces (TooLong total) = IsTooLong pieces total
IsLayoutFault pieces NoMemory = ⊤
