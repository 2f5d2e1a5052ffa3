-- The item that begins at an address.
use Rattle.std.specs.Prelude.{◌≡◌, ℕ, suc, ◌+◌, ◌<◌, ◌==◌, nat_lt, Bool, ◌&&◌, List, length, slice_index_or}
use Rattle.tn_link.specs.declared.linking.Placed.{Placed}

-- each begins at the address where the one before it ends
abbrev pub AreAdjacent : List Placed → Type 0
AreAdjacent placed =
    (i : ℕ) (d : Placed) → suc i < length placed
    → (slice_index_or placed (suc i) d).address ≡ (slice_index_or placed i d).address + (slice_index_or placed i d).size

-- the one at a place has bytes and begins at the address
pub record IsPieceAt (placed : List Placed) (address i : ℕ) : Type 0 where
  pub within : i < length placed
  pub begins : (d : Placed) → (slice_index_or placed i d).address ≡ address
  pub has_bytes : (d : Placed) → 0 < (slice_index_or placed i d).size

-- none does
abbrev pub HasNoPiece : List Placed → ℕ → Type 0
HasNoPiece placed address = (i : ℕ) → IsPieceAt placed address i → ⊥

-- whether an item has bytes and begins at an address
abbrev pub begins : Placed → ℕ → Bool
begins piece address = nat_lt 0 piece.size && piece.address == address
