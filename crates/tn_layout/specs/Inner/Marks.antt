-- Which references wait to be looked at again: the leaf of one that waits is 0, and that of another is
-- one more than the end of its span.
use Rattle.std.specs.Prelude.{◌≡◌, ◌≢◌, ℕ, suc, ◌<◌, ◌≤◌, ◌⊎◌, Bool, false, List, length, get_or, All}
use Rattle.std.specs.List.{Contains}
use Rattle.tn_layout.specs.declared.pieces.Piece.{Piece}
use Rattle.tn_layout.specs.Sizes.{piece_at}
use Rattle.tn_layout.specs.Spans.{span_to, is_within}

-- the end of the span of the reference at a place of an order
abbrev pub to_at : List Piece → List ℕ → ℕ → ℕ
to_at pieces order j = span_to (get_or order j 0) (piece_at pieces (get_or order j 0))

-- whether a piece lies within the span of the reference at a place of an order
abbrev pub holds_at : List Piece → List ℕ → ℕ → ℕ → Bool
holds_at pieces order k j = is_within pieces (get_or order j 0) k

-- leaves that tell which references wait
pub record AreMarks (pieces : List Piece) (order : List ℕ) (leaves : ℕ → ℕ) : Type 0 where
  pub each : (j : ℕ) → j < length order → (leaves j ≡ 0) ⊎ (leaves j ≡ suc (to_at pieces order j))
  pub none : (j : ℕ) → length order ≤ j → leaves j ≡ 0

-- Those that wait after a mark of all whose span holds the piece at place k: no other than before that
-- don't wait, and none whose span holds it. Each that waits anew is in the queue behind those before.
pub record IsMarked (pieces : List Piece) (order : List ℕ) (k : ℕ) (old new : ℕ → ℕ) (before after : List ℕ) : Type 0 where
  pub left : (j : ℕ) → j < length order → new j ≢ 0 → (new j ≡ old j) × (holds_at pieces order k j ≡ false)
  pub gone : (j : ℕ) → j < length order → new j ≡ 0 → (old j ≡ 0) ⊎ Contains after j
  pub kept : (j : ℕ) → Contains before j → Contains after j
  pub below : All (λ j. j < length order) before → All (λ j. j < length order) after
