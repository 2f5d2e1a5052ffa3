-- What is known of sizes, and of the references that wait to be looked at, while they are.
use Rattle.std.specs.Prelude.{◌≡◌, ◌≢◌, ℕ, ◌+◌, ◌-◌, ◌%◌, ◌^◌, ◌<◌, ◌≤◌, max, if◌then◌else◌, List, length, get_or, All}
use Rattle.std.specs.List.{sum_by, Contains}
use Rattle.tn_text.specs.declared.limits.TheConstants.{ITEM_LIMIT}
use Rattle.tn_layout.specs.declared.pieces.Piece.{Piece}
use Rattle.tn_layout.specs.declared.layouts.Layout.{Layout}
use Rattle.tn_layout.specs.Sizes.{piece_at, needed, Valid}
use Rattle.tn_layout.specs.Spans.{is_within, references}
use Rattle.tn_layout.specs.Inner.Positions.{first_size}
use Rattle.tn_layout.specs.Inner.SegmentTrees.{IsJoined, leaf}
use Rattle.tn_layout.specs.Inner.Orders.{IsOrder}
use Rattle.tn_layout.specs.Inner.Marks.{AreMarks}

-- no size is more than its piece needs, or than in a valid list
pub record IsLow (pieces : List Piece) (s : List ℕ) : Type 0 where
  pub as_many : length s ≡ length pieces
  pub low : (i : ℕ) → i < length pieces → get_or s i 0 ≤ needed s i (piece_at pieces i)
  pub under : (others : List ℕ) → Valid pieces others → (i : ℕ) → i < length pieces → get_or s i 0 ≤ get_or others i 0

-- the size of the reference at a place of an order is what it needs
abbrev pub IsSettled : List Piece → List ℕ → List ℕ → ℕ → Type 0
IsSettled pieces sizes order j = get_or sizes (get_or order j 0) 0 ≡ needed sizes (get_or order j 0) (piece_at pieces (get_or order j 0))

-- Sizes that are low and no less than the first ones. Each reference waits, or is settled. The numbers that
-- wait are places of the order.
pub record IsLayout (pieces : List Piece) (sizes order : List ℕ) (ends : ℕ → ℕ) (waiting : List ℕ) : Type 0 where
  pub low : IsLow pieces sizes
  pub first : (i : ℕ) → i < length pieces → first_size (piece_at pieces i) ≤ get_or sizes i 0
  pub ordered : IsOrder pieces order
  pub marks : AreMarks pieces order ends
  pub queued : (j : ℕ) → j < length order → ends j ≡ 0 → Contains waiting j
  pub settled : (j : ℕ) → j < length order → ends j ≢ 0 → IsSettled pieces sizes order j
  pub below : All (λ j. j < length order) waiting

-- a tree whose leaves are the sizes, and which sums them
pub record IsSummed (sizes nodes : List ℕ) (width : ℕ) : Type 0 where
  pub joined : IsJoined (λ left right. (left + right) % 2 ^ 32) nodes width
  pub leaves : (k : ℕ) → leaf nodes width k ≡ get_or sizes k 0
  pub wide : length sizes < width
  pub small : (k : ℕ) → get_or sizes k 0 ≤ 255

-- the same of the parts of a layout
pub record IsKept (pieces : List Piece) (layout : Layout) : Type 0 where
  pub state : IsLayout pieces layout.sizes.items layout.order.items (λ j. leaf layout.ends.nodes.items layout.ends.width j)
      layout.waiting.items
  pub summed : IsSummed layout.sizes.items layout.sums.nodes.items layout.sums.width
  pub joined : IsJoined (λ left right. max left right) layout.ends.nodes.items layout.ends.width
  pub wide : length layout.order.items < layout.ends.width
  pub few : length layout.order.items ≤ ITEM_LIMIT

-- how much the references within the spans of references have grown beyond one byte
abbrev pub potential : List Piece → List ℕ → ℕ
potential pieces sizes =
    sum_by (λ i. sum_by (λ k. if is_within pieces i k then get_or sizes k 0 - 1 else 0) (references pieces)) (references pieces)
