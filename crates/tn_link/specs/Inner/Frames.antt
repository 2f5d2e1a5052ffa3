-- The frame of a program as the code holds it.
use Rattle.std.specs.Prelude.{◌≡◌, ℕ, ◌+◌, ◌*◌, ◌≤◌, List, length, slice_index}
use Rattle.tn_text.specs.declared.limits.TheConstants.{ITEM_LIMIT}
use Rattle.tn_link.specs.declared.cells.Frame.{Frame as Held}
use Rattle.tn_link.specs.Linking.{IsBase}
use Rattle.tn_link.specs.Cells.{Frame, frame}

-- bases, and positions of so many items
pub record IsFrame (n : ℕ) (held : Held) : Type 0 where
  pub code : IsBase held.code_base
  pub cells : IsBase held.cell_base
  pub as_many : length held.positions.now ≡ n + 1
  pub bounded : (k : ℕ) → slice_index held.positions.now k ≤ 255 * ITEM_LIMIT

abbrev pub frame_of : Held → List ℕ → Frame
frame_of held sizes = frame held.code_base held.cell_base sizes
