use Rattle.std.proofs.Common.{◌≡◌, ℕ, List, length}
use Rattle.std.specs.List.{flat_map, range_with_len}
use Rattle.tn_layout.specs.Sizes.{position, IsExact}
use Rattle.tn_layout.specs.Inner.Positions.{ArePositions}
use Rattle.tn_link.specs.Programs.{pieces, bytes_at}
use Rattle.tn_link.proofs.code.code.Given as goal

abbrev pub invariant-loop-i : goal.invariant-loop-i
invariant-loop-i l = record {
  code : (sizes : List ℕ) → ArePositions sizes l.positions
      → l.bytes.items ≡ flat_map (bytes_at l.program sizes) (range_with_len 0 l.i);
  long : (sizes : List ℕ) → ArePositions sizes l.positions → IsExact (pieces l.program) sizes → length l.bytes.items ≡ position sizes l.i;
}
