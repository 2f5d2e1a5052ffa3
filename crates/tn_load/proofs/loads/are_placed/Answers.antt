use Rattle.std.proofs.Common.{◌≡◌, ℕ, List, false, length, sym, ap, ◌∙◌}
use Rattle.std.specs.Str.{bytes_eq}
use Rattle.tn_mem.specs.Memories.{block}
use Rattle.tn_stream.specs.Images.{segment_of}
use Rattle.tn_load.specs.Targets.{placed}
use Rattle.tn_load.specs.LoadTests.{is_placed}
use Rattle.tn_load.proofs.LoadTestLaws.{fails-one}
use Rattle.tn_load.proofs.loads.are_placed.Goals as goal

pub returns-then-not-is_placed : goal.returns-then-not-is_placed
returns-then-not-is_placed c =
    let base = c.segment-item.result.base in
    let bad : is_placed c.args.memory.now (placed (segment_of c.segment-item.result)) ≡ false =
    ap (λ (bs : List ℕ). bytes_eq (block c.args.memory.now c.segment-item.result.base (length bs)) bs) (sym c.as_slice.ensures.value)
    ∙ ap (λ (m : List ℕ). bytes_eq (block m c.segment-item.result.base (length c.as_slice.result.now)) c.as_slice.result.now)
    (sym c.bytes.ensures)
    ∙ sym c.is_placed.ensures ∙ c.if-not-is_placed.true in
    sym (fails-one (λ piece. is_placed c.args.memory.now piece) placed segment_of c.args.segments.now c.loop-segment.segment-index
    c.segment-item.result c.loop-segment-test.true c.segment-item.is bad)
