use Rattle.std.proofs.Common.{◌∙◌, inl, inr}
use Rattle.tn_load.proofs.LoadTestLaws.{placed-past, placed-here}
use Rattle.tn_load.proofs.loads.is_placed.Goals as goal
use Rattle.tn_load.proofs.loads.is_placed.Goals.{then-at-memory-via-then-at-memory, then-at-memory-via-else-at-memory+then-bytes-memory}

pub returns-then-at-memory : goal.returns-then-at-memory
returns-then-at-memory c =
    placed-past c.args.memory.now c.args.bytes.now c.args.base c.saturating_sub-at.result c.is_empty.result c.saturating_sub-at.ensures
    (elim c.then-at-memory.branch [
      | then-at-memory-via-then-at-memory w ↦ inl w.if-at-memory.true
      | then-at-memory-via-else-at-memory+then-bytes-memory w ↦ inr w.if-bytes-memory.true
    ])
    c.is_empty.ensures

pub returns : goal.returns
returns c =
    c.eq.ensures
    ∙ placed-here c.args.memory.now c.args.bytes.now c.args.base c.saturating_sub-at.result c.saturating_sub-at.ensures
