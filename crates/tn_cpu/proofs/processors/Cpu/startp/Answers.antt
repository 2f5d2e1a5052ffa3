use Rattle.std.proofs.Common.{sym, ◌∙◌}
use Rattle.tn_cpu.proofs.Tests.{second-allowed, enqueue-after}
use Rattle.tn_cpu.proofs.processors.Cpu.startp.Goals as goal

pub enqueue-requires : goal.enqueue-requires
enqueue-requires g c =
    enqueue-after g.M.Space.access _ c.args.self.now c.store.new.self c.store.ensures.value c.store.ensures.extents
    (sym c.enqueue_refusal.ensures ∙ second-allowed _ _ (sym c.in_default-first_refusal.ensures))
