use Rattle.std.proofs.Common.{sym, ◌∙◌}
use Rattle.tn_cpu.proofs.Tests.{second-allowed, storable-kept, enqueue-after}
use Rattle.tn_cpu.proofs.processors.Cpu.meet.Goals as goal

pub store-requires : goal.store-requires
store-requires g c =
    storable-kept g.M.Space.access c.args.self.now.memory c.exchange.new.self.memory c.exchange.ensures.extents c.args.channel c.requires

pub enqueue-requires : goal.enqueue-requires
enqueue-requires g c =
    let access = g.M.Space.access in
    enqueue-after access _ c.exchange.new.self c.store.new.self c.store.ensures.value c.store.ensures.extents
    (enqueue-after access _ c.args.self.now c.exchange.new.self c.exchange.ensures.value c.exchange.ensures.extents
    (sym c.enqueue_refusal.ensures ∙ second-allowed _ _ (sym c.first_refusal-own.ensures ∙ second-allowed _ _ (sym c.in_default.ensures))))
