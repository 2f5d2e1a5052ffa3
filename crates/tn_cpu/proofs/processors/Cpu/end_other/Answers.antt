use Rattle.std.proofs.Common.{◌≡◌, None, sym, subst}
use Rattle.tn_cpu.specs.States.{State}
use Rattle.tn_cpu.specs.Queues.{next_refusal}
use Rattle.tn_cpu.proofs.Tests.{next-after}
use Rattle.tn_cpu.proofs.processors.Cpu.end_other.Goals as goal

pub give_way-requires : goal.give_way-requires
give_way-requires g c =
    let now = c.args.self.now in
    next-after g.M.Space.access _ now c.lower_count.new.self c.lower_count.ensures.value c.lower_count.ensures.extents
    (subst (λ (u : State _). next_refusal g.M.Space.access now.memory now.front u.back ≡ None) c.self.view_is
    (sym c.in_default-next_refusal.ensures))
