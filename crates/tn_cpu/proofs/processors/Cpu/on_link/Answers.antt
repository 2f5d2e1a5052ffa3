use Rattle.std.proofs.Common.{rules}
use Rattle.std.proofs.Common.{◌≡◌, None, sym, subst, ◌∙◌}
use Rattle.tn_cpu.specs.States.{State}
use Rattle.tn_cpu.specs.Queues.{next_refusal}
use Rattle.tn_cpu.proofs.Tests.{second-allowed, next-after}
use Rattle.tn_cpu.proofs.processors.Cpu.on_link.Goals as goal

pub next-requires : goal.next-requires
next-requires g c =
    let now = c.args.self.now in
    let tested : next_refusal g.M.Space.access now.memory now.front now.back ≡ None =
    subst (λ (u : State _). next_refusal g.M.Space.access now.memory now.front u.back ≡ None) c.self.view_is
    (sym c.next_refusal.ensures ∙ second-allowed _ _
    (sym c.first_refusal-words.ensures ∙ second-allowed _ _ (sym c.in_default-first_refusal.ensures))) in
    next-after g.M.Space.access _ now c.save.new.self c.save.ensures.value c.save.ensures.extents
    tested

pub returns-in-Some : goal.returns-in-Some
returns-in-Some g c = search rules

pub returns : goal.returns
returns g c = search rules
