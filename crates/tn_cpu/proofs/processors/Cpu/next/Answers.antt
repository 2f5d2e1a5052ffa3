use Rattle.std.proofs.Common.{◌≡◌, ◌≢◌, None, sym, ap, subst, ◌∙◌}
use Rattle.tn_word.specs.Words.{not_process}
use Rattle.tn_cpu.specs.declared.registers.Reg.{Reg}
use Rattle.tn_cpu.specs.declared.registers.Reg.TheVariants.{Word}
use Rattle.tn_cpu.specs.States.{State}
use Rattle.tn_cpu.specs.Queues.{next_refusal}
use Rattle.tn_cpu.proofs.Tests.{next-loadable}
use Rattle.tn_cpu.proofs.processors.Cpu.next.Goals as goal

pub resume-requires : goal.resume-requires
resume-requires g c =
    let now = c.args.self.now in
    let front : now.front ≡ Word c.in-Word.front = sym (ap (λ (u : State _). u.front) c.self.view_is) ∙ c.in-Word.is in
    let some : c.in-Word.front ≢ not_process = rw c.in-Word.is at c.in-Word.front-test.1 in
    next-loadable g.M.Space.access now.memory c.in-Word.front now.back some
    (subst (λ (r : Reg). next_refusal g.M.Space.access now.memory r now.back ≡ None) front c.requires)
