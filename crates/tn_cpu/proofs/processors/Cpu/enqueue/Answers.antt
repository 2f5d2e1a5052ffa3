use Rattle.std.proofs.Common.{◌≡◌, ◌≢◌, None, sym, ap, subst, ◌∙◌}
use Rattle.tn_word.specs.Words.{not_process}
use Rattle.tn_cpu.specs.declared.registers.Reg.{Reg}
use Rattle.tn_cpu.specs.declared.registers.Reg.TheVariants.{Word}
use Rattle.tn_cpu.specs.States.{State, below}
use Rattle.tn_cpu.specs.Queues.{storable, enqueue_refusal}
use Rattle.tn_cpu.proofs.Tests.{enqueue-storable}
use Rattle.tn_cpu.proofs.processors.Cpu.enqueue.Goals as goal

pub store-requires : goal.store-requires
store-requires g c =
    let now = c.args.self.now in
    let front : now.front ≡ Word c.in-Word.field-0 = sym (ap (λ (u : State _). u.front) c.self.view_is) ∙ c.in-Word.is in
    let some : c.in-Word.field-0 ≢ not_process = λ e. c.in-Word.field-0-test.1 (c.in-Word.field-0-is ∙ e) in
    let back : c.below.result ≡ below now.back 8 = c.below.ensures ∙ ap (λ (u : State _). below u.back 8) c.store.view_is in
    ap (storable g.M.Space.access now.memory) back
    ∙ enqueue-storable g.M.Space.access now.memory c.in-Word.field-0 now.back some
    (subst (λ (r : Reg). enqueue_refusal g.M.Space.access now.memory r now.back ≡ None) front c.requires)
