use Rattle.std.proofs.Common.{◌≡◌, ℕ, None, sym, ap, subst, ◌∙◌}
use Rattle.tn_mem.specs.Spaces.{SameExtents}
use Rattle.tn_cpu.specs.States.{State}
use Rattle.tn_cpu.specs.Queues.{loadable}
use Rattle.tn_cpu.proofs.Words.{loadable-storable}
use Rattle.tn_cpu.proofs.Tests.{first-allowed, second-allowed, loop-count, slice-after}
use Rattle.tn_cpu.proofs.processors.Cpu.lend.Goals as goal

pub word_at-count-requires : goal.word_at-count-requires
word_at-count-requires g c =
    let access = g.M.Space.access in
    let m = c.args.self.now.memory in
    let tested = sym c.loop_refusal.ensures ∙ first-allowed _ _ (sym c.in_default-refusal.ensures) in
    subst (λ (a : ℕ). loadable access m a ≡ None) (sym c.words_above.ensures)
    (loadable-storable access m _ g.met.M.Space.lawful (loop-count access c.in-Word-Word.w m tested))

pub go_on_or_slice-requires : goal.go_on_or_slice-requires
go_on_or_slice-requires g c =
    let access = g.M.Space.access in
    let now = c.args.self.now in
    let stored = c.store_loop.ensures.value in
    slice-after access c.args.turn.slice now c.clear.new.self
    (subst (λ (u : State _). SameExtents access now.memory u.memory) (sym c.clear.ensures) c.store_loop.ensures.extents)
    (ap (λ (u : State _). u.front) c.clear.ensures ∙ ap (λ (u : State _). u.front) stored)
    (ap (λ (u : State _). u.back) c.clear.ensures ∙ ap (λ (u : State _). u.back) stored)
    (ap (λ (u : State _). u.wptr) c.clear.ensures ∙ ap (λ (u : State _). u.wptr) stored)
    (sym c.slice_refusal.ensures ∙ second-allowed _ _ (sym c.in_default-refusal.ensures))
