-- The tests of a timeslice hold as it goes on.
use Rattle.std.proofs.Common.{◌≡◌, ℕ, true, None, sym, ap, subst, ◌∙◌}
use Rattle.std.proofs.lemmas.Bool.{and_from}
use Rattle.tn_cpu.specs.States.{State, below}
use Rattle.tn_cpu.specs.Turns.{Ended, goes_on}
use Rattle.tn_cpu.specs.Queues.{storable, enqueue_refusal, enqueued, next_refusal, is_waiting, saved}
use Rattle.tn_cpu.proofs.Words.{extents-stored}
use Rattle.tn_cpu.proofs.Tests.{slice-tests, enqueue-kept, next-kept, next-enqueued}
use Rattle.tn_cpu.proofs.processors.Cpu.go_on_or_slice.Goals as goal

pub save-requires : goal.save-requires
save-requires g c =
    let access = g.M.Space.access in
    let now = c.args.self.now in
    let at : goes_on c.args.iptr now ≡ c.go_on-outcome.new.self = ap (λ (e : Ended _). e.state) c.go_on-outcome.ensures in
    let waits : is_waiting now.front ≡ true = ap (λ (u : State _). is_waiting u.front) at ∙ sym (c.if-is_waiting.ensures) in
    let tests = slice-tests access c.args.slice now (and_from _ _ waits c.if-slice.true) c.requires in
    subst (λ (u : State _). storable access u.memory (below u.wptr 4) ≡ None) at tests.saved

pub enqueue-requires : goal.enqueue-requires
enqueue-requires g c =
    let access = g.M.Space.access in
    let now = c.args.self.now in
    let at : goes_on c.args.iptr now ≡ c.go_on-outcome.new.self = ap (λ (e : Ended _). e.state) c.go_on-outcome.ensures in
    let waits : is_waiting now.front ≡ true = ap (λ (u : State _). is_waiting u.front) at ∙ sym (c.if-is_waiting.ensures) in
    let tests = slice-tests access c.args.slice now (and_from _ _ waits c.if-slice.true) c.requires in
    let after : saved access c.args.iptr (goes_on c.args.iptr now) ≡ c.save.new.self = ap (saved access c.args.iptr) at
    ∙ sym c.save.ensures.value in
    subst (λ (u : State _). enqueue_refusal access u.memory u.front u.back ≡ None) after
    (enqueue-kept access now.memory _
    (extents-stored access now.memory (below now.wptr 4) c.args.iptr g.met.M.Space.lawful) now.front now.back tests.enqueued)

pub next-requires : goal.next-requires
next-requires g c =
    let access = g.M.Space.access in
    let laws = g.met.M.Space.lawful in
    let now = c.args.self.now in
    let at : goes_on c.args.iptr now ≡ c.go_on-outcome.new.self = ap (λ (e : Ended _). e.state) c.go_on-outcome.ensures in
    let waits : is_waiting now.front ≡ true = ap (λ (u : State _). is_waiting u.front) at ∙ sym (c.if-is_waiting.ensures) in
    let tests = slice-tests access c.args.slice now (and_from _ _ waits c.if-slice.true) c.requires in
    let after : saved access c.args.iptr (goes_on c.args.iptr now) ≡ c.save.new.self = ap (saved access c.args.iptr) at
    ∙ sym c.save.ensures.value in
    let process : c.enqueue.inside.registers.wptr ≡ now.wptr = ap (λ (u : State _). u.wptr) (c.enqueue.view_is ∙ sym after) in
    let queued : enqueued access now.wptr (saved access c.args.iptr (goes_on c.args.iptr now)) ≡ c.enqueue-then-slice.new.self =
    ap (enqueued access now.wptr) after ∙
    (ap (λ (p : ℕ). enqueued access p c.save.new.self) (sym process) ∙ sym c.enqueue-then-slice.ensures.value) in
    subst (λ (u : State _). next_refusal access u.memory u.front u.back ≡ None) queued
    (next-enqueued access now.wptr (saved access c.args.iptr (goes_on c.args.iptr now)) laws waits
    (next-kept access now.memory _ (extents-stored access now.memory (below now.wptr 4) c.args.iptr laws) now.front now.wptr tests.next))
