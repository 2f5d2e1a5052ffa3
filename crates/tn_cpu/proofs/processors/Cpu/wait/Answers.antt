use Rattle.std.proofs.Common.{◌≡◌, ℕ, None, sym, ap, subst, ◌∙◌}
use Rattle.tn_cpu.specs.States.{State, below}
use Rattle.tn_cpu.specs.Queues.{storable, next_refusal}
use Rattle.tn_cpu.proofs.Tests.{first-allowed, second-allowed, storable-kept, next-after}
use Rattle.tn_cpu.proofs.processors.Cpu.wait.Goals as goal

-- each word that it stores was tested
pub store-requires : goal.store-requires
store-requires g c =
    let access = g.M.Space.access in
    let now = c.args.self.now in
    let tested : storable access now.memory c.below.result ≡ None =
    sym c.storable.ensures ∙ first-allowed _ _ (sym c.first_refusal-workspace.ensures ∙ second-allowed _ _ (sym c.in_default.ensures)) in
    let own : c.below.result ≡ below now.wptr 12 = c.below.ensures ∙ ap (λ (u : State _). below u.wptr 12) c.self.view_is in
    let there : c.below-3.result ≡ below now.wptr 12 =
    c.below-3.ensures ∙ ap (λ (u : State _). below u.wptr 12) (c.store.view_is ∙ c.save.ensures.value) in
    subst (λ (a : ℕ). storable access c.save.new.self.memory a ≡ None) (own ∙ sym there)
    (storable-kept access now.memory c.save.new.self.memory c.save.ensures.extents c.below.result tested)

pub store-requires-2 : goal.store-requires-2
store-requires-2 g c =
    let access = g.M.Space.access in
    storable-kept access c.save.new.self.memory c.store-2.new.self.memory c.store-2.ensures.extents c.args.channel
    (storable-kept access c.args.self.now.memory c.save.new.self.memory c.save.ensures.extents c.args.channel c.requires)

pub give_way-requires : goal.give_way-requires
give_way-requires g c =
    let access = g.M.Space.access in
    let now = c.args.self.now in
    let tested : next_refusal g.M.Space.access now.memory now.front now.back ≡ None =
    subst (λ (u : State _). next_refusal g.M.Space.access now.memory now.front u.back ≡ None) c.self.view_is
    (sym c.next_refusal.ensures ∙ second-allowed _ _
    (sym c.first_refusal-workspace.ensures ∙ second-allowed _ _ (sym c.in_default.ensures))) in
    next-after access _ c.store-2.new.self c.store-4.new.self c.store-4.ensures.value c.store-4.ensures.extents
    (next-after access _ c.save.new.self c.store-2.new.self c.store-2.ensures.value c.store-2.ensures.extents
    (next-after access _ now c.save.new.self c.save.ensures.value c.save.ensures.extents
    tested))
