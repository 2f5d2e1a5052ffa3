use Rattle.std.proofs.Common.{◌≡◌, ℕ, None, sym, subst}
use Rattle.tn_mem.proofs.SpaceLemmas.{extents-more}
use Rattle.tn_cpu.specs.Queues.{storable}
use Rattle.tn_cpu.proofs.Tests.{first-allowed, second-allowed, storable-kept}
use Rattle.tn_cpu.proofs.processors.Cpu.store_frame.Goals as goal

-- the four words of the frame were tested before the first store
pub store-requires-2 : goal.store-requires-2
store-requires-2 g c =
    let access = g.M.Space.access in
    subst (λ (a : ℕ). storable access c.store.new.self.memory a ≡ None) (sym c.words_above.ensures)
    (storable-kept access c.args.self.now.memory c.store.new.self.memory c.store.ensures.extents _
    (second-allowed _ _ (first-allowed _ _ c.requires)))

pub store-requires-3 : goal.store-requires-3
store-requires-3 g c =
    let access = g.M.Space.access in
    let same = extents-more access _ _ _ c.store.ensures.extents c.store-3.ensures.extents in
    subst (λ (a : ℕ). storable access c.store-3.new.self.memory a ≡ None) (sym c.words_above-2.ensures)
    (storable-kept access c.args.self.now.memory c.store-3.new.self.memory same _
    (first-allowed _ _ (second-allowed _ _ c.requires)))

pub store-requires-4 : goal.store-requires-4
store-requires-4 g c =
    let access = g.M.Space.access in
    let earlier = extents-more access _ _ _ c.store.ensures.extents c.store-3.ensures.extents in
    let same = extents-more access _ _ _ earlier c.store-5.ensures.extents in
    subst (λ (a : ℕ). storable access c.store-5.new.self.memory a ≡ None) (sym c.words_above-3.ensures)
    (storable-kept access c.args.self.now.memory c.store-5.new.self.memory same _
    (second-allowed _ _ (second-allowed _ _ c.requires)))
