use Rattle.std.proofs.Common.{◌≡◌, ℕ, None, sym, subst, ◌∙◌}
use Rattle.tn_cpu.specs.Queues.{loadable}
use Rattle.tn_cpu.proofs.Words.{loadable-storable}
use Rattle.tn_cpu.proofs.processors.Cpu.loop_refusal.Goals as goal

pub word_at-requires : goal.word_at-requires
word_at-requires g c =
    let m = c.args.self.now.memory in
    subst (λ (a : ℕ). loadable g.M.Space.access m a ≡ None) (c.words_above.ensures ∙ sym c.words_above-2.ensures)
    (loadable-storable g.M.Space.access m c.words_above.result g.met.M.Space.lawful (sym c.in_default.ensures))
