use Rattle.std.proofs.Common.{sym}
use Rattle.tn_cpu.proofs.Words.{loadable-storable}
use Rattle.tn_cpu.proofs.processors.Cpu.on_internal.Goals as goal

pub word_at-word-requires : goal.word_at-word-requires
word_at-word-requires g c =
    loadable-storable g.M.Space.access c.args.self.now.memory c.args.channel g.met.M.Space.lawful (sym c.in_default-refusal.ensures)
