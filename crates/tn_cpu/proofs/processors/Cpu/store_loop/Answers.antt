use Rattle.std.proofs.Common.{sym}
use Rattle.tn_cpu.proofs.Words.{loadable-storable}
use Rattle.tn_cpu.proofs.Tests.{storable-kept, loop-index}
use Rattle.tn_cpu.proofs.processors.Cpu.store_loop.Goals as goal

pub word_at-index-requires : goal.word_at-index-requires
word_at-index-requires g c =
    let access = g.M.Space.access in
    let m = c.args.self.now.memory in
    loadable-storable access m c.args.w g.met.M.Space.lawful
    (loop-index access c.args.w c.args.count m c.requires.count (sym c.if-is_loop_taken.ensures) c.requires.tested)

pub store-requires : goal.store-requires
store-requires g c =
    let access = g.M.Space.access in
    let m = c.args.self.now.memory in
    storable-kept access m c.lower_count.new.self.memory c.lower_count.ensures.extents c.args.w
    (loop-index access c.args.w c.args.count m c.requires.count (sym c.if-is_loop_taken.ensures) c.requires.tested)
