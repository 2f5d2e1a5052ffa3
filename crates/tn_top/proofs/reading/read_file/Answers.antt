use Rattle.std.proofs.Common.{Vec, Global, ℕ, Err, sym, subst}
use Rattle.tn_top.specs.declared.refusals.Refusal.TheVariants.{Unread}
use Rattle.tn_top.specs.Plans.{reads, gives}
use Rattle.tn_top.specs.Inner.Stages.{Staged}
use Rattle.tn_top.proofs.ReadLaws.{read-ok, read-failed, read-long}
use Rattle.tn_top.proofs.reading.read_file.Goals as goal

pub returns-in-Ok-clause-staged : goal.returns-in-Ok-clause-staged
returns-in-Ok-clause-staged g c =
    let gets = c.in-Ok.ensures.gets in
    let reads = rw c.text.ensures.text at gets.reads in
    read-ok c.args.name.now (g.S.Store.stored c.args.store.now) (g.S.Store.stored c.get.new.self) gets.same gets.count c.get.new.into
    reads.0 reads.1

pub returns-in-Err-Failed-clause-staged : goal.returns-in-Err-Failed-clause-staged
returns-in-Err-Failed-clause-staged g c =
    let gets = c.in-Err-Failed.ensures.gets in
    let read = rw (c.in-Err-Failed.field-0-is, c.text.ensures.text) at gets.reads in
    subst (λ n. Staged {T = Vec ℕ Global} (λ t. t.items) (reads c.args.name.now gives) (g.S.Store.stored c.args.store.now)
    (g.S.Store.stored c.get.new.self) (Err (Unread n))) (sym c.copied.ensures)
    (read-failed c.args.name.now (g.S.Store.stored c.args.store.now) (g.S.Store.stored c.get.new.self) gets.same gets.count read.1)

pub returns-in-Err-TooLong-clause-staged : goal.returns-in-Err-TooLong-clause-staged
returns-in-Err-TooLong-clause-staged g c =
    let gets = c.in-Err-TooLong.ensures.gets in
    let read = rw (c.in-Err-TooLong.field-0-is, c.text.ensures.text) at gets.reads in
    read-long c.args.name.now (g.S.Store.stored c.args.store.now) (g.S.Store.stored c.get.new.self) gets.same gets.count read.2
