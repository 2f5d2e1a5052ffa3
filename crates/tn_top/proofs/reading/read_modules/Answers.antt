use Rattle.std.proofs.Common.{◌+◌, ◌∷◌, ◌++◌, [], Vec, Global, List, refl, sym, subst, arith}
use Rattle.tn_text.proofs.Results.{of-error}
use Rattle.tn_module.specs.Modules.{Parts}
use Rattle.tn_system.specs.Sources.{HasFewLines}
use Rattle.tn_top.specs.declared.refusals.Refusal.TheVariants.{NoMemory}
use Rattle.tn_top.specs.Plans.{each}
use Rattle.tn_top.specs.ModulePlans.{module_plan}
use Rattle.tn_top.specs.Inner.Stages.{Staged}
use Rattle.tn_top.proofs.ReadLoops.{HasRead, none-read, one-read, one-unread, none-kept, all-read}
use Rattle.tn_top.proofs.reading.read_modules.Goals as goal

abbrev same : Parts → Parts
same m = m

abbrev all_seen : Vec Parts Global → List Parts
all_seen modules = modules.items

pub loop-source-init : goal.loop-source-init
loop-source-init g c =
    let start = g.S.Store.stored c.args.store.now in
    subst (λ items. HasRead HasFewLines module_plan c.args.sources.now 0 items start start) (sym c.new-modules.ensures.items)
    (none-read HasFewLines module_plan c.args.sources.now start)

pub returns-in_err-read-clause-staged : goal.returns-in_err-read-clause-staged
returns-in_err-read-clause-staged g c =
    let l = c.loop-source in
    let before = g.S.Store.stored c.args.store.now in
    let after = g.S.Store.stored c.read_module_text.new.store in
    of-error (Staged all_seen (each module_plan c.args.sources.now) before after) c.from_residual.result c.in_err-read.field-0.0
    c.from_residual.ensures.1
    (one-unread HasFewLines module_plan c.args.sources.now same l.source-index c.source-item.result l.modules.items before
    (g.S.Store.stored l.store) after c.loop-source-test.true c.source-item.is l.invariant all_seen c.in_err-read.field-0.0
    c.in_err-read.ensures.staged)

pub returns-in_err-push-clause-staged : goal.returns-in_err-push-clause-staged
returns-in_err-push-clause-staged g c =
    let l = c.loop-source in
    let before = g.S.Store.stored c.args.store.now in
    let after = g.S.Store.stored c.read_module_text.new.store in
    of-error (Staged all_seen (each module_plan c.args.sources.now) before after) c.from_residual-in_err-push.result NoMemory
    c.from_residual-in_err-push.ensures.1
    (none-kept HasFewLines module_plan c.args.sources.now all_seen (l.source-index + 1) (l.modules.items ++ c.in_ok-read.read ∷ []) before
    after
    (one-read HasFewLines module_plan c.args.sources.now same l.source-index c.source-item.result l.modules.items before
    (g.S.Store.stored l.store) after c.loop-source-test.true c.source-item.is l.invariant c.in_ok-read.read c.in_ok-read.ensures.staged
    c.in_ok-read.ensures.few_lines))

pub loop-source-preserved : goal.loop-source-preserved
loop-source-preserved g c =
    let l = c.loop-source in
    let before = g.S.Store.stored c.args.store.now in
    let after = g.S.Store.stored c.read_module_text.new.store in
    subst (λ done. HasRead HasFewLines module_plan c.args.sources.now (l.source-index + 1) done before after)
    (sym c.in_ok-push.ensures.items)
    (one-read HasFewLines module_plan c.args.sources.now same l.source-index c.source-item.result l.modules.items before
    (g.S.Store.stored l.store) after c.loop-source-test.true c.source-item.is l.invariant c.in_ok-read.read c.in_ok-read.ensures.staged
    c.in_ok-read.ensures.few_lines)

pub returns-clause-staged : goal.returns-clause-staged
returns-clause-staged g c =
    let l = c.loop-source in
    all-read HasFewLines module_plan c.args.sources.now all_seen l.source-index l.modules.items (g.S.Store.stored c.args.store.now)
    (g.S.Store.stored l.store) l.modules (λ inside. omega (arith, inside, c.loop-source-test.false)) l.invariant refl

pub returns-clause-few_lines : goal.returns-clause-few_lines
returns-clause-few_lines g c = c.loop-source.invariant.each

pub returns-clause-as_many : goal.returns-clause-as_many
returns-clause-as_many g c = omega (arith, c.loop-source.invariant.count, c.loop-source-test.false)
