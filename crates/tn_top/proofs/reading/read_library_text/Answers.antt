use Rattle.std.proofs.Common.{Vec, Global, List, ℕ, Err, refl, sym, subst, length, arith}
use Rattle.tn_text.specs.declared.limits.Limit.TheVariants.{Modules}
use Rattle.tn_text.proofs.Results.{of-error}
use Rattle.tn_module.specs.Modules.{Parts}
use Rattle.tn_top.specs.declared.refusals.Refusal.TheVariants.{Limit}
use Rattle.tn_top.specs.Plans.{Plan, limit, then_plan, at_once, each}
use Rattle.tn_top.specs.ModulePlans.{module_plan}
use Rattle.tn_top.specs.Commands.{library_text}
use Rattle.tn_top.specs.Inner.Stages.{Staged}
use Rattle.tn_top.proofs.StageLaws.{staged-stopped, staged-then, staged-made}
use Rattle.tn_top.proofs.LibraryTexts.{sources-within, sources-above}
use Rattle.tn_top.proofs.reading.read_library_text.Goals as goal

abbrev seen : Vec ℕ Global → List ℕ
seen text = text.items

abbrev all_seen : Vec Parts Global → List Parts
all_seen modules = modules.items

pub returns-then-sources-gt-MODULE_LIMIT : goal.returns-then-sources-gt-MODULE_LIMIT
returns-then-sources-gt-MODULE_LIMIT g c =
    let sources = c.args.sources.now in
    let stored = g.S.Store.stored c.args.store.now in
    subst (λ (p : Plan (List ℕ)). Staged seen p stored stored (Err (Limit Modules (length sources))))
    (sym (sources-above sources (omega (arith, c.if-sources-gt-MODULE_LIMIT.true))))
    (staged-made seen (Err (limit Modules (length sources))) stored (Err (Limit Modules (length sources))) refl)

pub returns-in_err-modules : goal.returns-in_err-modules
returns-in_err-modules g c =
    let sources = c.args.sources.now in
    let before = g.S.Store.stored c.args.store.now in
    let after = g.S.Store.stored c.read_modules.new.store in
    subst (λ (p : Plan (List ℕ)). Staged seen p before after c.from_residual.result)
    (sym (sources-within sources (omega (arith, c.if-sources-gt-MODULE_LIMIT.false))))
    (of-error (Staged seen (then_plan (each module_plan sources) (λ modules. at_once (library_text modules))) before after)
    c.from_residual.result c.in_err-modules.field-0.0 c.from_residual.ensures.1
    (staged-stopped all_seen seen (λ modules. at_once (library_text modules)) (each module_plan sources) before after
    c.in_err-modules.field-0.0 c.in_err-modules.ensures.staged))

pub returns : goal.returns
returns g c =
    let sources = c.args.sources.now in
    let before = g.S.Store.stored c.args.store.now in
    let after = g.S.Store.stored c.read_modules.new.store in
    let modules = c.in_ok-modules.modules in
    subst (λ (p : Plan (List ℕ)). Staged seen p before after c.library_text.result)
    (sym (sources-within sources (omega (arith, c.if-sources-gt-MODULE_LIMIT.false))))
    (staged-then all_seen seen (λ ms. at_once (library_text ms)) (each module_plan sources) before after after modules c.library_text.result
    c.in_ok-modules.ensures.staged (staged-made seen (library_text modules.items) after c.library_text.result c.library_text.ensures))
