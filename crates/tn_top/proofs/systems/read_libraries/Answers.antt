use Rattle.std.proofs.Common.{◌+◌, ◌∷◌, ◌++◌, [], Vec, Global, List, map, refl, sym, ap, ◌∙◌, subst, arith}
use Rattle.std.proofs.lemmas.List.{map-append, length-map}
use Rattle.tn_text.proofs.Results.{of-error}
use Rattle.tn_module.specs.declared.modules.Library.{Library}
use Rattle.tn_module.specs.Modules.{Parts}
use Rattle.tn_system.specs.Sources.{IsShortLibrary}
use Rattle.tn_top.specs.declared.refusals.Refusal.TheVariants.{NoMemory}
use Rattle.tn_top.specs.Plans.{each}
use Rattle.tn_top.specs.SystemPlans.{library_file_plan}
use Rattle.tn_top.specs.Inner.Stages.{Staged}
use Rattle.tn_top.proofs.ReadLoops.{HasRead, none-read, one-read, one-unread, none-kept, all-read}
use Rattle.tn_top.proofs.systems.read_libraries.Goals as goal

abbrev seen : Library → List Parts
seen l = l.modules.items

abbrev all_seen : Vec Library Global → List (List Parts)
all_seen shelf = map seen shelf.items

pub loop-file-init : goal.loop-file-init
loop-file-init g c =
    let start = g.S.Store.stored c.args.store.now in
    subst (λ items. HasRead IsShortLibrary library_file_plan c.args.files.now 0 (map seen items) start start)
    (sym c.new-shelf.ensures.items) (none-read IsShortLibrary library_file_plan c.args.files.now start)

pub returns-in_err-read-clause-staged : goal.returns-in_err-read-clause-staged
returns-in_err-read-clause-staged g c =
    let l = c.loop-file in
    let before = g.S.Store.stored c.args.store.now in
    let after = g.S.Store.stored c.read_library_file.new.store in
    of-error (Staged all_seen (each library_file_plan c.args.files.now) before after) c.from_residual.result c.in_err-read.field-0.0
    c.from_residual.ensures.1
    (one-unread IsShortLibrary library_file_plan c.args.files.now seen l.file-index c.file-item.result (all_seen l.shelf) before
    (g.S.Store.stored l.store) after c.loop-file-test.true c.file-item.is l.invariant all_seen c.in_err-read.field-0.0
    c.in_err-read.ensures.staged)

pub returns-in_err-push-clause-staged : goal.returns-in_err-push-clause-staged
returns-in_err-push-clause-staged g c =
    let l = c.loop-file in
    let before = g.S.Store.stored c.args.store.now in
    let after = g.S.Store.stored c.read_library_file.new.store in
    of-error (Staged all_seen (each library_file_plan c.args.files.now) before after) c.from_residual-in_err-push.result NoMemory
    c.from_residual-in_err-push.ensures.1
    (none-kept IsShortLibrary library_file_plan c.args.files.now all_seen (l.file-index + 1)
    (all_seen l.shelf ++ seen c.in_ok-read.read ∷ []) before after
    (one-read IsShortLibrary library_file_plan c.args.files.now seen l.file-index c.file-item.result (all_seen l.shelf) before
    (g.S.Store.stored l.store) after c.loop-file-test.true c.file-item.is l.invariant c.in_ok-read.read c.in_ok-read.ensures.staged
    c.in_ok-read.ensures.short))

pub loop-file-preserved : goal.loop-file-preserved
loop-file-preserved g c =
    let l = c.loop-file in
    let before = g.S.Store.stored c.args.store.now in
    let after = g.S.Store.stored c.read_library_file.new.store in
    subst (λ done. HasRead IsShortLibrary library_file_plan c.args.files.now (l.file-index + 1) done before after)
    (sym (ap (map seen) c.in_ok-push.ensures.items ∙ map-append seen l.shelf.items (c.in_ok-read.read ∷ [])))
    (one-read IsShortLibrary library_file_plan c.args.files.now seen l.file-index c.file-item.result (all_seen l.shelf) before
    (g.S.Store.stored l.store) after c.loop-file-test.true c.file-item.is l.invariant c.in_ok-read.read c.in_ok-read.ensures.staged
    c.in_ok-read.ensures.short)

pub returns-clause-staged : goal.returns-clause-staged
returns-clause-staged g c =
    let l = c.loop-file in
    all-read IsShortLibrary library_file_plan c.args.files.now all_seen l.file-index (all_seen l.shelf)
    (g.S.Store.stored c.args.store.now) (g.S.Store.stored l.store) l.shelf
    (λ inside. omega (arith, inside, c.loop-file-test.false)) l.invariant refl

pub returns-clause-short : goal.returns-clause-short
returns-clause-short g c = c.loop-file.invariant.each

pub returns-clause-as_many : goal.returns-clause-as_many
returns-clause-as_many g c =
    omega (arith, c.loop-file.invariant.count, c.loop-file-test.false, length-map c.loop-file.shelf.items seen)
