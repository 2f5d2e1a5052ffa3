use Rattle.std.proofs.Common.{List, subst}
use Rattle.tn_text.proofs.Results.{of-error}
use Rattle.tn_module.specs.declared.modules.Library.{Library}
use Rattle.tn_module.specs.Modules.{Parts}
use Rattle.tn_top.specs.SystemPlans.{library_in, library_file_plan}
use Rattle.tn_top.specs.Inner.Stages.{Staged, Makes}
use Rattle.tn_top.proofs.StageLaws.{staged-read, staged-unread}
use Rattle.tn_top.proofs.systems.read_library_file.Goals as goal

abbrev seen : Library → List Parts
seen l = l.modules.items

pub returns-in_err-text-clause-staged : goal.returns-in_err-text-clause-staged
returns-in_err-text-clause-staged g c =
    let file = c.args.file.now in
    let before = g.S.Store.stored c.args.store.now in
    let after = g.S.Store.stored c.read_file.new.store in
    of-error (Staged seen (library_file_plan file) before after) c.from_residual.result c.in_err-text.field-0.0
    c.from_residual.ensures.1
    (staged-unread seen (library_in file) file before after c.in_err-text.field-0.0 c.in_err-text.ensures.staged)

pub returns-clause-staged : goal.returns-clause-staged
returns-clause-staged g c =
    let file = c.args.file.now in
    staged-read seen (library_in file) file (g.S.Store.stored c.args.store.now) (g.S.Store.stored c.read_file.new.store)
    c.in_ok-text.text c.library_in.result c.in_ok-text.ensures.staged
    (subst (λ t. Makes seen (library_in file t) c.library_in.result) c.deref.ensures.value c.library_in.ensures.made)
