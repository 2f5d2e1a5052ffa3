use Rattle.std.proofs.Common.{Vec, Global, List, ℕ, subst}
use Rattle.tn_text.proofs.Results.{of-error}
use Rattle.tn_top.specs.Commands.{code_in, code_plan}
use Rattle.tn_top.specs.Inner.Stages.{Staged, Makes}
use Rattle.tn_top.proofs.StageLaws.{staged-read, staged-unread}
use Rattle.tn_top.proofs.reading.read_code.Goals as goal

abbrev seen : Vec ℕ Global → List ℕ
seen code = code.items

pub returns-in_err-text-clause-staged : goal.returns-in_err-text-clause-staged
returns-in_err-text-clause-staged g c =
    let source = c.args.source.now in
    let before = g.S.Store.stored c.args.store.now in
    let after = g.S.Store.stored c.read_file.new.store in
    of-error (Staged seen (code_plan source) before after) c.from_residual.result c.in_err-text.field-0.0 c.from_residual.ensures.1
    (staged-unread seen (code_in source) source before after c.in_err-text.field-0.0 c.in_err-text.ensures.staged)

pub returns-clause-staged : goal.returns-clause-staged
returns-clause-staged g c =
    let source = c.args.source.now in
    staged-read seen (code_in source) source (g.S.Store.stored c.args.store.now) (g.S.Store.stored c.read_file.new.store)
    c.in_ok-text.text c.code_in.result c.in_ok-text.ensures.staged
    (subst (λ t. Makes seen (code_in source t) c.code_in.result) c.deref.ensures.value c.code_in.ensures.made)
