use Rattle.std.proofs.Common.{Vec, Global, List, ℕ, refl}
use Rattle.tn_text.proofs.Results.{of-error}
use Rattle.tn_top.specs.Plans.{then_plan}
use Rattle.tn_top.specs.Commands.{library_plan, written_from}
use Rattle.tn_top.specs.Inner.Ends.{Ends}
use Rattle.tn_top.proofs.EndLaws.{ends_stopped, ends_written}
use Rattle.tn_top.proofs.commands.lib.Goals as goal

pub returns-in_err-text : goal.returns-in_err-text
returns-in_err-text g c = λ said.
    let seen : Vec ℕ Global → List ℕ = λ text. text.items in
    let rest = written_from c.args.target.now (λ text. text) in
    let plan = library_plan c.args.sources.now in
    let before = g.S.Store.stored c.args.store.now in
    let after = g.S.Store.stored c.read_library_text.new.store in
    of-error (Ends (then_plan plan rest) before after said said) c.from_residual.result c.in_err-text.field-0.0 c.from_residual.ensures.1
    (ends_stopped seen rest plan before after said c.in_err-text.field-0.0 c.in_err-text.ensures)

pub returns : goal.returns
returns g c = λ said.
    let seen : Vec ℕ Global → List ℕ = λ text. text.items in
    let before = g.S.Store.stored c.args.store.now in
    let read = g.S.Store.stored c.read_library_text.new.store in
    let after = g.S.Store.stored c.write_file.new.store in
    let text = c.in_ok-text.text in
    ends_written seen (written_from c.args.target.now (λ text. text)) (library_plan c.args.sources.now) before read after said said text
    c.in_ok-text.ensures c.args.target.now text.items c.write_file.result refl
    (rw c.deref.ensures.value at c.write_file.ensures)
