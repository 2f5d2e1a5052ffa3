use Rattle.std.proofs.Common.{Vec, Global, List, ℕ, refl}
use Rattle.tn_text.proofs.Results.{of-error}
use Rattle.tn_top.specs.Plans.{then_plan}
use Rattle.tn_top.specs.Commands.{code_plan, written_from}
use Rattle.tn_top.specs.Inner.Ends.{Ends}
use Rattle.tn_top.proofs.EndLaws.{ends_stopped, ends_written}
use Rattle.tn_top.proofs.commands.flat.Goals as goal

pub returns-in_err-code : goal.returns-in_err-code
returns-in_err-code g c = λ said.
    let seen : Vec ℕ Global → List ℕ = λ code. code.items in
    let rest = written_from c.args.target.now (λ code. code) in
    let plan = code_plan c.args.source.now in
    let before = g.S.Store.stored c.args.store.now in
    let after = g.S.Store.stored c.read_code.new.store in
    of-error (Ends (then_plan plan rest) before after said said) c.from_residual.result c.in_err-code.field-0.0 c.from_residual.ensures.1
    (ends_stopped seen rest plan before after said c.in_err-code.field-0.0 c.in_err-code.ensures.staged)

pub returns : goal.returns
returns g c = λ said.
    let seen : Vec ℕ Global → List ℕ = λ code. code.items in
    let before = g.S.Store.stored c.args.store.now in
    let read = g.S.Store.stored c.read_code.new.store in
    let after = g.S.Store.stored c.write_file.new.store in
    let code = c.in_ok-code.code in
    ends_written seen (written_from c.args.target.now (λ code. code)) (code_plan c.args.source.now) before read after said said code
    c.in_ok-code.ensures.staged c.args.target.now code.items c.write_file.result refl
    (rw c.deref.ensures.value at c.write_file.ensures)
