use Rattle.std.proofs.Common.{Vec, Global, List, ℕ, subst}
use Rattle.tn_text.proofs.Results.{of-error}
use Rattle.tn_top.specs.Plans.{reads, gives, at_once}
use Rattle.tn_top.specs.Commands.{module_text_in, assembler_plan}
use Rattle.tn_top.specs.Inner.Stages.{Staged, Makes}
use Rattle.tn_top.proofs.StageLaws.{staged-stopped, staged-then, staged-made}
use Rattle.tn_top.proofs.reading.read_module_of.Goals as goal

pub returns-in_err-text : goal.returns-in_err-text
returns-in_err-text g c =
    let seen : Vec ℕ Global → List ℕ = λ text. text.items in
    let source = c.args.source.now in
    let before = g.S.Store.stored c.args.store.now in
    let after = g.S.Store.stored c.read_file.new.store in
    of-error (Staged seen (assembler_plan source) before after) c.from_residual.result c.in_err-text.field-0.0 c.from_residual.ensures.1
    (staged-stopped seen seen (λ text. at_once (module_text_in source text)) (reads source gives) before after c.in_err-text.field-0.0
    c.in_err-text.ensures.staged)

pub returns : goal.returns
returns g c =
    let seen : Vec ℕ Global → List ℕ = λ text. text.items in
    let source = c.args.source.now in
    let before = g.S.Store.stored c.args.store.now in
    let read = g.S.Store.stored c.read_file.new.store in
    let text = c.in_ok-text.text in
    staged-then seen seen (λ text. at_once (module_text_in source text)) (reads source gives) before read read text c.module_text_in.result
    c.in_ok-text.ensures.staged
    (staged-made seen (module_text_in source text.items) read c.module_text_in.result
    (subst (λ t. Makes seen (module_text_in source t) c.module_text_in.result) c.deref.ensures.value c.module_text_in.ensures))
