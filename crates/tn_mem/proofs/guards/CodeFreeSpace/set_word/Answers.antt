use Rattle.std.proofs.Common.{Err, ap, sym, ◌∙◌}
use Rattle.std.specs.Result.{result_err}
use Rattle.std.proofs.lemmas.Result.{err_from_is_err_and}
use Rattle.tn_mem.specs.Guards.{guarded}
use Rattle.tn_mem.specs.Inner.GuardLaws.{refusal-set_word}
use Rattle.tn_mem.proofs.Refusals.{refused}
use Rattle.tn_mem.proofs.guards.CodeFreeSpace.set_word.Goals as goal

pub returns-in_err-word : goal.returns-in_err-word
returns-in_err-word c =
    let s = c.args.self.now in
    let p = err_from_is_err_and c.from_residual.result c.from_residual.ensures.1 in
    refused (guarded.set_word s c.args.a c.args.v) s c.from_residual.result c.in_err-word.field-0.0
    (refusal-set_word s c.args.a c.args.v ∙ ap result_err (sym c.in_err-word.ensures)) (p.1 ∙ ap Err p.2)
