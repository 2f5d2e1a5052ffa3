use Rattle.std.proofs.Common.{◌≡◌, Some, Err, ap, ◌∙◌}
use Rattle.std.specs.Result.{result_err}
use Rattle.std.proofs.lemmas.Result.{err_from_is_err_and}
use Rattle.tn_mem.specs.Guards.{guarded}
use Rattle.tn_mem.specs.Inner.GuardLaws.{guarded_lawful}
use Rattle.tn_mem.proofs.Refusals.{refused}
use Rattle.tn_mem.proofs.guards.CodeFreeSpace.copy.Goals as goal

pub returns-in_err-both : goal.returns-in_err-both
returns-in_err-both c =
    let s = c.args.self.now in
    let made = guarded.copy s c.args.from c.args.to c.args.n in
    let touch = c.in_err-both.field-0.0 in
    let p = err_from_is_err_and c.from_residual.result c.from_residual.ensures.1 in
    let blocks = guarded_lawful.copy_as_blocks s c.args.from c.args.to c.args.n in
    let why : result_err made ≡ Some touch = cc c.in_err-both.ensures in
    refused made s c.from_residual.result touch why (p.1 ∙ ap Err p.2)
