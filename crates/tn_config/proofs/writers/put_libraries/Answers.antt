use Rattle.std.proofs.Common.{◌≡◌, ◌++◌, ap, ◌∙◌}
use Rattle.tn_config.specs.declared.statements.Setting.TheVariants as setting
use Rattle.tn_config.specs.declared.statements.Statement.TheVariants as statement
use Rattle.tn_config.specs.Spellings.{statement_spelling}
use Rattle.tn_config.proofs.LinePuts.{line_put, lines_put}
use Rattle.tn_config.proofs.writers.put_libraries.Goals as goal

pub loop-file-preserved : goal.loop-file-preserved
loop-file-preserved c =
    line_put statement_spelling (λ x. statement.Set x) (λ x. setting.Library x) c.args.files.now c.loop-file.file-index c.file-item.result
    c.args.out.now.items
    c.loop-file.out.items c.put_setting.new.out.items c.loop-file-test.true c.loop-file.invariant
    (c.in_ok-put_setting.ensures
    ∙ ap (λ f. c.loop-file.out.items ++ statement_spelling (statement.Set (setting.Library f))) (c.copied.ensures ∙ c.file-item.is))

pub returns : goal.returns
returns c =
    lines_put statement_spelling (λ x. statement.Set x) (λ x. setting.Library x) c.args.files.now c.loop-file.file-index
    c.args.out.now.items
    c.loop-file.out.items c.loop-file-test.false c.loop-file.invariant
