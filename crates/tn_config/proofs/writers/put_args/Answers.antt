use Rattle.tn_config.specs.declared.statements.Setting.TheVariants as setting
use Rattle.tn_config.specs.declared.statements.Statement.TheVariants as statement
use Rattle.tn_config.specs.Spellings.{statement_spelling}
use Rattle.tn_config.proofs.LinePuts.{line_put, lines_put}
use Rattle.tn_config.proofs.writers.put_args.Goals as goal

pub loop-word-preserved : goal.loop-word-preserved
loop-word-preserved c =
    line_put statement_spelling (λ x. statement.Set x) (λ x. setting.Arg x) c.args.words.now c.loop-word.word-index 0 c.args.out.now.items
    c.loop-word.out.items c.put_setting.new.out.items c.loop-word-test.true c.loop-word.invariant c.in_ok-put_setting.ensures

pub returns : goal.returns
returns c =
    lines_put statement_spelling (λ x. statement.Set x) (λ x. setting.Arg x) c.args.words.now c.loop-word.word-index c.args.out.now.items
    c.loop-word.out.items c.loop-word-test.false c.loop-word.invariant
