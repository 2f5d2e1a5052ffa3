use Rattle.std.proofs.Common.{map}
use Rattle.std.specs.List.{flat_map}
use Rattle.tn_modtext.specs.declared.lines.Line.TheVariants as line
use Rattle.tn_modtext.specs.Lines.{line_spelling}
use Rattle.tn_modtext.proofs.WritingLaws.{put-more, put-all, lines-grow}
use Rattle.tn_modtext.proofs.writers.put_exports.Goals as goal

pub loop-name-preserved : goal.loop-name-preserved
loop-name-preserved c =
    put-more (λ ys. flat_map line_spelling (map line.Export ys)) (λ y. line_spelling (line.Export y)) (lines-grow line.Export)
    c.args.exports.now c.args.out.now.items c.loop-name.out.items c.loop-name.name-index c.loop-name.invariant c.name-item.result
    c.put_line.new.out.items c.loop-name-test.true c.name-item.is c.in_ok-put_line.ensures

pub returns : goal.returns
returns c =
    put-all (λ ys. flat_map line_spelling (map line.Export ys)) (λ y. line_spelling (line.Export y)) (lines-grow line.Export)
    c.args.exports.now c.args.out.now.items c.loop-name.out.items c.loop-name.name-index c.loop-name.invariant c.loop-name-test.false
