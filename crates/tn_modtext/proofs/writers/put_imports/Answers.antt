use Rattle.std.proofs.Common.{map}
use Rattle.std.specs.List.{flat_map}
use Rattle.tn_modtext.specs.declared.lines.Line.TheVariants as line
use Rattle.tn_modtext.specs.Lines.{line_spelling}
use Rattle.tn_modtext.proofs.WritingLaws.{put-more, put-all, lines-grow}
use Rattle.tn_modtext.proofs.writers.put_imports.Goals as goal

pub loop-import-preserved : goal.loop-import-preserved
loop-import-preserved c =
    put-more (λ ys. flat_map line_spelling (map line.Import ys)) (λ y. line_spelling (line.Import y)) (lines-grow line.Import)
    c.args.imports.now c.args.out.now.items c.loop-import.out.items c.loop-import.import-index c.loop-import.invariant c.import-item.result
    c.put_line.new.out.items c.loop-import-test.true c.import-item.is c.in_ok-put_line.ensures

pub returns : goal.returns
returns c =
    put-all (λ ys. flat_map line_spelling (map line.Import ys)) (λ y. line_spelling (line.Import y)) (lines-grow line.Import)
    c.args.imports.now c.args.out.now.items c.loop-import.out.items c.loop-import.import-index c.loop-import.invariant c.loop-import-test.false
