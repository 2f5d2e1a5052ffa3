use Rattle.std.proofs.Common.{map}
use Rattle.std.specs.List.{flat_map}
use Rattle.tn_modtext.specs.declared.lines.Line.TheVariants as line
use Rattle.tn_modtext.specs.Lines.{line_spelling}
use Rattle.tn_modtext.proofs.WritingLaws.{put-more, put-all, lines-grow}
use Rattle.tn_modtext.proofs.writers.put_cells.Goals as goal

pub loop-cell-preserved : goal.loop-cell-preserved
loop-cell-preserved c =
    put-more (λ ys. flat_map line_spelling (map line.Cell ys)) (λ y. line_spelling (line.Cell y)) (lines-grow line.Cell) c.args.cells.now
    c.args.out.now.items c.loop-cell.out.items c.loop-cell.cell-index c.loop-cell.invariant c.cell-item.result c.put_line.new.out.items
    c.loop-cell-test.true c.cell-item.is c.in_ok-put_line.ensures

pub returns : goal.returns
returns c =
    put-all (λ ys. flat_map line_spelling (map line.Cell ys)) (λ y. line_spelling (line.Cell y)) (lines-grow line.Cell) c.args.cells.now
    c.args.out.now.items c.loop-cell.out.items c.loop-cell.cell-index c.loop-cell.invariant c.loop-cell-test.false
