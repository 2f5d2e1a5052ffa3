use Rattle.std.proofs.Common.{map}
use Rattle.std.specs.List.{flat_map}
use Rattle.tn_modtext.specs.declared.lines.Line.TheVariants as line
use Rattle.tn_modtext.specs.Lines.{line_spelling}
use Rattle.tn_modtext.proofs.WritingLaws.{put-more, put-all, lines-grow}
use Rattle.tn_modtext.proofs.writers.put_items.Goals as goal

pub loop-item-preserved : goal.loop-item-preserved
loop-item-preserved c =
    put-more (λ ys. flat_map line_spelling (map line.Item ys)) (λ y. line_spelling (line.Item y)) (lines-grow line.Item) c.args.items.now
    c.args.out.now.items c.loop-item.out.items c.loop-item.item-index c.loop-item.invariant c.item-item.result c.put_line.new.out.items
    c.loop-item-test.true c.item-item.is c.in_ok-put_line.ensures

pub returns : goal.returns
returns c =
    put-all (λ ys. flat_map line_spelling (map line.Item ys)) (λ y. line_spelling (line.Item y)) (lines-grow line.Item) c.args.items.now
    c.args.out.now.items c.loop-item.out.items c.loop-item.item-index c.loop-item.invariant c.loop-item-test.false
