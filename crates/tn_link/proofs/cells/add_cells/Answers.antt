use Rattle.std.proofs.Common.{◌+◌, ◌++◌, ap, ◌∙◌, arith}
use Rattle.std.proofs.lemmas.List.{get_or_read}
use Rattle.tn_module.specs.declared.modules.Cell.{Cell}
use Rattle.tn_module.specs.declared.modules.Cell.TheVariants as cell
use Rattle.tn_module.specs.Names.{end_of}
use Rattle.tn_link.specs.Places.{cell_offset, told}
use Rattle.tn_link.specs.Cells.{cell_bytes, bytes_at}
use Rattle.tn_link.specs.Inner.Tables.{found}
use Rattle.tn_link.specs.Inner.Frames.{frame_of}
use Rattle.tn_link.proofs.Ends.{offset-le, offset-next, at-next}
use Rattle.tn_link.proofs.Ranges.{behind-grown}
use Rattle.tn_link.proofs.cells.add_cells.Goals as goal

pub add_cell-requires-clause-few : goal.add_cell-requires-clause-few
add_cell-requires-clause-few c =
    omega (arith, c.loop-cell.invariant.at, offset-le c.args.cells.now c.loop-cell.cell-index, c.requires.few)

pub add_cell-requires-clause-room : goal.add_cell-requires-clause-room
add_cell-requires-clause-room c = omega (
  arith,
  c.loop-cell.invariant.at,
  c.loop-cell.invariant.long,
  ap (λ n. end_of n c.cell-item.result) c.loop-cell.invariant.at,
  offset-next c.args.cells.now c.loop-cell.cell-index c.cell-item.result c.loop-cell-test.true c.cell-item.is,
  offset-le c.args.cells.now c.loop-cell.cell-index,
  offset-le c.args.cells.now (c.loop-cell.cell-index + 1),
  c.requires.few,
  c.requires.room,
)

pub loop-cell-preserved : goal.loop-cell-preserved
loop-cell-preserved c =
    let next = at-next c.args.cells.now c.loop-cell.cell-index c.cell-item.result c.loop-cell.at c.end_of-at.result c.loop-cell-test.true
    c.cell-item.is c.loop-cell.invariant.at c.requires.few c.end_of-at.ensures in
    record {
      at = next;
      bytes = λ sizes p.
          behind-grown (bytes_at (frame_of c.args.frame.now sizes) (told (found c.args.scope.now)) c.args.cells.now) c.args.bytes.now.items
          c.loop-cell.cell-index c.loop-cell.bytes.items c.add_cell.new.bytes.items (c.loop-cell.invariant.bytes sizes p)
          (c.in_ok-add_cell.ensures.bytes sizes p
          ∙ ap (λ n. c.loop-cell.bytes.items ++ cell_bytes (frame_of c.args.frame.now sizes) (told (found c.args.scope.now)) n
          c.cell-item.result)
          c.loop-cell.invariant.at
          ∙ ap (λ (x : Cell). c.loop-cell.bytes.items ++ cell_bytes (frame_of c.args.frame.now sizes) (told (found c.args.scope.now))
          (cell_offset c.args.cells.now c.loop-cell.cell-index) x)
          (get_or_read c.args.cells.now c.loop-cell.cell-index c.cell-item.result c.loop-cell-test.true c.cell-item.is cell.Align));
      long = omega (
        arith,
        next,
        c.in_ok-add_cell.ensures.long,
        c.loop-cell.invariant.long,
        ap (λ n. end_of n c.cell-item.result) c.loop-cell.invariant.at,
        offset-next c.args.cells.now c.loop-cell.cell-index c.cell-item.result c.loop-cell-test.true c.cell-item.is,
      );
    }
