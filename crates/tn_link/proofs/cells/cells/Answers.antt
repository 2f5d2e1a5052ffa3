use Rattle.tn_link.specs.Cells.{module_cells}
use Rattle.tn_link.specs.Inner.Frames.{frame_of}
use Rattle.tn_link.proofs.Ranges.{joined-grown}
use Rattle.tn_link.proofs.cells.cells.Goals as goal

pub add_module-requires-clause-before : goal.add_module-requires-clause-before
add_module-requires-clause-before c = c.loop-m.invariant.long

pub loop-m-preserved : goal.loop-m-preserved
loop-m-preserved c = record {
  cells = λ sizes p.
      joined-grown (module_cells c.args.plan.now.modules.now (frame_of c.args.frame.now sizes)) c.loop-m.m c.loop-m.bytes.items
      c.add_module.new.bytes.items (c.loop-m.invariant.cells sizes p) (c.in_ok-add_module.ensures.cells sizes p);
  long = c.in_ok-add_module.ensures.long;
}
