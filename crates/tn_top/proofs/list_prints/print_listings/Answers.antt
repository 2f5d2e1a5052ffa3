use Rattle.std.proofs.Common.{arith}
use Rattle.tn_top.proofs.ListTexts.{from-first, from-end, leaves-less, leaves-stopped, leaves-nothing}
use Rattle.tn_top.proofs.list_prints.print_listings.Goals as goal

pub returns-in-Err-clause-lists : goal.returns-in-Err-clause-lists
returns-in-Err-clause-lists g c = leaves-stopped _
    (from-first c.args.blocks.now c.args.programs.now c.args.images.now c.loop-k.k c.index-blocks-k.result c.index-programs-k.result
    c.index-images-k.result (omega arith) (omega arith) (omega arith) c.index-blocks-k.is c.index-programs-k.is c.index-images-k.is)
    c.loop-k.invariant.0 c.in-Err.ensures.lists

pub loop-k-preserved : goal.loop-k-preserved
loop-k-preserved g c = (
  leaves-less
      (from-first c.args.blocks.now c.args.programs.now c.args.images.now c.loop-k.k c.index-blocks-k.result c.index-programs-k.result
      c.index-images-k.result (omega arith) (omega arith) (omega arith) c.index-blocks-k.is c.index-programs-k.is c.index-images-k.is)
      c.loop-k.invariant.0 c.in-Ok.ensures.lists,
  g.met.O.Out.joined c.args.out.now c.loop-k.out c.print_listing.new.out c.loop-k.invariant.1 c.in-Ok.ensures.goes_on,
)

pub returns-clause-lists : goal.returns-clause-lists
returns-clause-lists g c = leaves-nothing
    (from-end c.args.blocks.now c.args.programs.now c.args.images.now c.loop-k.k (λ h l m. omega arith)) c.loop-k.invariant.0
