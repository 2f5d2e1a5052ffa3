use Rattle.tn_top.specs.Inner.Listings.{listings_from, Leaves}
use Rattle.tn_top.proofs.list_prints.print_listings.Given as goal

-- the listings of the other processors are left
abbrev pub invariant-loop-k : goal.invariant-loop-k
invariant-loop-k g l =
    Leaves (listings_from 0 l.blocks l.programs l.images) (listings_from l.k l.blocks l.programs l.images) (g.O.Out.printed l.fn.out)
    (g.O.Out.printed l.out) × g.O.Out.goes_on l.fn.out l.out
