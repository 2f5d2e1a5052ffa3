use Rattle.std.proofs.Common.{length}
use Rattle.tn_list.specs.ListingTexts.{item_lines}
use Rattle.tn_list.specs.Inner.Printing.{Remains}
use Rattle.tn_list.proofs.listings.print_items.Given as goal

-- the lines of the other items are left
abbrev pub invariant-loop-rest : goal.invariant-loop-rest
invariant-loop-rest g l =
    Remains (item_lines l.base l.bytes l.items l.places) (item_lines l.base l.bytes l.rest l.rest_places) (g.O.Out.printed l.fn.out)
    (g.O.Out.printed l.out) × g.O.Out.goes_on l.fn.out l.out

abbrev pub decreases-loop-rest : goal.decreases-loop-rest
decreases-loop-rest g l = length l.rest
