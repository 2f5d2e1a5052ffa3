use Rattle.std.proofs.Common.{length}
use Rattle.tn_list.specs.ListingTexts.{cells_lines}
use Rattle.tn_list.specs.Inner.Printing.{Remains}
use Rattle.tn_list.proofs.listings.print_cells_of.Given as goal

-- the lines of the other modules are left
abbrev pub invariant-loop-rest : goal.invariant-loop-rest
invariant-loop-rest g l =
    Remains (cells_lines l.base l.bytes l.modules l.places) (cells_lines l.base l.bytes l.rest l.rest_places) (g.O.Out.printed l.fn.out)
    (g.O.Out.printed l.out) × g.O.Out.goes_on l.fn.out l.out

abbrev pub decreases-loop-rest : goal.decreases-loop-rest
decreases-loop-rest g l = length l.rest
