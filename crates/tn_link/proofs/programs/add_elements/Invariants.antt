use Rattle.std.proofs.Common.{◌≡◌, ◌++◌, map, take}
use Rattle.tn_link.specs.Places.{told}
use Rattle.tn_link.specs.Programs.{element}
use Rattle.tn_link.specs.Inner.Tables.{found}
use Rattle.tn_link.proofs.programs.add_elements.Given as goal

abbrev pub invariant-loop-item : goal.invariant-loop-item
invariant-loop-item l =
    l.elements.items ≡ l.initial.elements.items ++ map (element (told (found l.scope)) l.cell_base) (take l.item-index l.items)
