use Rattle.std.proofs.Common.{◌≡◌, ◌∷◌, [], refl, ap, ◌∙◌, codes}
use Rattle.std.specs.Fmt.{decimal}
use Rattle.tn_text.specs.WordTexts.{word_text}
use Rattle.tn_list.specs.Stretches.{cells_of}
use Rattle.tn_list.specs.ListingTexts.{line_of, cells_lines, cells_text}
use Rattle.tn_list.proofs.PrintingLaws.{Lists-as, Lists-joined, Lists-stopped}
use Rattle.tn_list.proofs.listings.print_cells.Goals as goal

pub returns-in-Ok-clause-lists : goal.returns-in-Ok-clause-lists
unfolding cells_text
returns-in-Ok-clause-lists g c =
    Lists-joined
    (Lists-as (ap (λ n. line_of (codes "cells") (word_text c.args.linked.now.cell_base ∷ decimal n ∷ []))
    (c.len.ensures ∙ c.args.linked.now.cells.ok.0))
    (c.in-Ok.ensures.lists (line_of (codes "cells") (word_text c.args.linked.now.cell_base ∷ decimal c.len.result ∷ []))
    c.extent_line-line.ensures))
    (Lists-as
    (λ j. cells_lines c.args.linked.now.cell_base (c.deref.ensures.value j) c.args.modules.now (c.deref-in-Ok.ensures.value j))
    c.print_cells_of.ensures.lists)

pub returns-in-Err-clause-lists : goal.returns-in-Err-clause-lists
unfolding cells_text
returns-in-Err-clause-lists g c =
    Lists-stopped
    (cells_lines c.args.linked.now.cell_base c.args.linked.now.cells.items c.args.modules.now c.args.linked.now.cell_places.items)
    (Lists-as (ap (λ n. line_of (codes "cells") (word_text c.args.linked.now.cell_base ∷ decimal n ∷ []))
    (c.len.ensures ∙ c.args.linked.now.cells.ok.0))
    (c.in-Err.ensures.lists (line_of (codes "cells") (word_text c.args.linked.now.cell_base ∷ decimal c.len.result ∷ []))
    c.extent_line-line.ensures))
