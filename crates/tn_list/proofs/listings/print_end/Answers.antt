use Rattle.std.proofs.Common.{◌≡◌, ◌∷◌, [], refl, ap, codes}
use Rattle.tn_text.specs.WordTexts.{word_text}
use Rattle.tn_list.specs.ListingTexts.{line_of, workspace_line, end_text}
use Rattle.tn_stream.specs.Images.{image_of}
use Rattle.tn_list.proofs.PrintingLaws.{Lists-as, Lists-joined, Lists-stopped}
use Rattle.tn_list.proofs.listings.print_end.Goals as goal

pub returns-in-Ok-clause-lists : goal.returns-in-Ok-clause-lists
unfolding end_text
returns-in-Ok-clause-lists g c =
    Lists-joined (c.in-Ok.ensures.lists (workspace_line c.args.workspace c.args.image.now.wptr) c.workspace_line.ensures)
    (Lists-as (ap (λ w. line_of (codes "entry") (w ∷ [])) c.word_text.ensures)
    (c.print-in-Ok.ensures.lists (line_of (codes "entry") (c.word_text.result ∷ [])) c.token_line.ensures))

pub returns-in-Err-clause-lists : goal.returns-in-Err-clause-lists
unfolding end_text
returns-in-Err-clause-lists g c =
    Lists-stopped (line_of (codes "entry") (word_text c.args.image.now.entry ∷ []))
    (c.in-Err.ensures.lists (workspace_line c.args.workspace c.args.image.now.wptr) c.workspace_line.ensures)
