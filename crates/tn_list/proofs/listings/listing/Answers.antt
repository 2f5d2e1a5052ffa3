use Rattle.std.proofs.Common.{◌≡◌, ◌∷◌, ◌++◌, [], refl, ap, ◌∙◌, codes}
use Rattle.tn_module.specs.Modules.{Parts}
use Rattle.tn_stream.specs.Images.{image_of}
use Rattle.tn_list.specs.Stretches.{code_of, cells_of}
use Rattle.tn_list.specs.ListingTexts.{line_of, code_text, cells_text, end_text, listing_text}
use Rattle.tn_list.proofs.PrintingLaws.{Lists-as, Lists-joined, Lists-stopped}
use Rattle.tn_list.proofs.listings.listing.Goals as goal

pub returns-in-Err-clause-lists : goal.returns-in-Err-clause-lists
unfolding listing_text
returns-in-Err-clause-lists g c =
    Lists-stopped (end_text (image_of c.args.image.now) c.args.workspace)
    (Lists-stopped (cells_text c.args.chosen.now.modules.items (cells_of c.args.linked.now))
    (Lists-stopped (code_text c.args.chosen.now.modules.items (code_of c.args.linked.now))
    (Lists-as (ap (λ n. line_of (codes "processor") (n ∷ [])) c.bytes.ensures.bytes)
    (c.in-Err.ensures.lists (line_of (codes "processor") (c.bytes.result.now ∷ [])) c.token_line.ensures))))

pub returns-in-Err-print_code-clause-lists : goal.returns-in-Err-print_code-clause-lists
unfolding listing_text
returns-in-Err-print_code-clause-lists g c =
    Lists-stopped (end_text (image_of c.args.image.now) c.args.workspace)
    (Lists-stopped (cells_text c.args.chosen.now.modules.items (cells_of c.args.linked.now))
    (Lists-joined
    (Lists-as (ap (λ n. line_of (codes "processor") (n ∷ [])) c.bytes.ensures.bytes)
    (c.in-Ok.ensures.lists (line_of (codes "processor") (c.bytes.result.now ∷ [])) c.token_line.ensures))
    (Lists-as (ap (λ ms. code_text ms (code_of c.args.linked.now)) c.deref.ensures.value) c.in-Err-print_code.ensures.lists)))

pub returns-in-Err-print_cells-clause-lists : goal.returns-in-Err-print_cells-clause-lists
unfolding listing_text
returns-in-Err-print_cells-clause-lists g c =
    Lists-stopped (end_text (image_of c.args.image.now) c.args.workspace)
    (Lists-joined (Lists-joined
    (Lists-as (ap (λ n. line_of (codes "processor") (n ∷ [])) c.bytes.ensures.bytes)
    (c.in-Ok.ensures.lists (line_of (codes "processor") (c.bytes.result.now ∷ [])) c.token_line.ensures))
    (Lists-as (ap (λ ms. code_text ms (code_of c.args.linked.now)) c.deref.ensures.value) c.in-Ok-print_code.ensures.lists))
    (Lists-as (ap (λ ms. cells_text ms (cells_of c.args.linked.now)) c.deref-2.ensures.value) c.in-Err-print_cells.ensures.lists))

pub returns-clause-lists : goal.returns-clause-lists
unfolding listing_text
returns-clause-lists g c =
    Lists-joined (Lists-joined (Lists-joined
    (Lists-as (ap (λ n. line_of (codes "processor") (n ∷ [])) c.bytes.ensures.bytes)
    (c.in-Ok.ensures.lists (line_of (codes "processor") (c.bytes.result.now ∷ [])) c.token_line.ensures))
    (Lists-as (ap (λ ms. code_text ms (code_of c.args.linked.now)) c.deref.ensures.value) c.in-Ok-print_code.ensures.lists))
    (Lists-as (ap (λ ms. cells_text ms (cells_of c.args.linked.now)) c.deref-2.ensures.value) c.in-Ok-print_cells.ensures.lists))
    c.print_end.ensures.lists
