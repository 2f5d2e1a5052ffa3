use Rattle.std.proofs.Common.{length, refl, sym, ◌∙◌}
use Rattle.std.proofs.lemmas.Bool.{eqb-true, eqb-false}
use Rattle.tn_list.proofs.PrintingLaws.{remains-less, remains-stopped, remains-nothing}
use Rattle.tn_list.proofs.ListingLaws.{cells-first, cells-none, cells-no_place}
use Rattle.tn_list.proofs.listings.print_each_cell.Goals as goal

pub returns-then-is_empty-clause-lists : goal.returns-then-is_empty-clause-lists
returns-then-is_empty-clause-lists g c = remains-nothing tt
    (cells-no_place c.args.base c.args.bytes.now c.loop-rest.rest.now c.loop-rest.rest_places.now
    (eqb-true (length c.loop-rest.rest_places.now) 0 (sym c.is_empty.ensures ∙ c.if-is_empty.true)))
    c.loop-rest.invariant.0

pub returns-in-Err-clause-lists : goal.returns-in-Err-clause-lists
returns-in-Err-clause-lists g c = remains-stopped _
    (cells-first c.args.base c.args.bytes.now c.loop-rest.rest.now c.loop-rest.rest_places.now _ c.cell-item.result _
    c.in-len1-up.len_at_least c.cell-item.is
    (eqb-false (length c.loop-rest.rest_places.now) 0 (sym c.is_empty.ensures ∙ c.if-is_empty.false)) refl)
    c.loop-rest.invariant.0
    (c.in-Err.ensures.lists _ c.cell_line.ensures)

pub loop-rest-preserved : goal.loop-rest-preserved
loop-rest-preserved g c = (
  remains-less
      (cells-first c.args.base c.args.bytes.now c.loop-rest.rest.now c.loop-rest.rest_places.now c.places_behind-rest_places.result.now
      c.cell-item.result _ c.in-len1-up.len_at_least c.cell-item.is
      (eqb-false (length c.loop-rest.rest_places.now) 0 (sym c.is_empty.ensures ∙ c.if-is_empty.false))
      c.places_behind-rest_places.ensures)
      c.loop-rest.invariant.0
      (c.in-Ok.ensures.lists _ c.cell_line.ensures),
  g.met.O.Out.joined c.args.out.now c.loop-rest.out c.print.new.out c.loop-rest.invariant.1 c.in-Ok.ensures.goes_on,
)

pub returns-clause-lists : goal.returns-clause-lists
returns-clause-lists g c = remains-nothing tt
    (cells-none c.args.base c.args.bytes.now c.loop-rest.rest.now c.loop-rest.rest_places.now c.in_default.len_below)
    c.loop-rest.invariant.0
