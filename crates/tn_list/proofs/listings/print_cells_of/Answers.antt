use Rattle.std.proofs.Common.{length, refl, sym, ◌∙◌, ap}
use Rattle.tn_module.specs.Modules.{Parts}
use Rattle.tn_list.proofs.PrintingLaws.{remains-less, remains-stopped, remains-nothing}
use Rattle.tn_list.proofs.ListingLaws.{modules-first, modules-none}
use Rattle.tn_list.proofs.listings.print_cells_of.Goals as goal

pub returns-in-Err-clause-lists : goal.returns-in-Err-clause-lists
returns-in-Err-clause-lists g c = remains-stopped _
    (modules-first c.args.base c.args.bytes.now c.loop-rest.rest_places.now _ c.module-item.result c.raw-raw.result.now.name
    (ap (λ (p : Parts). p.name) c.raw-raw.ensures.parts) (length c.module-item.result.cells) c.loop-rest.rest.now
    c.module-item.result.cells c.in-len1-up.len_at_least c.module-item.is refl refl refl)
    c.loop-rest.invariant.0
    c.in-Err.ensures.lists

pub returns-in-Err-print_each_cell-clause-lists : goal.returns-in-Err-print_each_cell-clause-lists
returns-in-Err-print_each_cell-clause-lists g c = remains-stopped _ refl
    (remains-less
    (modules-first c.args.base c.args.bytes.now c.loop-rest.rest_places.now _ c.module-item.result c.raw-raw.result.now.name
    (ap (λ (p : Parts). p.name) c.raw-raw.ensures.parts) (length c.deref.result.now) c.loop-rest.rest.now
    c.deref.result.now c.in-len1-up.len_at_least c.module-item.is
    (c.deref.ensures.value ∙ ap (λ (p : Parts). p.cells) c.raw-raw.ensures.parts) refl refl)
    c.loop-rest.invariant.0
    c.in-Ok.ensures.lists)
    c.in-Err-print_each_cell.ensures.lists

pub loop-rest-preserved : goal.loop-rest-preserved
loop-rest-preserved g c = (
  remains-less refl
      (remains-less
      (modules-first c.args.base c.args.bytes.now c.loop-rest.rest_places.now c.places_behind-rest_places.result.now
      c.module-item.result c.raw-raw.result.now.name
      (ap (λ (p : Parts). p.name) c.raw-raw.ensures.parts) c.len.result c.loop-rest.rest.now
      c.deref.result.now c.in-len1-up.len_at_least c.module-item.is
      (c.deref.ensures.value ∙ ap (λ (p : Parts). p.cells) c.raw-raw.ensures.parts)
      (c.len.ensures ∙ c.raw-raw.result.now.cells.ok.0 ∙ ap length (sym c.deref.ensures.value))
      c.places_behind-rest_places.ensures)
      c.loop-rest.invariant.0
      c.in-Ok.ensures.lists)
      c.in-Ok-print_each_cell.ensures.lists,
  g.met.O.Out.joined c.args.out.now c.print_name.new.out c.print_each_cell.new.out
      (g.met.O.Out.joined c.args.out.now c.loop-rest.out c.print_name.new.out c.loop-rest.invariant.1 c.in-Ok.ensures.goes_on)
      c.in-Ok-print_each_cell.ensures.goes_on,
)

pub returns-clause-lists : goal.returns-clause-lists
returns-clause-lists g c = remains-nothing tt
    (modules-none c.args.base c.args.bytes.now c.loop-rest.rest.now c.loop-rest.rest_places.now c.in_default.len_below)
    c.loop-rest.invariant.0
