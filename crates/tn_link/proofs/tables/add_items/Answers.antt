use Rattle.std.proofs.Common.{List, ℕ, Option, false, ap, refl, sym, ◌∙◌}
use Rattle.std.specs.Option.{option_map_or}
use Rattle.indexmap.specs.IndexMap.{get}
use Rattle.tn_module.specs.Names.{same_name}
use Rattle.tn_link.specs.Places.{is_code_label, item_target}
use Rattle.tn_link.proofs.Labels.{noted, noted-not}
use Rattle.tn_link.proofs.tables.add_items.Goals as goal
use Rattle.tn_link.proofs.tables.add_items.Goals.{in-Some+in_ok-note, in_default}

pub loop-i-preserved : goal.loop-i-preserved
loop-i-preserved c = λ q. elim c.match-code_label.branch [
  | in-Some+in_ok-note w ↦
      rw w.table-is
      (noted (is_code_label q) (item_target c.args.start) c.args.items.now c.loop-i.i c.index-items-i.result (get same_name
      c.args.table.now q)
      (get same_name c.loop-i.table q) (get same_name w.note.new.table q) (same_name q w.in-Some.name) (item_target c.args.start c.loop-i.i)
      c.loop-i-test.true c.index-items-i.is
      (ap (λ (o : Option (List ℕ)). option_map_or (same_name q) o false) (sym c.code_label.ensures ∙ w.in-Some.is)) refl
      (c.loop-i.invariant q)
      (w.in_ok-note.ensures q))
  | in_default w ↦
      rw w.table-is
      (noted-not (is_code_label q) (item_target c.args.start) c.args.items.now c.loop-i.i c.index-items-i.result
      (get same_name c.args.table.now q) (get same_name c.loop-i.table q) c.loop-i-test.true c.index-items-i.is
      (ap (λ (o : Option (List ℕ)). option_map_or (same_name q) o false) (sym c.code_label.ensures ∙ w.in_default.is))
      (c.loop-i.invariant q))
]
