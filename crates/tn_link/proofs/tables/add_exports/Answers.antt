use Rattle.std.proofs.Common.{ap, sym, ◌∙◌}
use Rattle.std.specs.Option.{option_copied}
use Rattle.indexmap.specs.IndexMap.{get}
use Rattle.tn_module.specs.Names.{same_name}
use Rattle.tn_link.proofs.Labels.{exported-noted, exported-skipped}
use Rattle.tn_link.proofs.tables.add_exports.Goals as goal
use Rattle.tn_link.proofs.tables.add_exports.Goals.{in-Some+in_ok-note, in_default}

pub loop-name-preserved : goal.loop-name-preserved
loop-name-preserved c = λ q. elim c.match-get.branch [
  | in-Some+in_ok-note w ↦
      rw w.table-is
      (exported-noted (get same_name c.args.own.now) c.args.exports.now c.loop-name.name-index c.name-item.result q c.loop-name-test.true
      c.name-item.is (get same_name c.args.table.now q) (get same_name c.loop-name.table q) (c.loop-name.invariant q)
      (get same_name w.note.new.table q) w.in-Some.target.now (sym c.get.ensures.value ∙ ap option_copied w.in-Some.is)
      (w.in_ok-note.ensures q))
  | in_default w ↦
      rw w.table-is
      (exported-skipped (get same_name c.args.own.now) c.args.exports.now c.loop-name.name-index c.name-item.result q c.loop-name-test.true
      c.name-item.is (get same_name c.args.table.now q) (get same_name c.loop-name.table q) (c.loop-name.invariant q)
      (sym c.get.ensures.value ∙ ap option_copied w.in_default.is))
]
