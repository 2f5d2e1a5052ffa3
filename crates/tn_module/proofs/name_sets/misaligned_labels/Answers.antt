use Rattle.std.proofs.Common.{◌++◌, arith, ap, sym, ◌∙◌, append-nil}
use Rattle.std.proofs.lemmas.List.{drop_all}
use Rattle.std.specs.Option.{option_to_list}
use Rattle.tn_module.specs.Names.{misaligned_from}
use Rattle.tn_module.proofs.Alignment.{one_more, none_left}
use Rattle.tn_module.proofs.name_sets.misaligned_labels.Goals as goal
use Rattle.tn_module.proofs.name_sets.misaligned_labels.Goals.{in-Some+in_ok-push, in_default}

pub loop-cell-preserved : goal.loop-cell-preserved
loop-cell-preserved c = (
  one_more c.args.cells.now c.loop-cell.names.items c.match-misaligned_label.names.items
      (misaligned_from 0 c.args.cells.now) c.loop-cell.at c.end_of-at.result c.loop-cell.cell-index c.cell-item.result
      c.loop-cell-test.true c.cell-item.is
      (elim c.match-misaligned_label.branch [
        | in-Some+in_ok-push w ↦ ap (λ v. v.items) w.names-is ∙ w.in_ok-push.ensures.items
            ∙ ap (λ o. c.loop-cell.names.items ++ option_to_list o) w.in-Some.ensures
        | in_default w ↦ ap (λ v. v.items) w.names-is ∙ sym (append-nil c.loop-cell.names.items)
            ∙ ap (λ o. c.loop-cell.names.items ++ option_to_list o) w.in_default.ensures
      ])
      c.end_of-at.ensures.value c.loop-cell.invariant.0,
  omega (arith, c.loop-cell.invariant.1, c.end_of-at.ensures.near),
)

pub returns : goal.returns
returns c =
    sym (append-nil c.loop-cell.names.items)
    ∙ ap (λ l. c.loop-cell.names.items ++ l) (sym (none_left c.loop-cell.at))
    ∙ ap (λ l. c.loop-cell.names.items ++ misaligned_from c.loop-cell.at l)
    (sym (drop_all c.loop-cell.cell-index c.args.cells.now c.loop-cell-test.false))
    ∙ c.loop-cell.invariant.0
