use Rattle.std.proofs.Common.{◌%◌, ◌^◌, map, ap, ◌∙◌}
use Rattle.std.proofs.lemmas.Result.{IfOk-weaker}
use Rattle.tn_layout.proofs.ReferenceLaws.{ordered}
use Rattle.tn_layout.proofs.spans.references.Goals as goal

pub returns : goal.returns
returns c = IfOk-weaker c.places_of.result _ _ (λ order made. ordered c.args.pieces.now c.requires.short c.in_ok-keys.keys.items
    c.sort_unstable.new.self.items order.items c.in_ok-keys.ensures c.sort_unstable.ensures.permutation c.sort_unstable.ensures.sorted
    (made ∙ ap (λ ks. map (λ key. key % 2 ^ 32) ks) c.deref.ensures.value))
    c.places_of.ensures
