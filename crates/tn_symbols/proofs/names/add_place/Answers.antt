use Rattle.std.proofs.Common.{refl, ap, sym, ◌∙◌}
use Rattle.indexmap.specs.IndexMap.{get}
use Rattle.tn_module.specs.Names.{same_name}
use Rattle.tn_symbols.proofs.Tables.{told-new, told-before, tells-grown}
use Rattle.tn_symbols.proofs.names.add_place.Goals as goal
use Rattle.tn_symbols.proofs.names.add_place.Goals.{then-not-contains_key+in_ok-insert, else-not-contains_key}

pub loop-name-preserved : goal.loop-name-preserved
loop-name-preserved c =
    tells-grown (get same_name c.args.places.now) (get same_name c.loop-name.places) (get same_name c.if-not-contains_key.places)
    c.args.names.now
    c.loop-name.name-index c.name-item.result (λ _. c.args.place) c.loop-name-test.true c.name-item.is c.loop-name.invariant
    (elim c.if-not-contains_key.branch [
      | then-not-contains_key+in_ok-insert w ↦
          told-new (get same_name c.loop-name.places) (get same_name c.if-not-contains_key.places) c.name-item.result c.args.place
          (λ _. c.args.place) (sym c.contains_key.ensures ∙ w.if-not-contains_key.true) refl
          (λ q. ap (λ m. get same_name m q) w.places-is ∙ w.in_ok-insert.ensures.updates.0 q)
      | else-not-contains_key w ↦ λ q.
          ap (λ m. get same_name m q) w.places-is
          ∙ told-before (get same_name c.loop-name.places) c.name-item.result (λ _. c.args.place)
          (sym c.contains_key.ensures ∙ w.if-not-contains_key.false) q
    ])
