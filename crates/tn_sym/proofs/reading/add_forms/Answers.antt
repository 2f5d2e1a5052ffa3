use Rattle.std.proofs.Common.{[], ◌∷◌, ◌++◌, map, ap, ◌∙◌}
use Rattle.std.proofs.lemmas.List.{map-append}
use Rattle.tn_sym.specs.Inner.Readings.{form_of}
use Rattle.tn_sym.proofs.Pushing.{put-more, put-all}
use Rattle.tn_sym.proofs.reading.add_forms.Goals as goal

pub loop-item-preserved : goal.loop-item-preserved
loop-item-preserved c =
    put-more (map form_of) (λ i. form_of i ∷ []) (λ is i. map-append form_of is (i ∷ [])) c.args.items.now c.args.forms.now.items
    c.loop-item.forms.items c.loop-item.item-index c.loop-item.invariant c.item-item.result c.push.new.self.items c.loop-item-test.true
    c.item-item.is (c.in_ok-push.ensures.items ∙ ap (λ f. c.loop-item.forms.items ++ f ∷ []) c.form_of.ensures)

pub returns : goal.returns
returns c =
    put-all (map form_of) (λ i. form_of i ∷ []) (λ is i. map-append form_of is (i ∷ [])) c.args.items.now c.args.forms.now.items
    c.loop-item.forms.items c.loop-item.item-index c.loop-item.invariant c.loop-item-test.false
