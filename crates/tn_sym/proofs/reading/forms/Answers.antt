use Rattle.std.proofs.Common.{◌≡◌, [], ◌∷◌, ◌++◌, List, map, append-nil, ap, ◌∙◌}
use Rattle.std.proofs.lemmas.List.Concat.{flat_map-append}
use Rattle.tn_module.specs.Modules.{Parts}
use Rattle.tn_sym.specs.declared.reading.Form.{Form}
use Rattle.tn_sym.specs.Inner.Readings.{form_of, forms_of}
use Rattle.tn_sym.proofs.Pushing.{put-more, put-all}
use Rattle.tn_sym.proofs.reading.forms.Goals as goal

-- the forms of a module, and one module more
abbrev forms_in : Parts → List Form
forms_in m = map form_of m.items

grows : (ms : List Parts) (m : Parts) → forms_of (ms ++ m ∷ []) ≡ forms_of ms ++ forms_in m
grows ms m =
    flat_map-append (λ (m : Parts). map form_of m.items) ms (m ∷ []) ∙ ap (λ t. forms_of ms ++ t) (append-nil (map form_of m.items))

pub loop-module-preserved : goal.loop-module-preserved
loop-module-preserved c =
    put-more forms_of forms_in grows c.args.modules.now [] c.loop-module.forms.items c.loop-module.module-index c.loop-module.invariant
    c.module-item.result c.add_forms.new.forms.items c.loop-module-test.true c.module-item.is
    (c.in_ok-add_forms.ensures ∙ ap (λ is. c.loop-module.forms.items ++ map form_of is)
    (c.deref.ensures.value ∙ ap (λ (m : Parts). m.items) c.raw.ensures.parts))

pub returns : goal.returns
returns c =
    put-all forms_of forms_in grows c.args.modules.now [] c.loop-module.forms.items c.loop-module.module-index c.loop-module.invariant
    c.loop-module-test.false
