use Rattle.std.proofs.Common.{List, Some, ap, sym, ◌∙◌, arith, below_more, if◌then◌else◌}
use Rattle.tn_module.specs.declared.modules.Item.{Item}
use Rattle.tn_module.specs.declared.modules.Kind.TheVariants as kind
use Rattle.tn_module.specs.Modules.{Parts, module_of}
use Rattle.tn_module.specs.Names.{is_among, code_labels}
use Rattle.tn_symbols.proofs.Labels.{any-label}
use Rattle.tn_symbols.proofs.Exporting.{definition-here, definition-none}
use Rattle.tn_symbols.proofs.FirstFaults.{part-at}
use Rattle.tn_symbols.proofs.definitions.definition_of.Goals as goal

pub returns-then-is_among : goal.returns-then-is_among
returns-then-is_among c =
    let exports = c.deref.ensures.value
    ∙ part-at (λ (m : Parts). m.exports) c.args.modules.now c.loop-place.place (module_of c.raw-raw.result.now) c.index-modules-place.result
    c.loop-place-test.true c.index-modules-place.is c.raw-raw.ensures.parts in
    let items = c.deref-then-is_among.ensures.value
    ∙ part-at (λ (m : Parts). m.items) c.args.modules.now c.loop-place.place (module_of c.raw-raw.result.now) c.index-modules-place.result
    c.loop-place-test.true c.index-modules-place.is c.raw-raw.ensures.parts in
    sym (definition-here c.args.modules.now c.args.name.now c.loop-place.place c.loop-place-test.true c.loop-place.invariant
    (ap (λ l. is_among l c.args.name.now) (sym exports) ∙ sym c.is_among.ensures ∙ c.if-is_among.true)
    ∙ ap (λ k. Some (record { «module» = c.loop-place.place; kind = k }))
    (sym (c.kind_of-kind.ensures ∙ ap (λ b. if b then kind.Code else kind.Cell) (any-label c.args.name.now c.deref-then-is_among.result.now
    ∙ ap (λ (l : List Item). is_among (code_labels l) c.args.name.now) items))))

pub loop-place-preserved : goal.loop-place-preserved
loop-place-preserved c =
    let exports = c.deref.ensures.value
    ∙ part-at (λ (m : Parts). m.exports) c.args.modules.now c.loop-place.place (module_of c.raw-raw.result.now) c.index-modules-place.result
    c.loop-place-test.true c.index-modules-place.is c.raw-raw.ensures.parts in
    below_more _ _ c.loop-place.invariant (ap (λ l. is_among l c.args.name.now) (sym exports) ∙ sym c.is_among.ensures
    ∙ c.if-is_among.false)

pub returns : goal.returns
returns c =
    sym (definition-none c.args.modules.now c.args.name.now (λ j h. c.loop-place.invariant j (omega (arith, h, c.loop-place-test.false))))
