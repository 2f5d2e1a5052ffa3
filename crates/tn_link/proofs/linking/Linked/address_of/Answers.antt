use Rattle.std.proofs.Common.{◌≡◌, List, ℕ, Some, is_some, length, sym, ap, ◌∙◌, subst}
use Rattle.std.specs.Option.{option_map}
use Rattle.tn_module.specs.Modules.{Parts}
use Rattle.tn_module.specs.Names.{is_among}
use Rattle.tn_layout.specs.Sizes.{Least}
use Rattle.tn_layout.proofs.LeastSizes.{one_is_least}
use Rattle.tn_symbols.specs.Choices.{exported}
use Rattle.tn_symbols.specs.Definitions.{definition_of}
use Rattle.tn_symbols.proofs.Exporting.{defined-some}
use Rattle.tn_link.specs.Places.{item_count, exported_label}
use Rattle.tn_link.specs.Programs.{program, pieces}
use Rattle.tn_link.specs.Cells.{frame, address}
use Rattle.tn_link.specs.Linking.{placed}
use Rattle.tn_link.proofs.Listed.{placed-length}
use Rattle.tn_link.proofs.ExportedLabels.{is-exported, code-here, cell-here, cell-is}
use Rattle.tn_link.proofs.linking.Linked.address_of.Goals as goal

-- one list of sizes is the least
same-sizes : (modules : List Parts) (cell_base : ℕ) (s t : List ℕ) → Least (pieces (program modules cell_base)) s
    → Least (pieces (program modules cell_base)) t → s ≡ t
same-sizes modules cell_base s t a b =
    (one_is_least (pieces (program modules cell_base))).only s a ∙ sym ((one_is_least (pieces (program modules cell_base))).only t b)

pub returns-in_err-definition-clause-exported : goal.returns-in_err-definition-clause-exported
returns-in_err-definition-clause-exported c =
    ap is_some c.from_residual.ensures ∙ ap is_some (sym c.in_err-definition.was) ∙ ap is_some c.find.ensures
    ∙ defined-some c.args.chosen.now.modules.items c.args.name.now

pub code_address-requires-clause-places : goal.code_address-requires-clause-places
code_address-requires-clause-places c =
    ap length (c.deref.ensures.value ∙ c.requires.linked.placed_are)
    ∙ placed-length c.args.chosen.now.modules.items (frame c.args.self.now.code_base c.args.self.now.cell_base c.requires.linked.sizes)
    ∙ ap item_count (sym c.deref-modules.ensures.value)

pub returns-in-Some-clause-address : goal.returns-in-Some-clause-address
returns-in-Some-clause-address c = λ sizes least.
    let listed = c.deref.ensures.value ∙ c.requires.linked.placed_are
    ∙ ap (λ s. placed c.args.chosen.now.modules.items (frame c.args.self.now.code_base c.args.self.now.cell_base s))
    (same-sizes c.args.chosen.now.modules.items c.args.self.now.cell_base c.requires.linked.sizes sizes c.requires.linked.least least)
    ∙ ap (λ (modules : List Parts). placed modules (frame c.args.self.now.code_base c.args.self.now.cell_base sizes))
    (sym c.deref-modules.ensures.value) in
    subst (λ (modules : List Parts). Some c.in-Some.address
    ≡ option_map (address (frame c.args.self.now.code_base c.args.self.now.cell_base sizes)) (exported_label modules c.args.name.now))
    c.deref-modules.ensures.value
    (code-here c.deref-modules.result.now c.args.name.now c.in_ok-definition.definition
    (ap (λ (modules : List Parts). definition_of modules c.args.name.now) c.deref-modules.ensures.value ∙ sym c.find.ensures
    ∙ c.in_ok-definition.was) (frame c.args.self.now.code_base c.args.self.now.cell_base sizes) c.code_address.result c.in-Some.address
    (c.code_address.ensures (frame c.args.self.now.code_base c.args.self.now.cell_base sizes) listed) c.in-Some.is)

pub returns-in-Some-clause-exported : goal.returns-in-Some-clause-exported
returns-in-Some-clause-exported c =
    is-exported c.args.chosen.now.modules.items c.args.name.now c.in_ok-definition.definition (sym c.find.ensures ∙ c.in_ok-definition.was)

pub returns-in-None-clause-address : goal.returns-in-None-clause-address
returns-in-None-clause-address c = λ sizes least.
    let listed = c.deref.ensures.value ∙ c.requires.linked.placed_are
    ∙ ap (λ s. placed c.args.chosen.now.modules.items (frame c.args.self.now.code_base c.args.self.now.cell_base s))
    (same-sizes c.args.chosen.now.modules.items c.args.self.now.cell_base c.requires.linked.sizes sizes c.requires.linked.least least)
    ∙ ap (λ (modules : List Parts). placed modules (frame c.args.self.now.code_base c.args.self.now.cell_base sizes))
    (sym c.deref-modules.ensures.value) in
    subst (λ (modules : List Parts). c.cell_address.result
    ≡ option_map (address (frame c.args.self.now.code_base c.args.self.now.cell_base sizes)) (exported_label modules c.args.name.now))
    c.deref-modules.ensures.value
    (cell-here c.deref-modules.result.now c.args.name.now c.in_ok-definition.definition
    (ap (λ (modules : List Parts). definition_of modules c.args.name.now) c.deref-modules.ensures.value ∙ sym c.find.ensures
    ∙ c.in_ok-definition.was) (frame c.args.self.now.code_base c.args.self.now.cell_base sizes) c.cell_address.result
    (sym (c.code_address.ensures (frame c.args.self.now.code_base c.args.self.now.cell_base sizes) listed) ∙ c.in-None.is)
    c.cell_address.ensures.address)

pub returns-in-None-clause-exported : goal.returns-in-None-clause-exported
returns-in-None-clause-exported c =
    let listed = c.deref.ensures.value ∙ c.requires.linked.placed_are
    ∙ ap (λ (modules : List Parts). placed modules
    (frame c.args.self.now.code_base c.args.self.now.cell_base c.requires.linked.sizes)) (sym c.deref-modules.ensures.value) in
    cell-is c.deref-modules.result.now c.args.name.now c.in_ok-definition.definition
    (ap (λ (modules : List Parts). definition_of modules c.args.name.now) c.deref-modules.ensures.value ∙ sym c.find.ensures
    ∙ c.in_ok-definition.was) (frame c.args.self.now.code_base c.args.self.now.cell_base c.requires.linked.sizes) c.cell_address.result
    (sym (c.code_address.ensures (frame c.args.self.now.code_base c.args.self.now.cell_base c.requires.linked.sizes) listed) ∙ c.in-None.is)
    c.cell_address.ensures.address c.cell_address.ensures.valid
    ∙ ap (λ (modules : List Parts). is_among (exported modules) c.args.name.now) c.deref-modules.ensures.value
