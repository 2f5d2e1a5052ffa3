use Rattle.std.proofs.Common.{◌≡◌, ◌+◌, ℕ, List, Some, get_or, ap, sym, ◌∙◌, position}
use Rattle.std.specs.Option.{option_map}
use Rattle.std.proofs.lemmas.List.Quantifiers.{position-Some}
use Rattle.tn_module.specs.declared.modules.Item.TheVariants as item
use Rattle.tn_module.specs.Modules.{Parts, module_of}
use Rattle.tn_symbols.specs.Choices.{module_at}
use Rattle.tn_symbols.proofs.FirstFaults.{part-at}
use Rattle.tn_link.specs.declared.linking.Placed.{Placed}
use Rattle.tn_link.specs.Places.{start, is_code_label, item_target}
use Rattle.tn_link.specs.Cells.{address}
use Rattle.tn_link.specs.Linking.{placed}
use Rattle.tn_link.proofs.Ends.{placed_at}
use Rattle.tn_link.proofs.Listed.{placed-read}
use Rattle.tn_link.proofs.addresses.code_address.Goals as goal

pub returns : goal.returns
returns c = λ f e.
    let same = part-at (λ (p : Parts). p) c.args.modules.now c.args.m (module_of c.raw-raw.result.now) c.index-modules-m.result
    c.requires.here
    c.index-modules-m.is c.raw-raw.ensures.parts in
    let found : position (is_code_label c.args.name.now) (module_at c.args.modules.now c.args.m).items ≡ Some c.in_ok-item.item =
    ap (position (is_code_label c.args.name.now)) (sym (c.deref.ensures.value ∙ ap (λ (p : Parts). p.items) same))
    ∙ sym c.item_of.ensures ∙ c.in_ok-item.was in
    let within = (position-Some (is_code_label c.args.name.now) (module_at c.args.modules.now c.args.m).items c.in_ok-item.item
    (item.Byte 0) found).0 in
    ap (λ (p : Placed). Some p.address)
    (ap (λ (l : List Placed). get_or l (c.item_count-before.result + c.in_ok-item.item) (placed_at 0 0 0 0)) e
    ∙ ap (λ n. get_or (placed c.args.modules.now f) (n + c.in_ok-item.item) (placed_at 0 0 0 0)) c.item_count-before.ensures
    ∙ placed-read c.args.modules.now f c.args.m c.in_ok-item.item (placed_at 0 0 0 0) c.requires.here within)
    ∙ sym (ap (option_map (λ (i : ℕ). address f (item_target (start c.args.modules.now c.args.m) i))) found)
