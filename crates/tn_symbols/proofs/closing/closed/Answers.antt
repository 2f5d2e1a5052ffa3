use Rattle.std.proofs.Common.{◌≡◌, ℕ, ◌<◌, false, true, None, List, [], ◌++◌, length, arith, ap, sym, ◌∙◌, subst}
use Rattle.std.specs.Ordering.{nat_cmp}
use Rattle.std.specs.BTreeSet.{contains}
use Rattle.std.proofs.lemmas.List.{get_or-map, length-map, length_push}
use Rattle.std.proofs.lemmas.List.Elements.{All-get_or}
use Rattle.indexmap.specs.IndexMap.{get}
use Rattle.tn_module.specs.Modules.{Parts}
use Rattle.tn_module.specs.Names.{same_name, import_names}
use Rattle.tn_module.specs.Inner.Sets.{HaveSameNames}
use Rattle.tn_symbols.specs.Sources.{source, module_of, modules_of}
use Rattle.tn_symbols.specs.Inner.Tables.{missing, WantsMore}
use Rattle.tn_symbols.specs.Inner.Sourcing.{IsHere, offered}
use Rattle.tn_symbols.proofs.Wanting.{empty-set}
use Rattle.tn_symbols.proofs.Picking.{IsPicking, none-picked, wanted-here, none-wanted, picked, one-more}
use Rattle.tn_symbols.proofs.closing.closed.Goals as goal

abbrev empty : Parts
empty = record { name = []; imports = []; exports = []; items = []; cells = [] }

pub closing-init : goal.closing-init
closing-init c =
    none-picked (modules_of (offered c.args.offer.now) c.args.first.now) (modules_of (offered c.args.offer.now) c.args.stock.now)
    (get same_name c.args.places.now) c.requires.places _ _ _ c.new-picks.ensures.items c.in_ok-exported.ensures c.in_ok-wanted.ensures

pub bounds-stock-place : goal.bounds-stock-place
bounds-stock-place c =
    omega (
      arith,
      wanted-here (modules_of (offered c.args.offer.now) c.args.first.now) (modules_of (offered c.args.offer.now) c.args.stock.now)
          (get same_name c.args.places.now) c.requires.places c.closing.picks.items c.closing.exported.keys
          (contains nat_cmp c.closing.wanted)
          c.closing.invariant c.in-Some.place c.in-Some.ensures.member,
      length-map c.args.stock.now (module_of (offered c.args.offer.now)),
    )

pub module_of-requires : goal.module_of-requires
module_of-requires c =
    let here : c.in-Some.place < length c.args.stock.now = omega (
      arith,
      wanted-here
          (modules_of (offered c.args.offer.now) c.args.first.now) (modules_of (offered c.args.offer.now) c.args.stock.now)
          (get same_name c.args.places.now) c.requires.places c.closing.picks.items c.closing.exported.keys
          (contains nat_cmp c.closing.wanted)
          c.closing.invariant c.in-Some.place c.in-Some.ensures.member,
      length-map c.args.stock.now (module_of (offered c.args.offer.now)),
    ) in
    All-get_or (IsHere (offered c.args.offer.now)) c.args.stock.now c.in-Some.place (source None 0) here c.requires.stock

pub closing-preserved : goal.closing-preserved
closing-preserved c =
    let o = offered c.args.offer.now in
    let here : c.in-Some.place < length c.args.stock.now = omega (
      arith,
      wanted-here
          (modules_of o c.args.first.now) (modules_of o c.args.stock.now)
          (get same_name c.args.places.now) c.requires.places c.closing.picks.items c.closing.exported.keys
          (contains nat_cmp c.closing.wanted)
          c.closing.invariant c.in-Some.place c.in-Some.ensures.member,
      length-map c.args.stock.now (module_of o),
    ) in
    let is = c.raw-module.ensures.parts ∙ c.module_of.ensures
    ∙ sym (get_or-map (module_of o) c.args.stock.now c.in-Some.place (source None 0) empty here) in
    let exports = c.deref.ensures.value ∙ ap (λ (m : Parts). m.exports) is in
    let imports = ap import_names c.deref-in-Some.ensures.value ∙ ap (λ (m : Parts). import_names m.imports) is in
    subst (λ (picks : List ℕ). IsPicking (modules_of o c.args.first.now) (modules_of o c.args.stock.now) picks
    (get same_name c.args.places.now)
    c.add_names.new.set.keys (contains nat_cmp c.want.new.wanted)) (sym c.in_ok-push.ensures.items)
    (picked (modules_of o c.args.first.now) (modules_of o c.args.stock.now) (get same_name c.args.places.now) c.requires.places
    c.closing.picks.items c.closing.exported.keys (contains nat_cmp c.closing.wanted) c.closing.invariant c.in-Some.place
    c.in-Some.ensures.member c.in-Some.ensures.least (contains nat_cmp c.pop_first.new.self) c.in-Some.ensures.updates.0
    c.add_names.new.set.keys
    (subst (λ (l : List (List ℕ)). HaveSameNames c.add_names.new.set.keys (c.closing.exported.keys ++ l)) exports c.in_ok-add_names.ensures)
    (contains nat_cmp c.want.new.wanted)
    (subst (WantsMore (contains nat_cmp c.pop_first.new.self) (contains nat_cmp c.want.new.wanted)
    (missing (get same_name c.args.places.now) c.add_names.new.set.keys)) imports c.in_ok-want.ensures))

pub closing-smaller : goal.closing-smaller
closing-smaller c =
    let o = offered c.args.offer.now in
    let here : c.in-Some.place < length c.args.stock.now = omega (
      arith,
      wanted-here
          (modules_of o c.args.first.now) (modules_of o c.args.stock.now)
          (get same_name c.args.places.now) c.requires.places c.closing.picks.items c.closing.exported.keys
          (contains nat_cmp c.closing.wanted)
          c.closing.invariant c.in-Some.place c.in-Some.ensures.member,
      length-map c.args.stock.now (module_of o),
    ) in
    let is = c.raw-module.ensures.parts ∙ c.module_of.ensures
    ∙ sym (get_or-map (module_of o) c.args.stock.now c.in-Some.place (source None 0) empty here) in
    let exports = c.deref.ensures.value ∙ ap (λ (m : Parts). m.exports) is in
    omega (
      arith,
      one-more (modules_of o c.args.first.now) (modules_of o c.args.stock.now) (get same_name c.args.places.now) c.requires.places
          c.closing.picks.items c.closing.exported.keys (contains nat_cmp c.closing.wanted) c.closing.invariant c.in-Some.place
          c.in-Some.ensures.member c.in-Some.ensures.least (contains nat_cmp c.pop_first.new.self) c.in-Some.ensures.updates.0
          c.add_names.new.set.keys
          (subst (λ (l : List (List ℕ)). HaveSameNames c.add_names.new.set.keys (c.closing.exported.keys ++ l)) exports
          c.in_ok-add_names.ensures),
      length-map c.args.stock.now (module_of o),
      ap length c.in_ok-push.ensures.items,
      length_push c.closing.picks.items c.in-Some.place,
    )

pub returns : goal.returns
returns c =
    none-wanted (modules_of (offered c.args.offer.now) c.args.first.now) (modules_of (offered c.args.offer.now) c.args.stock.now)
    (get same_name c.args.places.now) c.requires.places c.closing.picks.items c.closing.exported.keys (contains nat_cmp c.closing.wanted)
    c.closing.invariant (empty-set c.closing.wanted (λ h. let e : false ≡ true = c.in_default.ensures.variant.1 h in cc))
