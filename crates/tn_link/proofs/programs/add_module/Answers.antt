use Rattle.std.proofs.Common.{◌≡◌, ◌++◌, List, ℕ, Option, map, ap, sym, ◌∙◌}
use Rattle.indexmap.specs.IndexMap.{get}
use Rattle.tn_module.specs.declared.modules.Item.{Item}
use Rattle.tn_module.specs.Modules.{Parts, module_of}
use Rattle.tn_module.specs.Names.{same_name}
use Rattle.tn_symbols.specs.Choices.{module_at}
use Rattle.tn_symbols.proofs.FirstFaults.{part-at}
use Rattle.tn_link.specs.declared.programs.Element.{Element}
use Rattle.tn_link.specs.declared.tables.Target.{Target}
use Rattle.tn_link.specs.Places.{told, target}
use Rattle.tn_link.specs.Programs.{element}
use Rattle.tn_link.proofs.Ends.{starts-long, items-fit, cells-fit}
use Rattle.tn_link.proofs.Fitness.{tables-are, near-tables, usable-items_by}
use Rattle.tn_link.proofs.programs.add_module.Goals as goal

pub bounds-plan-m : goal.bounds-plan-m
bounds-plan-m c = c.requires.here

pub bounds-plan-m-2 : goal.bounds-plan-m-2
bounds-plan-m-2 c = starts-long c.args.plan.now.modules.now c.args.plan.now.starts.now c.requires.plan.starts c.args.m c.requires.here

pub labels-requires-clause-items : goal.labels-requires-clause-items
labels-requires-clause-items c =
    items-fit c.args.plan.now.modules.now c.args.plan.now.starts.now c.requires.plan.starts c.args.m c.requires.here _
    (module_of c.raw-raw.result.now)
    (part-at (λ (p : Parts). p) c.args.plan.now.modules.now c.args.m (module_of c.raw-raw.result.now) c.index-plan-m.result
    c.requires.here
    c.index-plan-m.is (c.raw-raw.ensures.parts ∙ sym c.index-plan-m.is)) c.requires.plan.items

pub labels-requires-clause-cells : goal.labels-requires-clause-cells
labels-requires-clause-cells c =
    cells-fit c.args.plan.now.modules.now c.args.plan.now.starts.now c.requires.plan.starts c.args.m c.requires.here _
    (module_of c.raw-raw.result.now)
    (part-at (λ (p : Parts). p) c.args.plan.now.modules.now c.args.m (module_of c.raw-raw.result.now) c.index-plan-m.result
    c.requires.here
    c.index-plan-m.is (c.raw-raw.ensures.parts ∙ sym c.index-plan-m.is)) c.requires.plan.cells

pub add_elements-requires-clause-near : goal.add_elements-requires-clause-near
add_elements-requires-clause-near c =
    near-tables c.args.plan.now.modules.now c.args.plan.now.starts.now c.requires.plan.starts c.args.m c.requires.here
    (module_of c.raw-raw.result.now)
    (part-at (λ (p : Parts). p) c.args.plan.now.modules.now c.args.m (module_of c.raw-raw.result.now) c.index-plan-m.result
    c.requires.here
    c.index-plan-m.is (c.raw-raw.ensures.parts ∙ sym c.index-plan-m.is))
    (get same_name c.in_ok-own.own) (get same_name c.args.plan.now.exports.now)
    c.in_ok-own.ensures
    c.requires.plan.exports c.requires.plan.items c.requires.plan.cells _ c.requires.plan.items

pub add_elements-requires-clause-usable : goal.add_elements-requires-clause-usable
add_elements-requires-clause-usable c =
    usable-items_by c.args.plan.now.modules.now c.args.plan.now.starts.now c.requires.plan.starts c.args.m c.requires.here
    (module_of c.raw-raw.result.now)
    (part-at (λ (p : Parts). p) c.args.plan.now.modules.now c.args.m (module_of c.raw-raw.result.now) c.index-plan-m.result
    c.requires.here
    c.index-plan-m.is (c.raw-raw.ensures.parts ∙ sym c.index-plan-m.is))
    (get same_name c.in_ok-own.own) (get same_name c.args.plan.now.exports.now)
    c.in_ok-own.ensures
    c.requires.plan.exports c.requires.plan.valid c.requires.plan.linkable.defined c.deref.result.now c.deref.ensures.value

pub returns : goal.returns
returns c =
    let modules : List Parts = c.args.plan.now.modules.now in
    let before : List Element = c.args.elements.now.items in
    let same : module_of c.raw-raw.result.now ≡ module_at modules c.args.m = part-at (λ (p : Parts). p) modules c.args.m
    (module_of c.raw-raw.result.now) c.index-plan-m.result c.requires.here c.index-plan-m.is
    (c.raw-raw.ensures.parts ∙ sym c.index-plan-m.is) in
    c.in_ok-add_elements.ensures
    ∙ ap (λ (f : List ℕ → Option Target). before ++ map (element (told f) c.args.cell_base) c.deref.result.now)
    (tables-are modules c.args.plan.now.starts.now c.requires.plan.starts c.args.m c.requires.here (module_of c.raw-raw.result.now) same
    (get same_name c.in_ok-own.own) (get same_name c.args.plan.now.exports.now) c.in_ok-own.ensures c.requires.plan.exports)
    ∙ ap (λ (l : List Item). before ++ map (element (target modules c.args.m) c.args.cell_base) l)
    (c.deref.ensures.value ∙ ap (λ (p : Parts). p.items) same)
