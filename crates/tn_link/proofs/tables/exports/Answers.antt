use Rattle.std.proofs.Common.{◌≡◌, ◌∙◌, List, ℕ, Option, None, below_more, get_or, ap, sym, subst, if◌then◌else◌}
use Rattle.std.specs.Option.{option_or}
use Rattle.indexmap.specs.IndexMap.{get}
use Rattle.tn_module.specs.Modules.{Parts, module_of}
use Rattle.tn_module.specs.Names.{same_name, is_among}
use Rattle.tn_module.specs.Validity.{IsValid}
use Rattle.tn_symbols.specs.Choices.{module_at}
use Rattle.tn_symbols.proofs.FirstFaults.{part-at}
use Rattle.tn_link.specs.declared.tables.Start.{Start}
use Rattle.tn_link.specs.declared.tables.Target.{Target}
use Rattle.tn_link.specs.Places.{label_in}
use Rattle.tn_link.proofs.Ends.{start_from, starts-long, start-at, items-fit, cells-fit}
use Rattle.tn_link.proofs.Meanings.{exports-grown}
use Rattle.tn_link.proofs.tables.exports.Goals as goal

pub bounds-starts-m : goal.bounds-starts-m
bounds-starts-m c = starts-long c.args.modules.now c.args.starts.now c.requires.starts c.loop-m.m c.loop-m-test.true

pub add_module-requires-clause-items : goal.add_module-requires-clause-items
add_module-requires-clause-items c =
    items-fit c.args.modules.now c.args.starts.now c.requires.starts c.loop-m.m c.loop-m-test.true _ (module_of c.raw-raw.result.now)
    (part-at (λ (p : Parts). p) c.args.modules.now c.loop-m.m (module_of c.raw-raw.result.now) c.index-modules-m.result c.loop-m-test.true
    c.index-modules-m.is c.raw-raw.ensures.parts) c.requires.items

pub add_module-requires-clause-cells : goal.add_module-requires-clause-cells
add_module-requires-clause-cells c =
    cells-fit c.args.modules.now c.args.starts.now c.requires.starts c.loop-m.m c.loop-m-test.true _ (module_of c.raw-raw.result.now)
    (part-at (λ (p : Parts). p) c.args.modules.now c.loop-m.m (module_of c.raw-raw.result.now) c.index-modules-m.result c.loop-m-test.true
    c.index-modules-m.is c.raw-raw.ensures.parts) c.requires.cells

pub loop-m-preserved : goal.loop-m-preserved
loop-m-preserved c =
    let same : module_of c.raw-raw.result.now ≡ module_at c.args.modules.now c.loop-m.m = part-at (λ (p : Parts). p) c.args.modules.now
    c.loop-m.m
    (module_of c.raw-raw.result.now) c.index-modules-m.result c.loop-m-test.true c.index-modules-m.is c.raw-raw.ensures.parts in
    record {
      valid = below_more _ _ c.loop-m.invariant.valid (subst IsValid (sym c.raw-raw.ensures.parts ∙ same) c.raw-raw.ensures.valid);
      told = λ q. exports-grown c.args.modules.now c.loop-m.m c.loop-m-test.true c.loop-m.invariant.valid q
          (get same_name c.loop-m.table q) (get same_name c.add_module.new.table q) (c.loop-m.invariant.told q)
          (c.in_ok-add_module.ensures q
          ∙ ap (λ (p : Parts). option_or (get same_name c.loop-m.table q) (if is_among p.exports q then label_in p
          (get_or c.args.starts.now c.loop-m.m (start_from 0 0)) q else None)) same
          ∙ ap (λ (s : Start). option_or (get same_name c.loop-m.table q)
          (if is_among (module_at c.args.modules.now c.loop-m.m).exports q then label_in (module_at c.args.modules.now c.loop-m.m) s q
          else None)) (start-at c.args.modules.now c.args.starts.now c.requires.starts c.loop-m.m c.loop-m-test.true (start_from 0 0)));
    }
