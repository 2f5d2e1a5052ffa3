use Rattle.std.proofs.Common.{◌≡◌, ◌++◌, length, ap, ◌∙◌, arith}
use Rattle.tn_module.specs.Modules.{Parts, module_of}
use Rattle.tn_symbols.specs.Choices.{module_at}
use Rattle.tn_symbols.proofs.FirstFaults.{part-at}
use Rattle.tn_link.specs.declared.tables.Start.{Start}
use Rattle.tn_link.specs.Places.{start}
use Rattle.tn_link.specs.Linking.{placed_items, module_items}
use Rattle.tn_link.specs.Inner.Frames.{frame_of}
use Rattle.tn_link.proofs.Ends.{starts-long, start-at, start_from, items-within}
use Rattle.tn_link.proofs.Ranges.{joined-grown}
use Rattle.tn_link.proofs.placing.placed.Goals as goal

pub bounds-plan-m : goal.bounds-plan-m
bounds-plan-m c = starts-long c.args.plan.now.modules.now c.args.plan.now.starts.now c.requires.plan.starts c.loop-m.m c.loop-m-test.true

pub add_items-requires-clause-few : goal.add_items-requires-clause-few
add_items-requires-clause-few c =
    let same = part-at (λ (p : Parts). p) c.args.plan.now.modules.now c.loop-m.m (module_of c.raw-raw.result.now) c.module-item.result
    c.loop-m-test.true c.module-item.is c.raw-raw.ensures.parts in
    omega (
      arith,
      c.len.ensures,
      c.raw-raw.result.now.items.ok,
      ap (λ (p : Parts). length p.items) same,
      ap (λ (s : Start). s.item)
          (start-at c.args.plan.now.modules.now c.args.plan.now.starts.now c.requires.plan.starts c.loop-m.m c.loop-m-test.true
          (start_from 0 0)),
      items-within c.args.plan.now.modules.now c.loop-m.m c.loop-m-test.true,
      c.requires.positions.as_many,
      c.requires.frame.as_many,
    )

pub loop-m-preserved : goal.loop-m-preserved
loop-m-preserved c =
    let same : module_of c.raw-raw.result.now ≡ module_at c.args.plan.now.modules.now c.loop-m.m = part-at (λ (p : Parts). p)
    c.args.plan.now.modules.now c.loop-m.m (module_of c.raw-raw.result.now) c.module-item.result c.loop-m-test.true c.module-item.is
    c.raw-raw.ensures.parts in
    let long : c.len.result ≡ length (module_at c.args.plan.now.modules.now c.loop-m.m).items = omega
    (arith, c.len.ensures, c.raw-raw.result.now.items.ok, ap (λ (p : Parts). length p.items) same) in
    joined-grown (module_items c.args.plan.now.modules.now (frame_of c.args.frame.now c.args.sizes.now)) c.loop-m.m c.loop-m.places.items
    c.add_items.new.places.items c.loop-m.invariant
    (c.in_ok-add_items.ensures
    ∙ ap (λ n. c.loop-m.places.items ++ placed_items (frame_of c.args.frame.now c.args.sizes.now) c.loop-m.m n c.len.result)
    (ap (λ (s : Start). s.item)
    (start-at c.args.plan.now.modules.now c.args.plan.now.starts.now c.requires.plan.starts c.loop-m.m c.loop-m-test.true (start_from 0 0)))
    ∙ ap (λ n. c.loop-m.places.items ++ placed_items (frame_of c.args.frame.now c.args.sizes.now) c.loop-m.m
    (start c.args.plan.now.modules.now c.loop-m.m).item n) long)
