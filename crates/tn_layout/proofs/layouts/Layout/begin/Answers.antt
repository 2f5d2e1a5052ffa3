use Rattle.std.proofs.Common.{◌≡◌, length, subst, arith}
use Rattle.tn_layout.specs.Inner.SegmentTrees.{leaf}
use Rattle.tn_layout.specs.Inner.Layouts.{IsSummed}
use Rattle.tn_layout.proofs.LayoutLaws.{layout-first, order-long, order-few}
use Rattle.tn_layout.proofs.layouts.Layout.begin.Goals as goal

pub over-requires-clause-few : goal.over-requires-clause-few
over-requires-clause-few c = omega (
  arith,
  c.len.ensures,
  c.in_ok-order.order.ok.0,
  order-few c.args.pieces.now c.in_ok-order.order.items c.in_ok-order.ensures,
  c.requires.short,
)

pub all_below-requires : goal.all_below-requires
all_below-requires c = record {
  few = omega (
    arith,
    c.len-2.ensures,
    c.in_ok-order.order.ok.0,
    order-few c.args.pieces.now c.in_ok-order.order.items c.in_ok-order.ensures,
    c.requires.short,
  );
}

pub returns-clause-kept : goal.returns-clause-kept
returns-clause-kept c =
    let long : length c.in_ok-order.order.items ≡ c.len-2.result = omega (arith, c.len-2.ensures, c.in_ok-order.order.ok.0) in
    record {
      state = layout-first c.args.pieces.now c.in_ok-sizes.sizes.items c.in_ok-order.order.items
          (λ j. leaf c.in_ok-ends.ends.nodes.items c.in_ok-ends.ends.width j) c.in_ok-waiting.waiting.items
          c.in_ok-sizes.ensures c.in_ok-order.ensures c.in_ok-ends.ensures.empty
          (λ x l. c.in_ok-waiting.ensures.each x (omega (arith, l, long)))
          (λ k d l. omega (arith, c.in_ok-waiting.ensures.below k d l, long));
      summed = subst (λ sizes. IsSummed sizes c.in_ok-sums.sums.nodes.items c.in_ok-sums.sums.width) c.deref.ensures.value
          c.in_ok-sums.ensures;
      joined = c.in_ok-ends.ensures.joined;
      wide = omega (arith, c.in_ok-ends.ensures.wide, c.len.ensures, c.in_ok-order.order.ok.0);
      few = omega (arith, order-few c.args.pieces.now c.in_ok-order.order.items c.in_ok-order.ensures, c.requires.short);
    }

pub returns-clause-all : goal.returns-clause-all
returns-clause-all c = omega (
  arith,
  c.in_ok-waiting.ensures.long,
  c.len-2.ensures,
  c.in_ok-order.order.ok.0,
  order-long c.args.pieces.now c.in_ok-order.order.items c.in_ok-order.ensures,
)
