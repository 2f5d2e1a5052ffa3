use Rattle.std.proofs.Common.{sym, subst, arith}
use Rattle.tn_layout.specs.Sizes.{Least, IsExact}
use Rattle.tn_layout.specs.Inner.SegmentTrees.{leaf}
use Rattle.tn_layout.proofs.LayoutLaws.{most, exact, least}
use Rattle.tn_layout.proofs.sizes.grown.Goals as goal

pub looks-smaller : goal.looks-smaller
looks-smaller g c = omega (
  arith,
  c.in_ok-look.ensures.fewer c.if-branch.true,
  most c.args.pieces.now c.looks.layout.sizes.items c.looks.layout.order.items
      (λ j. leaf c.looks.layout.ends.nodes.items c.looks.layout.ends.width j)
      c.looks.layout.waiting.items c.looks.invariant.kept.state,
  most c.args.pieces.now c.look.new.self.sizes.items c.look.new.self.order.items
      (λ j. leaf c.look.new.self.ends.nodes.items c.look.new.self.ends.width j)
      c.look.new.self.waiting.items c.in_ok-look.ensures.kept.state,
)

pub returns-in_err-look-clause-cost : goal.returns-in_err-look-clause-cost
returns-in_err-look-clause-cost g c = omega (
  arith,
  c.looks.invariant.cost,
  c.look.ensures.step,
  c.in_err-look.ensures.some,
  most c.args.pieces.now c.looks.layout.sizes.items c.looks.layout.order.items
      (λ j. leaf c.looks.layout.ends.nodes.items c.looks.layout.ends.width j)
      c.looks.layout.waiting.items c.looks.invariant.kept.state,
)

pub returns-clause-least : goal.returns-clause-least
returns-clause-least g c = subst (λ s. Least c.args.pieces.now s) (sym c.into_sizes.ensures)
    (least c.args.pieces.now c.look.new.self.sizes.items c.look.new.self.order.items
    (λ j. leaf c.look.new.self.ends.nodes.items c.look.new.self.ends.width j)
    c.look.new.self.waiting.items c.in_ok-look.ensures.kept.state (c.in_ok-look.ensures.done c.if-branch.false))

pub returns-clause-exact : goal.returns-clause-exact
returns-clause-exact g c = subst (λ s. IsExact c.args.pieces.now s) (sym c.into_sizes.ensures)
    (exact c.args.pieces.now c.look.new.self.sizes.items c.look.new.self.order.items
    (λ j. leaf c.look.new.self.ends.nodes.items c.look.new.self.ends.width j)
    c.look.new.self.waiting.items c.in_ok-look.ensures.kept.state (c.in_ok-look.ensures.done c.if-branch.false))

pub returns-clause-cost : goal.returns-clause-cost
returns-clause-cost g c =
    let none = c.in_ok-look.ensures.none c.if-branch.false in
    omega (
      arith,
      c.looks.invariant.cost,
      none.0,
      most c.args.pieces.now c.looks.layout.sizes.items c.looks.layout.order.items
          (λ j. leaf c.looks.layout.ends.nodes.items c.looks.layout.ends.width j)
          c.looks.layout.waiting.items c.looks.invariant.kept.state,
    )
