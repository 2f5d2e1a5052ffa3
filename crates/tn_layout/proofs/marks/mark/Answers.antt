use Rattle.std.proofs.Common.{length, refl, sym, ap, subst, arith}
use Rattle.tn_layout.specs.Inner.SegmentTrees.{leaf}
use Rattle.tn_layout.proofs.MarkLaws.{IsMarking, marking-none, marks-less, fewer, marking-more, count-most, marked}
use Rattle.tn_layout.proofs.marks.mark.Goals as goal

pub loop-j-init : goal.loop-j-init
loop-j-init c = record {
  joined = c.requires.joined;
  width = refl;
  marking = marking-none c.args.pieces.now c.args.order.now c.args.place
      (λ j. leaf c.args.ends.now.nodes.items c.args.ends.now.width j) c.args.waiting.now.items c.requires.marks;
}

pub loop-j-smaller : goal.loop-j-smaller
loop-j-smaller c = fewer c.args.pieces.now c.args.order.now c.args.place
    (λ j. leaf c.args.ends.now.nodes.items c.args.ends.now.width j)
    (λ j. leaf c.loop-j.ends.nodes.items c.loop-j.ends.width j)
    (λ j. leaf c.set.new.self.nodes.items c.set.new.self.width j)
    c.args.waiting.now.items c.loop-j.waiting.items c.in-Some.j c.loop-j.invariant.marking c.in-Some.ensures.here
    c.in-Some.ensures.resting c.in-Some.ensures.held c.set.ensures.leaves

pub loop-j-preserved : goal.loop-j-preserved
loop-j-preserved c = record {
  joined = c.set.ensures.joined c.loop-j.invariant.joined;
  width = omega (arith, c.set.ensures.width, c.loop-j.invariant.width);
  marking = subst (λ xs. IsMarking c.args.pieces.now c.args.order.now c.args.place
      (λ j. leaf c.args.ends.now.nodes.items c.args.ends.now.width j)
      (λ j. leaf c.set.new.self.nodes.items c.set.new.self.width j) c.args.waiting.now.items xs)
      (sym c.in_ok-push_back.ensures.items) (marking-more c.args.pieces.now c.args.order.now c.args.place
      (λ j. leaf c.args.ends.now.nodes.items c.args.ends.now.width j)
      (λ j. leaf c.loop-j.ends.nodes.items c.loop-j.ends.width j)
      (λ j. leaf c.set.new.self.nodes.items c.set.new.self.width j)
      c.args.waiting.now.items c.loop-j.waiting.items c.in-Some.j c.loop-j.invariant.marking c.in-Some.ensures.here
      c.in-Some.ensures.resting c.in-Some.ensures.held c.set.ensures.leaves);
}

pub returns-in_err-push_back-clause-marks : goal.returns-in_err-push_back-clause-marks
returns-in_err-push_back-clause-marks c = marks-less c.args.pieces.now c.args.order.now c.args.place
    (λ j. leaf c.args.ends.now.nodes.items c.args.ends.now.width j)
    (λ j. leaf c.loop-j.ends.nodes.items c.loop-j.ends.width j)
    (λ j. leaf c.set.new.self.nodes.items c.set.new.self.width j)
    c.args.waiting.now.items c.loop-j.waiting.items c.in-Some.j c.loop-j.invariant.marking c.in-Some.ensures.here
    c.in-Some.ensures.resting c.in-Some.ensures.held c.set.ensures.leaves

pub returns-in_err-push_back-clause-count : goal.returns-in_err-push_back-clause-count
returns-in_err-push_back-clause-count c = omega (
  arith,
  ap length c.in_err-push_back.ensures.items,
  count-most c.args.pieces.now c.args.order.now c.args.place
      (λ j. leaf c.args.ends.now.nodes.items c.args.ends.now.width j)
      (λ j. leaf c.loop-j.ends.nodes.items c.loop-j.ends.width j)
      c.args.waiting.now.items c.loop-j.waiting.items c.loop-j.invariant.marking,
)

pub returns-clause-marked : goal.returns-clause-marked
returns-clause-marked c = marked c.args.pieces.now c.args.order.now c.args.place
    (λ j. leaf c.args.ends.now.nodes.items c.args.ends.now.width j)
    (λ j. leaf c.loop-j.ends.nodes.items c.loop-j.ends.width j)
    c.args.waiting.now.items c.loop-j.waiting.items c.loop-j.invariant.marking
    c.in_default.ensures.none

pub returns-clause-count : goal.returns-clause-count
returns-clause-count c = count-most c.args.pieces.now c.args.order.now c.args.place
    (λ j. leaf c.args.ends.now.nodes.items c.args.ends.now.width j)
    (λ j. leaf c.loop-j.ends.nodes.items c.loop-j.ends.width j)
    c.args.waiting.now.items c.loop-j.waiting.items c.loop-j.invariant.marking
