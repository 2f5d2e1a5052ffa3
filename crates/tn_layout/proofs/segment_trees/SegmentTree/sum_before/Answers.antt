use Rattle.std.proofs.Common.{◌≡◌, ℕ, ◌+◌, ◌/◌, ◌%◌, ◌^◌, ◌<◌, ◌-◌, get_or, sym, ap, ◌∙◌, arith}
use Rattle.std.proofs.lemmas.Grind.{get_or_default_zero}
use Rattle.tn_layout.specs.Inner.SegmentTrees.{sum_from}
use Rattle.tn_layout.proofs.SegmentTreeLaws.{halved, step-even, step-odd, some-power}
use Rattle.tn_layout.proofs.segment_trees.SegmentTree.sum_before.Goals as goal
use Rattle.tn_layout.proofs.segment_trees.SegmentTree.sum_before.Goals.{then-before-eq1, else-before-eq1}

even : (n : ℕ) → (n % 2 ≡ 1 → ⊥) → n % 2 ≡ 0
even n not = omega (arith, not)

pub loop-level-preserved : goal.loop-level-preserved
loop-level-preserved c =
    let i = c.loop-level.invariant in
    let half = halved c.loop-level.first c.loop-level.level i.first (omega (arith, c.loop-level-test.true)) in
    let some : 0 < c.loop-level.first / 2 = omega (arith, half.0, some-power (c.loop-level.level - 1)) in
    record {
      first = half.0;
      wide = omega (arith, i.wide);
      before = omega (arith, i.before, half.1);
      sums = elim c.if-before-eq1.branch [
        | then-before-eq1 w ↦ (let read : w.index.result.now ≡ get_or c.args.self.now.nodes.items
            (c.loop-level.first + c.loop-level.before - 1)
            0 = w.index.ensures ∙ get_or_default_zero c.args.self.now.nodes.items (c.loop-level.first + c.loop-level.before - 1)
            w.index.result.now (omega (arith, i.before, i.wide, c.args.self.now.whole)) in
            ap (λ x. (x + sum_from c.args.self.now.nodes.items (c.loop-level.first / 2) (c.loop-level.before / 2)) % 2 ^ 32)
            (w.sum-is ∙ ap (λ x. (c.loop-level.sum + x) % 2 ^ 32) read)
            ∙ step-odd c.args.self.now.nodes.items c.args.self.now.width c.loop-level.first c.loop-level.before c.loop-level.sum
            (sum_from c.args.self.now.nodes.items c.args.self.now.width c.args.count % 2 ^ 32) c.requires.joined half.1
            some i.before i.wide i.sums w.if-before-eq1.true)
        | else-before-eq1 w ↦ ap (λ x. (x + sum_from c.args.self.now.nodes.items (c.loop-level.first / 2) (c.loop-level.before / 2)) % 2
            ^ 32)
            w.sum-is
            ∙ step-even c.args.self.now.nodes.items c.args.self.now.width c.loop-level.first c.loop-level.before c.loop-level.sum
            (sum_from c.args.self.now.nodes.items c.args.self.now.width c.args.count % 2 ^ 32) c.requires.joined half.1
            some i.before i.wide i.sums (even c.loop-level.before w.if-before-eq1.false)
      ];
    }

pub returns : goal.returns
unfolding sum_from
returns c =
    let i = c.loop-level.invariant in
    let none : c.loop-level.level ≡ 0 = omega (arith, c.loop-level-test.false) in
    let one : c.loop-level.first ≡ 1 = i.first ∙ ap (λ n. 2 ^ n) none in
    let before : c.loop-level.before ≡ 0 = omega (arith, i.before, one) in
    let sums : (c.loop-level.sum + sum_from c.args.self.now.nodes.items c.loop-level.first 0) % 2 ^ 32
    ≡ sum_from c.args.self.now.nodes.items c.args.self.now.width c.args.count % 2 ^ 32 =
    ap (λ n. (c.loop-level.sum + sum_from c.args.self.now.nodes.items c.loop-level.first n) % 2 ^ 32) (sym before) ∙ i.sums in
    omega (arith, sums, c.loop-level.auto.sum-fits)
