use Rattle.std.proofs.Common.{◌≡◌, ◌+◌, ◌*◌, ◌^◌, ◌<◌, ◌≤◌, length, get_or, ap, ◌∙◌, arith}
use Rattle.std.proofs.lemmas.Grind.{get_or_default_zero}
use Rattle.tn_layout.proofs.SegmentTreeLaws.{none-below, right-above, no-leaf-above, power-most, some-power, wider}
use Rattle.tn_layout.proofs.segment_trees.SegmentTree.first_above.Goals as goal
use Rattle.tn_layout.proofs.segment_trees.SegmentTree.first_above.Goals.{then-index-number-2, else-index-number-2}

pub returns-then-index-number-clause-none : goal.returns-then-index-number-clause-none
returns-then-index-number-clause-none c =
    let tree = c.args.self.now in
    let long : length tree.nodes.items ≡ 2 * tree.width = omega (arith, tree.whole, tree.nodes.ok.0) in
    let some : 0 < tree.width = omega (arith, tree.levels, some-power tree.depth) in
    no-leaf-above tree.nodes.items tree.width tree.depth c.args.number c.requires.joined
    (omega (
      arith,
      c.index.ensures ∙ get_or_default_zero tree.nodes.items 1 c.index.result.now (omega (arith, long, some)),
      c.if-index-number.true,
    ))
    tree.levels long

pub index-requires-in-loop-level : goal.index-requires-in-loop-level
index-requires-in-loop-level c =
    let i = c.loop-level.invariant in
    omega (
      arith,
      i.high,
      wider c.loop-level._level,
      power-most (c.loop-level._level + 1) c.args.self.now.depth (omega (arith, c.loop-level-test.true)),
      c.args.self.now.levels,
      c.args.self.now.whole,
    )

pub loop-level-preserved : goal.loop-level-preserved
loop-level-preserved c =
    let tree = c.args.self.now in
    let i = c.loop-level.invariant in
    let twice = wider c.loop-level._level in
    let deep : c.loop-level._level + 1 ≤ tree.depth = omega (arith, c.loop-level-test.true) in
    let most : 2 ^ (c.loop-level._level + 1) ≤ tree.width = omega
    (arith, power-most (c.loop-level._level + 1) tree.depth deep, tree.levels) in
    let long : length tree.nodes.items ≡ 2 * tree.width = omega (arith, tree.whole, tree.nodes.ok.0) in
    let same : c.loop-level.v * 2 ≡ 2 * c.loop-level.v = omega arith in
    let read : c.index-in-loop-level.result.now ≡ get_or tree.nodes.items (2 * c.loop-level.v) 0 =
    c.index-in-loop-level.ensures
    ∙ (get_or_default_zero tree.nodes.items (c.loop-level.v * 2) c.index-in-loop-level.result.now (omega (arith, long, i.high, twice, most))
    ∙ ap (λ w. get_or tree.nodes.items w 0) same) in
    elim c.if-index-number-2.branch [
      | then-index-number-2 w ↦ (let down = right-above tree.nodes.items tree.width c.args.number (2 ^ c.loop-level._level) c.loop-level.v
          c.requires.joined i.some (omega (arith, i.some, i.low)) (omega (arith, i.high, twice, most)) i.above
          (omega (arith, read, w.if-index-number-2.true)) i.none in
          let is : c.if-index-number-2.v ≡ 2 * c.loop-level.v + 1 = omega (arith, w.v-is) in
          record {
            low = omega (arith, is, twice, i.low);
            high = omega (arith, is, twice, i.high);
            some = omega (arith, twice, i.some);
            wide = (deep, most);
            above = omega (arith, ap (λ w. get_or tree.nodes.items w 0) is, down.0);
            none = λ u l h. down.1 u (omega (arith, l, twice)) (omega (arith, h, is));
          })
      | else-index-number-2 w ↦ (let is : c.if-index-number-2.v ≡ 2 * c.loop-level.v = omega (arith, w.v-is) in
          record {
            low = omega (arith, is, twice, i.low);
            high = omega (arith, is, twice, i.high);
            some = omega (arith, twice, i.some);
            wide = (deep, most);
            above = omega (arith, ap (λ w. get_or tree.nodes.items w 0) is, read, w.if-index-number-2.false);
            none = λ u l h. none-below tree.nodes.items tree.width c.args.number (2 ^ c.loop-level._level) c.loop-level.v
                c.requires.joined i.some (omega (arith, i.high, twice, most)) i.none u (omega (arith, l, twice)) (omega (arith, h, is));
          })
    ]
