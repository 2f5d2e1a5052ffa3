use Rattle.std.proofs.Common.{ℕ, ◌<◌, arith}
use Rattle.std.proofs.lemmas.List.Elements.{All-more}
use Rattle.tn_module.proofs.Places.{all-seen}
use Rattle.tn_tool_cases.proofs.links.are_within.Goals as goal

pub loop-place-preserved : goal.loop-place-preserved
loop-place-preserved c =
    All-more (λ (place : ℕ). place < c.args.count) c.args.places.now c.loop-place.place-index 0 c.loop-place-test.true
    c.loop-place.invariant (omega (arith, c.if-place-count.false))

pub returns : goal.returns
returns c = λ _.
    all-seen (λ (place : ℕ). place < c.args.count) c.args.places.now c.loop-place.place-index c.loop-place-test.false
    c.loop-place.invariant
