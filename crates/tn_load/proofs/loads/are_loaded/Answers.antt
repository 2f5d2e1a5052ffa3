use Rattle.std.proofs.Common.{◌≡◌, true, false, refl, sym, ◌∙◌, arith}
use Rattle.tn_stream.specs.Images.{image_of, images_of}
use Rattle.tn_load.specs.Targets.{target_of, targets_of}
use Rattle.tn_load.proofs.LoadTestLaws.{each-more, each-all, not-all, get-map, length-maps}
use Rattle.tn_load.proofs.loads.are_loaded.Goals as goal

pub returns-then-not-is_loaded : goal.returns-then-not-is_loaded
returns-then-not-is_loaded c =
    let there = get-map target_of image_of c.args.images.now c.loop-p.p c.index-images-p.result (omega
    (arith, c.loop-p-test.true, c.count-p-end.ensures.value, c.requires)) c.index-images-p.is in (
      λ e. absurd (let clash : false ≡ true = e in cc),
      λ all. absurd (not-all c.args.board.now.state.nodes (targets_of (images_of c.args.images.now)) c.loop-p.p c.node.result.now
          (target_of (image_of c.index-images-p.result)) c.node.ensures there (sym c.is_loaded.ensures ∙ c.if-not-is_loaded.true) all),
    )

pub loop-p-preserved : goal.loop-p-preserved
loop-p-preserved c =
    let there = get-map target_of image_of c.args.images.now c.loop-p.p c.index-images-p.result (omega
    (arith, c.loop-p-test.true, c.count-p-end.ensures.value, c.requires)) c.index-images-p.is in
    each-more c.args.board.now.state.nodes (targets_of (images_of c.args.images.now)) c.loop-p.p c.node.result.now
    (target_of (image_of c.index-images-p.result)) c.node.ensures there (sym c.is_loaded.ensures ∙ c.if-not-is_loaded.false)
    c.loop-p.invariant

pub returns : goal.returns
returns c = (
  λ _. each-all c.args.board.now.state.nodes (targets_of (images_of c.args.images.now))
      (length-maps target_of image_of c.args.images.now ∙ c.requires) (λ q n t low here there.
      c.loop-p.invariant q n t (omega (arith, low, c.count-p-end.ensures.value, c.loop-p-test.false)) here there),
  λ _. refl,
)
