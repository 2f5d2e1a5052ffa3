use Rattle.std.proofs.Common.{rules, ◌≡◌, ◌++◌, ◌<◌, length, get_or, append-nil, refl, arith, subst, sym, ap, ◌∙◌}
use Rattle.std.proofs.lemmas.List.{take_all}
use Rattle.tn_net.specs.Trees.{LoadNode, node_at}
use Rattle.tn_stream.specs.Images.{images_of, IsImage}
use Rattle.tn_stream.specs.LoadBranches.{site_of}
use Rattle.tn_stream.specs.Waves.{first_of, last_of}
use Rattle.tn_stream.proofs.NodeReads.{node-read, image-read, site-read, whole-images}
use Rattle.tn_stream.proofs.LengthLaws.{image-at}
use Rattle.tn_stream.proofs.WaveLaws.{bytes_to, part-first, part-more, part-child, part-forward, part-end, child-behind}
use Rattle.tn_stream.proofs.Printing.{Prints-as, Prints-joined, Prints-stopped, Prints-refused}
use Rattle.tn_stream.proofs.collects.+emit_wave.Goals as goal

pub emit_first-requires-clause-image : goal.emit_first-requires-clause-image
emit_first-requires-clause-image g t c =
    subst IsImage
    (image-read c.args.images.now c.args.tree.now.nodes.items c.args.k c.requires.whole c.node.view_is c.index-node.ensures c.requires.here
    c.index-images-node.is)
    (image-at (images_of c.args.images.now) c.requires.images c.args.tree.now.nodes.items
    (whole-images c.args.images.now c.args.tree.now.nodes.items c.requires.whole) c.args.wave c.args.k c.requires.here)

pub returns-in_err-emit_first-clause-prints : goal.returns-in_err-emit_first-clause-prints
returns-in_err-emit_first-clause-prints g t c =
    Prints-refused c.from_residual.ensures.0 (Prints-as
    (sym (part-first (images_of c.args.images.now) c.args.tree.now.nodes.items (length c.args.images.now) c.requires.whole c.args.wave
    c.args.k c.requires.here (node_at c.args.tree.now.nodes.items c.args.k).children refl))
    (Prints-stopped (bytes_to (images_of c.args.images.now) c.args.tree.now.nodes.items (length c.args.images.now) c.requires.whole
    c.args.wave c.args.k c.requires.here (node_at c.args.tree.now.nodes.items c.args.k).children refl
    (node_at c.args.tree.now.nodes.items c.args.k).children
    ++ last_of c.args.wave (site_of (images_of c.args.images.now) (node_at c.args.tree.now.nodes.items c.args.k)))
    (Prints-as (ap (first_of c.args.wave)
    (site-read c.args.images.now c.args.tree.now.nodes.items c.args.k c.requires.whole c.node.view_is c.index-node.ensures c.requires.here
    c.index-images-node.is)) c.in_err-emit_first.ensures.prints)))

pub loop-child-init : goal.loop-child-init
loop-child-init g t c = (
  Prints-as (sym (append-nil (first_of c.args.wave
      (site_of (images_of c.args.images.now) (node_at c.args.tree.now.nodes.items c.args.k)))))
      (Prints-as (ap (first_of c.args.wave)
      (site-read c.args.images.now c.args.tree.now.nodes.items c.args.k c.requires.whole c.node.view_is c.index-node.ensures c.requires.here
      c.index-images-node.is)) c.in_ok-emit_first.ensures.prints),
  c.in_ok-emit_first.ensures.goes_on,
)

pub emit_forward-requires-clause-here : goal.emit_forward-requires-clause-here
emit_forward-requires-clause-here g t c =
    (child-behind (images_of c.args.images.now) c.args.tree.now.nodes.items (length c.args.images.now) c.requires.whole c.args.wave c.args.k
    c.requires.here c.deref-child-items.result.now
    (ap (λ (n : LoadNode). n.children) (node-read c.args.tree.now.nodes.items c.args.k c.node.view_is c.index-node.ensures c.requires.here)
    ∙ sym c.deref-child-items.ensures.value) c.loop-child.child-index c.loop-child-test.true).within

pub returns-in_err-emit_forward-clause-prints : goal.returns-in_err-emit_forward-clause-prints
returns-in_err-emit_forward-clause-prints g t c =
    let kids : (node_at c.args.tree.now.nodes.items c.args.k).children ≡ c.deref-child-items.result.now =
    ap (λ (n : LoadNode). n.children) (node-read c.args.tree.now.nodes.items c.args.k c.node.view_is c.index-node.ensures c.requires.here)
    ∙ sym c.deref-child-items.ensures.value in
    Prints-refused c.from_residual-in_err-emit_forward.ensures.0 (Prints-as
    (sym (part-forward (images_of c.args.images.now) c.args.tree.now.nodes.items (length c.args.images.now) c.requires.whole c.args.wave
    c.args.k c.requires.here c.deref-child-items.result.now kids c.loop-child.child-index c.loop-child-test.true))
    (Prints-stopped _ (Prints-joined c.loop-child.invariant.0 c.in_err-emit_forward.ensures.prints)))

pub emit_wave-requires : goal.emit_wave-requires
emit_wave-requires g t c =
    let b = child-behind (images_of c.args.images.now) c.args.tree.now.nodes.items (length c.args.images.now) c.requires.whole c.args.wave
    c.args.k c.requires.here c.deref-child-items.result.now
    (ap (λ (n : LoadNode). n.children) (node-read c.args.tree.now.nodes.items c.args.k c.node.view_is c.index-node.ensures c.requires.here)
    ∙ sym c.deref-child-items.ensures.value) c.loop-child.child-index c.loop-child-test.true in
    let behind : c.args.k < get_or c.deref-child-items.result.now c.loop-child.child-index 0 = b.behind in
    let within : get_or c.deref-child-items.result.now c.loop-child.child-index 0 < length c.args.tree.now.nodes.items = b.within in
    search rules

pub returns-in_err-emit_wave-clause-prints : goal.returns-in_err-emit_wave-clause-prints
returns-in_err-emit_wave-clause-prints g t c =
    let kids : (node_at c.args.tree.now.nodes.items c.args.k).children ≡ c.deref-child-items.result.now =
    ap (λ (n : LoadNode). n.children) (node-read c.args.tree.now.nodes.items c.args.k c.node.view_is c.index-node.ensures c.requires.here)
    ∙ sym c.deref-child-items.ensures.value in
    Prints-refused c.from_residual-in_err-emit_wave.ensures.0 (Prints-as
    (sym (part-child (images_of c.args.images.now) c.args.tree.now.nodes.items (length c.args.images.now) c.requires.whole c.args.wave
    c.args.k c.requires.here c.deref-child-items.result.now kids c.loop-child.child-index c.loop-child-test.true))
    (Prints-stopped _ (Prints-joined (Prints-joined c.loop-child.invariant.0 c.in_ok-emit_forward.ensures.prints)
    c.in_err-emit_wave.ensures.prints)))

pub loop-child-preserved : goal.loop-child-preserved
loop-child-preserved g t c =
    let kids : (node_at c.args.tree.now.nodes.items c.args.k).children ≡ c.deref-child-items.result.now =
    ap (λ (n : LoadNode). n.children) (node-read c.args.tree.now.nodes.items c.args.k c.node.view_is c.index-node.ensures c.requires.here)
    ∙ sym c.deref-child-items.ensures.value in (
      Prints-as
          (sym (part-more (images_of c.args.images.now) c.args.tree.now.nodes.items (length c.args.images.now) c.requires.whole c.args.wave
          c.args.k c.requires.here c.deref-child-items.result.now kids c.loop-child.child-index c.loop-child-test.true))
          (Prints-joined (Prints-joined c.loop-child.invariant.0 c.in_ok-emit_forward.ensures.prints) c.in_ok-emit_wave.ensures.prints),
      g.met.E.Out.joined c.args.emit.now c.emit_forward.new.emit c.emit_wave.new.emit
          (g.met.E.Out.joined c.args.emit.now c.loop-child.emit c.emit_forward.new.emit c.loop-child.invariant.1
          c.in_ok-emit_forward.ensures.goes_on) c.in_ok-emit_wave.ensures.goes_on,
    )

pub returns-clause-prints : goal.returns-clause-prints
returns-clause-prints g t c =
    let kids : (node_at c.args.tree.now.nodes.items c.args.k).children ≡ c.deref-child-items.result.now =
    ap (λ (n : LoadNode). n.children) (node-read c.args.tree.now.nodes.items c.args.k c.node.view_is c.index-node.ensures c.requires.here)
    ∙ sym c.deref-child-items.ensures.value in
    Prints-as
    (sym (part-end (images_of c.args.images.now) c.args.tree.now.nodes.items (length c.args.images.now) c.requires.whole c.args.wave
    c.args.k c.requires.here c.deref-child-items.result.now kids c.loop-child.child-index
    (take_all c.loop-child.child-index c.deref-child-items.result.now (omega arith))))
    (Prints-joined c.loop-child.invariant.0 (Prints-as (ap (last_of c.args.wave)
    (site-read c.args.images.now c.args.tree.now.nodes.items c.args.k c.requires.whole c.node.view_is c.index-node.ensures c.requires.here
    c.index-images-node.is)) c.emit_last.ensures.prints))

pub returns-in_err-emit_forward-clause-goes_on : goal.returns-in_err-emit_forward-clause-goes_on
returns-in_err-emit_forward-clause-goes_on g t c =
    g.met.E.Out.joined c.args.emit.now c.loop-child.emit c.emit_forward.new.emit c.loop-child.invariant.1
    c.in_err-emit_forward.ensures.goes_on

pub returns-in_err-emit_wave-clause-goes_on : goal.returns-in_err-emit_wave-clause-goes_on
returns-in_err-emit_wave-clause-goes_on g t c =
    g.met.E.Out.joined c.args.emit.now c.emit_forward.new.emit c.emit_wave.new.emit
    (g.met.E.Out.joined c.args.emit.now c.loop-child.emit c.emit_forward.new.emit c.loop-child.invariant.1
    c.in_ok-emit_forward.ensures.goes_on) c.in_err-emit_wave.ensures.goes_on

pub returns-clause-goes_on : goal.returns-clause-goes_on
returns-clause-goes_on g t c =
    g.met.E.Out.joined c.args.emit.now c.loop-child.emit c.emit_last.new.emit c.loop-child.invariant.1 c.emit_last.ensures.goes_on
