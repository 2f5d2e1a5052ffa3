use Rattle.std.proofs.Common.{◌≡◌, ◌+◌, ◌*◌, ◌^◌, ◌++◌, [], ◌∷◌, sym, ap, ◌∙◌}
use Rattle.tn_layout.specs.Inner.Orders.{sort_key}
use Rattle.tn_layout.proofs.ReferenceLaws.{keys-same, keys-more, keys-all}
use Rattle.tn_layout.proofs.spans.sort_keys.Goals as goal
use Rattle.tn_layout.proofs.spans.sort_keys.Goals.{then-is_reference+in_ok-push, else-is_reference}

pub loop-i-preserved : goal.loop-i-preserved
loop-i-preserved c = elim c.if-is_reference.branch [
  | then-is_reference+in_ok-push w ↦ (let items : c.if-is_reference.keys.items ≡ c.loop-i.keys.items ++ sort_key c.args.pieces.now
      c.loop-i.i ∷ [] =
      ap (λ k. k.items) w.keys-is ∙ (w.in_ok-push.ensures.items
      ∙ ap (λ x. c.loop-i.keys.items ++ (x * 2 ^ 32 + c.loop-i.i) ∷ []) (w.from.ensures ∙ w.span.ensures.from)) in
      rw (items) (keys-more c.args.pieces.now c.loop-i.keys.items c.loop-i.i c.loop-i-test.true
      (sym c.is_reference.ensures ∙ w.if-is_reference.true) c.loop-i.invariant))
  | else-is_reference w ↦ rw (w.keys-is) (keys-same c.args.pieces.now c.loop-i.keys.items c.loop-i.i c.loop-i-test.true
      (sym c.is_reference.ensures ∙ w.if-is_reference.false) c.loop-i.invariant)
]

pub returns : goal.returns
returns c = keys-all c.args.pieces.now c.loop-i.keys.items c.loop-i.i c.loop-i-test.false c.loop-i.invariant
