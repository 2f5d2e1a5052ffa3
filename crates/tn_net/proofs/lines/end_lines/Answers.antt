use Rattle.std.proofs.Common.{◌≡◌, ◌<◌, ◌++◌, ◌∷◌, [], length, get_or, map, take, append_assoc, ap, sym, subst, ◌∙◌}
use Rattle.std.proofs.lemmas.List.{take_more, map-append}
use Rattle.tn_net.specs.Lines.{host_lines, wire_line}
use Rattle.tn_net.proofs.lines.end_lines.Goals as goal

pub loop-wire-preserved : goal.loop-wire-preserved
loop-wire-preserved c = (
  c.deref-wire-items.ensures.value,
  c.in_ok-push-2.ensures.items
      ∙ ap (λ e. c.loop-wire.lines.items ++ e ∷ []) c.wire_line.ensures
      ∙ ap (λ l. l ++ wire_line c.wire-item.result ∷ []) c.loop-wire.invariant.1
      ∙ append_assoc (host_lines c.args.raw.now.host) (map wire_line (take c.loop-wire.wire-index c.args.raw.now.wires.items))
      (wire_line c.wire-item.result ∷ [])
      ∙ ap (λ l. host_lines c.args.raw.now.host ++ l)
      (sym (map-append wire_line (take c.loop-wire.wire-index c.args.raw.now.wires.items) (c.wire-item.result ∷ []))
      ∙ ap (map wire_line)
      (ap (λ w. take c.loop-wire.wire-index c.args.raw.now.wires.items ++ w ∷ [])
      (subst (λ l. c.wire-item.result ≡ get_or l c.loop-wire.wire-index c.wire-item.result)
      c.deref-wire-items.ensures.value c.wire-item.is)
      ∙ sym (take_more c.args.raw.now.wires.items c.loop-wire.wire-index c.wire-item.result
      (subst (λ l. c.loop-wire.wire-index < length l) c.deref-wire-items.ensures.value c.loop-wire-test.true)))),
)
