use Rattle.std.proofs.Common.{◌≡◌, sym, ap, subst, ◌∙◌}
use Rattle.tn_node.specs.declared.modes.Mode.{Mode}
use Rattle.tn_node.specs.Nodes.{mode_of}
use Rattle.tn_network.proofs.NodeLists.{slice_get-at}
use Rattle.tn_sym.specs.Inner.Comparisons.{SameIn, seen_mode}
use Rattle.tn_sym.proofs.Compared.{at-same}
use Rattle.tn_sym.proofs.states.same_at.Goals as goal

pub returns : goal.returns
returns c =
    let node = c.node.result.now in
    let other = c.node-symbolic.result.now in
    let code = c.index-codes-p.result in
    let seen : c.seen_mode-mode.result ≡ seen_mode c.args.stop c.args.p (mode_of other) =
    c.seen_mode-mode.ensures ∙ ap (seen_mode c.args.stop c.args.p) c.mode.ensures.value in
    let at = at-same c.args.board.now.state c.args.other.now c.args.codes.now c.args.stop c.args.p node other code c.node.ensures
    c.node-symbolic.ensures (slice_get-at c.args.codes.now c.args.p code c.requires.code c.index-codes-p.is) in (
      λ t. at.0 (subst (λ (m : Mode). SameIn m code node other) seen (c.same_node.ensures.0 t)),
      λ h. c.same_node.ensures.1 (subst (λ (m : Mode). SameIn m code node other) (sym seen) (at.1 h)),
    )
