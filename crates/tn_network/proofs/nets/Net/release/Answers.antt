use Rattle.std.proofs.Common.{length, arith, ap, ◌∙◌}
use Rattle.tn_network.specs.Nets.{net_of}
use Rattle.tn_network.specs.Inner.PickBits.{has_bit}
use Rattle.tn_network.proofs.RenewLaws.{clear-above}
use Rattle.tn_network.proofs.nets.Net.release.Goals as goal

pub renew_all-requires-clause-clear : goal.renew_all-requires-clause-clear
renew_all-requires-clause-clear c = λ k above within.
    let words = ap length c.deref_mut.ensures.value in
    ap (λ ws. has_bit ws k) c.deref_mut.ensures.value
    ∙ clear-above (net_of c.self.inside.board c.self.inside.holds) c.self.inside.words.items c.self.invariant.tell k above (omega
    (arith, words, within))
