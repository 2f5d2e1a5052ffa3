use Rattle.std.proofs.Common.{ℕ, List, length, arith, sym, ap, subst, ◌∙◌}
use Rattle.std.proofs.lemmas.List.{with_items_is}
use Rattle.tn_network.specs.Nets.{net_of}
use Rattle.tn_network.specs.Inner.PickBits.{is_touched, IsNet, IsRenewed}
use Rattle.tn_network.proofs.NetLaws.{length-after, still_among, net-local, net-kept}
use Rattle.tn_network.proofs.nets.Net.apply.Goals as goal

pub renew_touched-requires-clause-here : goal.renew_touched-requires-clause-here
renew_touched-requires-clause-here c =
    let same = length-after c.args.pick c.self.inside.board c.step-made.new.self c.step-made.ensures.state in
    let first = ap (λ r. r.0) c.ends-p.ensures.value in
    omega (arith, same, first, c.ends-p.ensures.here)

pub renew_touched-requires-clause-there : goal.renew_touched-requires-clause-there
renew_touched-requires-clause-there c =
    still_among (length c.self.inside.board.state.nodes) (length c.step-made.new.self.state.nodes) _ c.ends-p.result.1
    (ap (λ r. r.1) c.ends-p.ensures.value)
    (length-after c.args.pick c.self.inside.board c.step-made.new.self c.step-made.ensures.state) c.ends-p.ensures.there

pub renew_touched-requires-clause-entries : goal.renew_touched-requires-clause-entries
renew_touched-requires-clause-entries c =
    c.self.invariant.entries ∙ sym (length-after c.args.pick c.self.inside.board c.step-made.new.self c.step-made.ensures.state)

pub renew_touched-requires-clause-room : goal.renew_touched-requires-clause-room
renew_touched-requires-clause-room c =
    let same = length-after c.args.pick c.self.inside.board c.step-made.new.self c.step-made.ensures.state in
    let words = ap length c.deref_mut.ensures.value in
    let room = c.self.invariant.room in
    omega (arith, same, words, room)

pub invariant_of-self : goal.invariant_of-self
invariant_of-self c =
    let same = c.renew_touched.auto.words in
    let items = ap length c.deref_mut.ensures.value in
    subst (λ (ws : List ℕ). IsNet ws (net_of c.step-made.new.self c.self.inside.holds))
    (sym (with_items_is c.self.inside.words c.renew_touched.new.words (same ∙ c.deref_mut.ensures.len)))
    (net-kept _ c.args.self.now c.self.inside.words.items c.args.pick c.step-made.new.self c.self.view_is c.self.invariant
    (sym c.enabled.ensures ∙ c.if-not-enabled.false) c.step-made.ensures.state c.ends-p.result c.ends-p.ensures.value
    c.renew_touched.new.words (same ∙ items)
    (subst (λ (ws : List ℕ). IsRenewed (is_touched c.ends-p.result.0 c.ends-p.result.1) (net_of c.step-made.new.self c.self.inside.holds) ws
    c.renew_touched.new.words) c.deref_mut.ensures.value c.renew_touched.ensures))

pub returns-clause-local : goal.returns-clause-local
returns-clause-local c =
    net-local _ c.args.self.now c.self.inside.words.items c.args.pick c.step-made.new.self c.self.view_is c.self.invariant
    (sym c.enabled.ensures ∙ c.if-not-enabled.false) c.step-made.ensures.state
