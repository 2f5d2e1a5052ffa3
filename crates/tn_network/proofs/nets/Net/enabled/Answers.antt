use Rattle.std.proofs.Common.{ap, ◌∙◌}
use Rattle.tn_network.specs.Inner.PickBits.{has_bit}
use Rattle.tn_network.proofs.NetLaws.{enabled-number, enabled-none}
use Rattle.tn_network.proofs.nets.Net.enabled.Goals as goal

pub returns-in-Some : goal.returns-in-Some
returns-in-Some c =
    c.has_bit.ensures ∙ ap (λ ws. has_bit ws c.in-Some.number) c.deref.ensures.value
    ∙ enabled-number _ c.args.self.now c.self.inside.words.items c.count.result c.args.pick c.self.view_is c.self.invariant
    c.count.ensures.value c.number_of.ensures.word c.in-Some.number c.in-Some.ensures.value

pub returns-in-None : goal.returns-in-None
returns-in-None c =
    enabled-none _ c.args.self.now c.self.inside.words.items c.count.result c.args.pick c.self.view_is c.self.invariant
    c.count.ensures.value c.number_of.ensures.word c.in-None.ensures.value
