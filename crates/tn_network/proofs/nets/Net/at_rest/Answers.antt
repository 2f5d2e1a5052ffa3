use Rattle.std.proofs.Common.{ℕ, List, subst}
use Rattle.std.specs.Prelude.{MatchOption}
use Rattle.tn_network.specs.Inner.PickBits.{NoBit, IsFirstBit}
use Rattle.tn_network.proofs.NetLaws.{rest-told, seen-rest}
use Rattle.tn_network.proofs.nets.Net.at_rest.Goals as goal

pub returns : goal.returns
returns c =
    seen-rest _ c.args.self.now c.self.view_is c.is_none.result
    (rest-told _ c.self.inside.words.items c.self.invariant c.first_bit.result c.is_none.result
    (subst (λ (ws : List ℕ). MatchOption c.first_bit.result (NoBit ws) (λ k. IsFirstBit ws k)) c.deref.ensures.value c.first_bit.ensures)
    c.is_none.ensures)
