use Rattle.std.proofs.Common.{ℕ, List, Some, None, arith, ap, subst, ◌∙◌, sym}
use Rattle.std.specs.Prelude.{MatchOption}
use Rattle.tn_network.specs.Inner.PickBits.{NoBit, IsEdgeBit}
use Rattle.tn_network.proofs.NetLaws.{first-some, first-none, seen-first, edge-low}
use Rattle.tn_network.proofs.nets.Net.first.Goals as goal

pub numbered-requires : goal.numbered-requires
numbered-requires c =
    edge-low _ c.self.inside.words.items c.self.invariant c.args.back c.in-Some.number
    (subst (λ (ws : List ℕ). IsEdgeBit c.args.back ws c.in-Some.number) c.deref.ensures.value c.in-Some.ensures)

pub returns-in-Some : goal.returns-in-Some
returns-in-Some c =
    ap (λ pick. Some pick) c.numbered.ensures
    ∙ seen-first _ c.args.self.now c.self.view_is c.args.back _
    (first-some _ c.self.inside.words.items c.self.invariant c.args.back c.in-Some.number
    (subst (λ (ws : List ℕ). IsEdgeBit c.args.back ws c.in-Some.number) c.deref.ensures.value c.in-Some.ensures))

pub returns-in-None : goal.returns-in-None
returns-in-None c =
    seen-first _ c.args.self.now c.self.view_is c.args.back _
    (first-none _ c.self.inside.words.items c.self.invariant c.args.back
    (subst (λ (ws : List ℕ). NoBit ws) c.deref.ensures.value c.in-None.ensures))
