use Rattle.std.proofs.Common.{refl, ap, ◌∙◌}
use Rattle.std.specs.Prelude.{is_some}
use Rattle.tn_network.proofs.BoardReads.{inside_nodes, end_of, sends-then, sends-else, sends-none}
use Rattle.tn_network.proofs.boards.Board.can_send.Goals as goal

pub get-requires : goal.get-requires
get-requires g c κs = (refl, tt)

pub offers-requires : goal.offers-requires
offers-requires g c = c.requires

pub far-requires : goal.far-requires
far-requires g c =
    let found = c.in-Some.ensures.lookup in
    end_of g.M.Space.access g.met.M.Space.lawful c.args.self.now _ _ _ _ c.self.view_is c.self.invariant
    c.args.p c.args.l
    (inside_nodes g.M.Space.access c.args.self.now _ _ _ _ c.self.view_is _ c.deref.ensures.value c.args.p
    c.in-Some.node.now found.3.0 found.1) c.requires

pub returns-then-is_some : goal.returns-then-is_some
returns-then-is_some g c =
    let found = c.in-Some.ensures.lookup in
    sends-then g.M.Space.access c.args.self.now _ _ _ _ c.self.view_is _ c.deref.ensures.value c.args.p
    c.in-Some.node.now found.3.0 found.1 c.args.l _ (c.is_some.ensures ∙ ap is_some c.offers.ensures) _ _ c.if-is_some.true
    c.far.ensures.value c.is_wired.ensures

pub returns-else-is_some : goal.returns-else-is_some
returns-else-is_some g c =
    let found = c.in-Some.ensures.lookup in
    sends-else g.M.Space.access c.args.self.now _ _ _ _ c.self.view_is _ c.deref.ensures.value c.args.p
    c.in-Some.node.now found.3.0 found.1 c.args.l _ (c.is_some.ensures ∙ ap is_some c.offers.ensures) c.if-is_some.false

pub returns-in-None : goal.returns-in-None
returns-in-None g c =
    sends-none g.M.Space.access c.args.self.now _ _ _ _ c.self.view_is _ c.deref.ensures.value c.args.p
    c.in-None.ensures.lookup.3 c.args.l
