use Rattle.std.proofs.Common.{refl, ap, ◌∙◌}
use Rattle.tn_network.specs.NodeOps.{is_running}
use Rattle.tn_network.proofs.BoardReads.{runs-some, runs-none}
use Rattle.tn_network.proofs.boards.Board.runs.Goals as goal

pub get-requires : goal.get-requires
get-requires g c κs = (refl, tt)

pub returns-in-Some : goal.returns-in-Some
returns-in-Some g c =
    let found = c.in-Some.ensures.lookup in
    runs-some g.M.Space.access c.args.self.now _ _ _ _ c.self.view_is _ c.deref.ensures.value c.args.p c.in-Some.node.now
    found.3.0 found.1 _ (c.is_running.ensures ∙ ap is_running c.mode.ensures.value)

pub returns-in-None : goal.returns-in-None
returns-in-None g c =
    runs-none g.M.Space.access c.args.self.now _ _ _ _ c.self.view_is _ c.deref.ensures.value c.args.p
    c.in-None.ensures.lookup.3
