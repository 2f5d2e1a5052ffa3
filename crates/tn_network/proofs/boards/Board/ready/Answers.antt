use Rattle.tn_network.proofs.BoardSteps.{board-seen}
use Rattle.tn_network.proofs.boards.Board.ready.Goals as goal

pub returns-clause-board : goal.returns-clause-board
returns-clause-board g c = board-seen g.M.Space.access c.args.self.now _ _ c.self.view_is c.self.invariant
