use Rattle.std.proofs.Common.{arith}
use Rattle.tn_sym.proofs.Compared.{all-same}
use Rattle.tn_sym.proofs.states.same_boards.Goals as goal

pub returns : goal.returns
returns c = (
  λ t. all-same c.args.board.now.state c.args.other.now c.args.codes.now c.args.stop
      (c.same_host.ensures.0 c.if-not-same_host.false) (c.same_latches.ensures.0 c.if-not-same_latches.false) (omega
      (arith, c.count.ensures.value, c.count-2.ensures.value, c.if-count.false)) (c.same_nodes.ensures.0 t),
  λ h. c.same_nodes.ensures.1 h.nodes,
)
