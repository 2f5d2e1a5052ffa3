use Rattle.std.proofs.Common.{sym, ap, ◌∙◌}
use Rattle.tn_mem.specs.Guards.{Guarded, guarded}
use Rattle.tn_network.specs.NodeOps.{node_ops}
use Rattle.tn_sym.proofs.Compared.{left-step}
use Rattle.tn_node.specs.Nodes.{NodeState}
use Rattle.tn_network.specs.Boards.{WiredBoard}
use Rattle.tn_sym.specs.Symbolic.{stop_by}
use Rattle.tn_sym.proofs.Stepping.{pass-same, seen-board}
use Rattle.tn_sym.proofs.nets.act.Goals as goal

pub returns-in-HostSend : goal.returns-in-HostSend
returns-in-HostSend c =
    let same = pass-same c.args.codes.now c.args.pick c.args.board.now c.in-HostSend.is in
    let stop = c.pass.ensures.stop
    ∙ ap (λ (b : WiredBoard (NodeState Guarded)). stop_by c.args.board.now.network c.args.pick b.state) (sym c.pass.ensures.board) in
    let network = ap (λ (b : WiredBoard (NodeState Guarded)). b.network) (sym c.pass.ensures.board) in
    record {
      parts = record {
        count = c.requires.parts.count ∙ sym c.pass.ensures.count;
        fars_are = c.requires.parts.fars_are ∙ ap (λ n. n.fars) network;
        root_is = c.requires.parts.root_is ∙ ap (λ n. n.root) network;
        spent = ap (λ (b : WiredBoard (NodeState Guarded)). b.state.host.left) c.pass.ensures.board
            ∙ left-step (node_ops guarded) c.args.board.now.network c.args.pick c.args.board.now.state c.requires.parts.spent;
      };
      board = seen-board c.args.board.now.network c.args.pick c.pass.new.board c.pass.result stop ∙ (c.pass.ensures.board ∙ same);
      stop = c.pass.ensures.stop
          ∙ ap (λ (b : WiredBoard (NodeState Guarded)). stop_by c.args.board.now.network c.args.pick b.state) same;
    }
