-- The symbolic network that goes beside a network: where it begins, and what the picks of the network make
-- of it.
use Rattle.std.specs.Prelude.{◌≡◌, ℕ, Bool, List, [], ◌∷◌, map, None, if◌then◌else◌}
use Rattle.tn_link.specs.declared.linking.Placed.{Placed}
use Rattle.tn_node.specs.Nodes.{NodeState}
use Rattle.tn_network.specs.declared.picks.Pick.{Pick}
use Rattle.tn_network.specs.Boards.{WiredBoard}
use Rattle.tn_network.specs.GuardedBoards.{guarded_wired}
use Rattle.tn_network.specs.Nets.{NetState, net_enabled, net_after}
use Rattle.tn_sym.specs.ProgramStates.{ProgramState}
use Rattle.tn_sym.specs.Symbolic.{CodeState, SymbolicState, symbolic_enabled, symbolic_after}
use Rattle.tn_sym.specs.Same.{Same}
use Rattle.tn_sym.specs.Programs.{instructions, region_of}
use Rattle.tn_sym.specs.Follows.{Runs, behind, is_dropped}

-- ---- the beginning

-- the sizes of the items of a program, by their places
abbrev pub sizes_of : List Placed → List ℕ
sizes_of places = map (λ place. place.size) places

-- the code of a program
abbrev pub code_of : ProgramState → CodeState
code_of p =
    record {
      base = p.linked.code_base;
      bytes = p.linked.code;
      instructions = instructions p.modules p.linked.code_base p.linked.cell_base (sizes_of p.linked.placed);
    }

-- The symbolic network of programs that begins beside a board: a copy of it in whose memories the code is
-- guarded, with the codes of the programs, and with nothing stopped.
unfoldable pub begun : List ProgramState → WiredBoard (NodeState (List ℕ)) → SymbolicState
begun programs board =
    record { board = guarded_wired (map region_of programs) board; codes = map code_of programs; stop = None }

-- ---- what picks make of it

-- it takes a pick that is enabled there, so none once it has stopped
abbrev pub taken : Pick → SymbolicState → SymbolicState
taken pick s = if symbolic_enabled s pick then symbolic_after pick s else s

-- beside a pick, which may be a prefix byte that it does not take
abbrev pub beside_made : Bool → Pick → SymbolicState → SymbolicState
beside_made dropped pick s = if dropped then s else taken pick s

-- beside a pick of a network
abbrev pub beside_pick : NetState → Pick → SymbolicState → SymbolicState
beside_pick n pick s = beside_made (is_dropped n pick) pick s

-- beside picks of a network, one after the other
unfoldable pub beside : NetState → List Pick → SymbolicState → SymbolicState
beside n [] s = s
beside n (pick ∷ picks) s = beside (net_after pick n) picks (beside_pick n pick s)

-- ---- the claim

-- the two are in the same state, and the same picks are enabled in both
pub record AreAlike (n : NetState) (s : SymbolicState) : Type 0 where
  pub same : Same n.board.state s
  pub enabled : (pick : Pick) → net_enabled n pick ≡ symbolic_enabled s pick

-- They are, whatever the network does, as long as the symbolic one has not stopped.
abbrev pub StaysBeside : NetState → SymbolicState → Type 0
StaysBeside n s = (picks : List Pick) → Runs n picks → (beside n picks s).stop ≡ None → AreAlike (behind n picks) (beside n picks s)
