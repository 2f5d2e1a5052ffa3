-- Follows: the loaded network runs as its symbolic programs do.
use Rattle.std.specs.Prelude.{◌≡◌, ◌⊎◌, ℕ, Bool, true, false, List, [], ◌∷◌, length, slice_get, Some, IsSome, All, if◌then◌else◌}
use Rattle.tn_stream.specs.Images.{ImageBytes}
use Rattle.tn_node.specs.declared.modes.Made.{Made}
use Rattle.tn_node.specs.declared.modes.Made.TheVariants as made
use Rattle.tn_node.specs.Nodes.{NodeState}
use Rattle.tn_network.specs.declared.picks.Pick.{Pick}
use Rattle.tn_network.specs.Steps.{made_by_pick}
use Rattle.tn_network.specs.Boards.{BoardState}
use Rattle.tn_network.specs.Nets.{NetState, memory_ops, net_enabled, net_after}
use Rattle.tn_sym.specs.ProgramStates.{ProgramState}
use Rattle.tn_sym.specs.Symbolic.{SymbolicState, symbolic_enabled, symbolic_after, AreSymbolic, symbolic_behind}
use Rattle.tn_sym.specs.Same.{Same}
use Rattle.tn_sym.specs.Programs.{AreModules, Belong, AreLoaded, Begins}

-- ---- runs of the network

-- each pick of a list is enabled when it comes
abbrev pub Runs : NetState → List Pick → Type 0
Runs n [] = Unit {0}
Runs n (pick ∷ picks) = (net_enabled n pick ≡ true) × Runs (net_after pick n) picks

-- the network after them
abbrev pub behind : NetState → List Pick → NetState
behind n [] = n
behind n (pick ∷ picks) = behind (net_after pick n) picks

-- a pick is a prefix byte of a processor
abbrev pub is_prefix : Made → Bool
is_prefix made.Prefix = true
is_prefix made.Whole = false
is_prefix made.Link = false

abbrev pub is_dropped : NetState → Pick → Bool
is_dropped n pick = is_prefix (made_by_pick memory_ops pick n.board.state)

-- the picks without those that are prefix bytes when they come
abbrev pub kept : NetState → List Pick → List Pick
kept n [] = []
kept n (pick ∷ picks) = if is_dropped n pick then kept (net_after pick n) picks else pick ∷ kept (net_after pick n) picks

-- ---- the claim

-- picks bring a symbolic network to a stop: some of them, each enabled when it comes, and the others not made
abbrev pub Stops : SymbolicState → List Pick → Type 0
Stops s [] = IsSome s.stop
Stops s (pick ∷ picks) = IsSome s.stop ⊎ ((symbolic_enabled s pick ≡ true) × Stops (symbolic_after pick s) picks)

-- Behind picks the two networks are beside each other: the symbolic one makes all that are kept, the
-- states are the same, and the same picks are enabled in both.
pub record AreBeside (n : NetState) (s : SymbolicState) (picks : List Pick) : Type 0 where
  pub made : AreSymbolic s (kept n picks)
  pub same : Same (behind n picks).board.state (symbolic_behind s (kept n picks))
  pub enabled : (pick : Pick) → net_enabled (behind n picks) pick ≡ symbolic_enabled (symbolic_behind s (kept n picks)) pick

-- whatever the network does, the symbolic one does it too, until it stops
abbrev pub Follows : NetState → SymbolicState → Type 0
Follows n s = (picks : List Pick) → Runs n picks → Stops s (kept n picks) ⊎ AreBeside n s picks

-- a processor has engines for four links, in and out
abbrev pub HasLinks : NodeState (List ℕ) → Type 0
HasLinks node = (length node.inputs ≡ 4) × (length node.outputs ≡ 4)

abbrev pub HaveLinks : BoardState (NodeState (List ℕ)) → Type 0
HaveLinks s = (p : ℕ) (node : NodeState (List ℕ)) → slice_get s.nodes p ≡ Some node → HasLinks node

-- The theorem: from every state in which a network is loaded with the images of its programs and its hold is
-- lifted, its runs are those of the symbolic network that begins there.
abbrev pub Execution : Type 0
Execution =
    (n : NetState) (programs : List ProgramState) (images : List ImageBytes) (s : SymbolicState)
    → HaveLinks n.board.state → n.holds.held ≡ false
    → All (λ program. AreModules program.modules) programs → Belong n.board.network programs images → AreLoaded images
    n.board.state → Begins programs n.board s → Follows n s
