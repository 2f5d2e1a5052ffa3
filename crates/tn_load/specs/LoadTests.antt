-- The tests of a loaded network.
use Rattle.std.specs.Prelude.{◌≡◌, ℕ, ◌*◌, ◌==◌, Bool, true, false, not, ◌&&◌, List, [], ◌∷◌, length, Option, is_none, Result, Ok, Err}
use Rattle.std.specs.List.{list_all}
use Rattle.std.specs.Str.{bytes_eq}
use Rattle.tn_word.specs.Words.{not_process}
use Rattle.tn_mem.specs.declared.touches.Touch.{Touch}
use Rattle.tn_mem.specs.Memories.{block, load}
use Rattle.tn_cpu.specs.declared.registers.Reg.{Reg}
use Rattle.tn_cpu.specs.declared.registers.Reg.TheVariants.{Undefined, Word}
use Rattle.tn_node.specs.declared.engines.LinkView.{LinkView}
use Rattle.tn_node.specs.Engines.{engine_of}
use Rattle.tn_node.specs.Nodes.{NodeState}
use Rattle.tn_network.specs.Hosts.{HostState}
use Rattle.tn_network.specs.Boards.{BoardState, WiredBoard, latch_at}
use Rattle.tn_network.specs.NodeOps.{stands_at}
use Rattle.tn_network.specs.Loads.{PlacedBytes, Target}

-- a board has four latches for each of the processors of its network
pub record HasLatches {N : Type 0} (b : WiredBoard N) : Type 0 where
  pub nodes : length b.state.nodes ≡ length b.network.sizes
  pub latches : length b.state.latches ≡ 4 * length b.state.nodes

-- the host has nothing more to send or to take
abbrev pub is_done : HostState → Bool
is_done h = length h.left == 0 && (not h.sent && is_none h.latch)

-- the four latches of a processor are empty
abbrev pub is_empty_at : List (Option ℕ) → ℕ → Bool
is_empty_at latches p =
    is_none (latch_at latches p 0) && (is_none (latch_at latches p 1) && (is_none (latch_at latches p 2) && is_none (latch_at latches p 3)))

-- a register holds a word
abbrev pub holds_word : ℕ → Reg → Bool
holds_word word Undefined = false
holds_word word (Word other) = other == word

-- a processor stands at its entry, with the workspace pointer, an empty queue and no error
abbrev pub has_pointers : {M : Type 0} → Target → NodeState M → Bool
has_pointers t n =
    stands_at t.entry n
    && (n.cpu.wptr == t.wptr && (holds_word not_process n.cpu.front && (not n.cpu.error && not n.cpu.halt)))

-- its three registers hold what they are to hold
abbrev pub has_stack : {M : Type 0} → Target → NodeState M → Bool
has_stack t n = holds_word t.a n.cpu.a && (holds_word t.b n.cpu.b && holds_word t.c n.cpu.c)

-- no engine of a link is open, and none of a node is
abbrev pub is_shut : LinkView → Bool
is_shut view = is_none view.input && is_none view.output

abbrev pub are_shut : {M : Type 0} → NodeState M → Bool
are_shut n =
    (is_none (engine_of n.inputs 0) && is_none (engine_of n.outputs 0))
    && ((is_none (engine_of n.inputs 1) && is_none (engine_of n.outputs 1))
    && ((is_none (engine_of n.inputs 2) && is_none (engine_of n.outputs 2))
    && (is_none (engine_of n.inputs 3) && is_none (engine_of n.outputs 3))))

-- a load gave a word
abbrev pub gave : ℕ → Result ℕ Touch → Bool
gave word (Ok other) = other == word
gave word (Err touch) = false

-- both timer queues are empty
abbrev pub has_no_timers : List ℕ → Bool
has_no_timers m = gave not_process (load m 0x80000024) && gave not_process (load m 0x80000028)

-- bytes stand in a memory at their base
abbrev pub is_placed : List ℕ → PlacedBytes → Bool
is_placed m piece = bytes_eq (block m piece.base (length piece.bytes)) piece.bytes

-- a processor is as the loader leaves it, whatever stands in its segments, and is loaded
abbrev pub is_started : Target → NodeState (List ℕ) → Bool
is_started t n = has_pointers t n && (has_stack t n && (are_shut n && has_no_timers n.cpu.memory))

abbrev pub is_loaded_node : Target → NodeState (List ℕ) → Bool
is_loaded_node t n = is_started t n && list_all (λ piece. is_placed n.cpu.memory piece) t.pieces

-- each of the processors is, there being as many targets
unfoldable pub are_loaded_nodes : List (NodeState (List ℕ)) → List Target → Bool
are_loaded_nodes [] [] = true
are_loaded_nodes [] (t ∷ targets) = false
are_loaded_nodes (n ∷ nodes) [] = false
are_loaded_nodes (n ∷ nodes) (t ∷ targets) = is_loaded_node t n && are_loaded_nodes nodes targets

-- the whole board is
abbrev pub is_loaded : BoardState (NodeState (List ℕ)) → List Target → Bool
is_loaded s targets = is_done s.host && (list_all is_none s.latches && are_loaded_nodes s.nodes targets)
