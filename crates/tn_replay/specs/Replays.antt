-- What the lines of a schedule do to a network, and what they print.
use Rattle.std.specs.Prelude.{ℕ, suc, ◌+◌, Bool, false, ◌&&◌, nat_le, nat_lt, List, [], ◌∷◌, ◌++◌, map, length, slice_get, slice_index_or}
use Rattle.std.specs.Prelude.{Option, Some, None, is_none, if◌then◌else◌}
use Rattle.std.specs.Option.{option_map}
use Rattle.tn_mem.specs.Memories.{load}
use Rattle.tn_cpu.specs.declared.outcomes.Why.{Why}
use Rattle.tn_node.specs.Engines.{engine_of}
use Rattle.tn_node.specs.Nodes.{NodeState, mode_of}
use Rattle.tn_network.specs.Boards.{latch_at}
use Rattle.tn_network.specs.Loads.{Target}
use Rattle.tn_network.specs.Nets.{NetState, memory_ops, net_enabled, net_after, released}
use Rattle.tn_network.specs.PickLists.{first_pick, settled}
use Rattle.tn_network.specs.declared.picks.Pick.{Pick}
use Rattle.tn_stream.specs.declared.images.Image.{Image}
use Rattle.tn_stream.specs.Images.{ImageBytes, images_of}
use Rattle.tn_load.specs.LoadTests.{is_loaded}
use Rattle.tn_load.specs.Targets.{targets_of}
use Rattle.tn_list.specs.Symbols.{nearest}
use Rattle.tn_sym.specs.declared.programs.Program.{Program}
use Rattle.tn_sym.specs.ProgramStates.{ProgramState, program_of}
use Rattle.tn_sym.specs.Symbolic.{SymbolicState}
use Rattle.tn_sym.specs.Follows.{behind}
use Rattle.tn_sym.specs.SymbolicRuns.{begun, beside_pick, beside}
use Rattle.tn_schedule.specs.declared.acts.Act.{Act}
use Rattle.tn_schedule.specs.declared.acts.Act.TheVariants as act
use Rattle.tn_schedule.specs.declared.acts.Line.{Line}
use Rattle.tn_replay.specs.PrintedLines.{joined, has_pointers, state_line, link_line, word_line, host_line, got_line, steps_line}
use Rattle.tn_replay.specs.PrintedLines.{settle_line, held_line, same_line, stopped_line}

-- what the lines look things up in: the names of the processors, their programs and their images
pub record Known : Type 0 where
  pub names : List (List ℕ)
  pub programs : List ProgramState
  pub images : List ImageBytes

abbrev pub known : List (List ℕ) → List Program → List Image → Known
known names programs images = record { names = names; programs = map program_of programs; images = images_of images }

-- a network; beside it, once its hold is lifted, the symbolic one of its programs; and how many picks were
-- made
pub record ReplayState : Type 0 where
  pub net : NetState
  pub symbolic : Option SymbolicState
  pub steps : ℕ

-- where a replay begins: the network is held, and no pick was made
abbrev pub beginning : NetState → ReplayState
beginning net = record { net = net; symbolic = None; steps = 0 }

abbrev pub name_of : Known → ℕ → List ℕ
name_of k p = slice_index_or k.names p []

-- what each processor is to hold once it is loaded
abbrev pub targets : Known → List Target
targets k = targets_of k.images

-- the label that an address belongs to in the program of a processor, if there is one
abbrev pub symbol_in : Option ProgramState → ℕ → Option (List ℕ × ℕ)
symbol_in None address = None
symbol_in (Some g) address =
    if nat_le g.linked.code_base address && nat_lt address (g.linked.code_base + length g.linked.code)
    then nearest g.modules address None g.linked.placed else None

-- ---- what lines do

-- the picks that settle a network, at most so many
abbrev pub settling : ℕ → Bool → NetState → List Pick
settling most back n = settled memory_ops n.board.network n.holds back most n.board.state

-- whether it is at rest
abbrev pub rests : NetState → Bool
rests n = is_none (first_pick memory_ops n.board.network n.holds false n.board.state)

-- whether it may be released: it is held and loaded
abbrev pub may_release : Known → NetState → Bool
may_release k n = n.holds.held && is_loaded n.board.state (targets k)

-- behind a pick: the symbolic network, once there is one, goes beside
abbrev pub picked : Pick → ReplayState → ReplayState
picked x s =
    record { net = net_after x s.net; symbolic = option_map (beside_pick s.net x) s.symbolic; steps = s.steps + 1 }

-- behind picks, one after the other
abbrev pub settles_to : List Pick → ReplayState → ReplayState
settles_to picks s =
    record { net = behind s.net picks; symbolic = option_map (beside s.net picks) s.symbolic; steps = s.steps + length picks }

-- once the hold is lifted: the symbolic network of the programs begins there
abbrev pub let_go : Known → ReplayState → ReplayState
let_go k s = record s { net = released s.net; symbolic = Some (begun k.programs s.net.board) }

-- ---- what lines print

-- the label that the instruction pointer belongs to, where it is that of a program
abbrev pub symbol_of_node : Known → ℕ → NodeState (List ℕ) → Option (List ℕ × ℕ)
symbol_of_node k p n = if has_pointers (mode_of n) then symbol_in (slice_get k.programs p) n.cpu.iptr else None

abbrev pub state_text : Known → NetState → ℕ → Option (NodeState (List ℕ)) → List ℕ
state_text k n p None = []
state_text k n p (Some node) = state_line (name_of k p) (symbol_of_node k p node) node

abbrev pub link_text : Known → NetState → ℕ → NodeState (List ℕ) → ℕ → List ℕ
link_text k n p node l =
    link_line (name_of k p) l (engine_of node.inputs l) (engine_of node.outputs l) (latch_at n.board.state.latches p l)

abbrev pub links_text : Known → NetState → ℕ → Option (NodeState (List ℕ)) → List ℕ
links_text k n p None = []
links_text k n p (Some node) =
    joined (link_text k n p node 0 ∷ link_text k n p node 1 ∷ link_text k n p node 2 ∷ link_text k n p node 3 ∷ [])

abbrev pub word_text_of : Known → ℕ → ℕ → Option (NodeState (List ℕ)) → List ℕ
word_text_of k p address None = []
word_text_of k p address (Some node) = word_line (name_of k p) address (load node.cpu.memory address)

-- how the symbolic network goes on: the same, or the first stop
abbrev pub going_text : Known → Option (ℕ × Why) → List ℕ
going_text k None = same_line
going_text k (Some stop) = stopped_line (name_of k stop.0) stop.1

abbrev pub same_text : Known → Option SymbolicState → List ℕ
same_text k None = held_line
same_text k (Some s) = going_text k s.stop

abbrev pub settled_text : List Pick → ReplayState → List ℕ
settled_text picks t = settle_line (rests t.net) (length picks)

-- ---- lines

-- what a line leaves, and prints
pub record Left : Type 0 where
  pub state : ReplayState
  pub text : List ℕ

abbrev pub prints : ReplayState → List ℕ → Option Left
prints s text = Some (record { state = s; text = text })

-- What an act leaves and prints, where it may be done: a pick only where it is enabled, a release only
-- where the network is held and loaded, all others always.
unfoldable pub line_done : Known → Act → ReplayState → Option Left
line_done k (act.Pick x) s = if net_enabled s.net x then prints (picked x s) [] else None
line_done k (act.Settle most back) s =
    prints (settles_to (settling most back s.net) s)
    (settled_text (settling most back s.net) (settles_to (settling most back s.net) s))
line_done k act.Release s = if may_release k s.net then prints (let_go k s) [] else None
line_done k (act.Show p) s = prints s (state_text k s.net p (slice_get s.net.board.state.nodes p))
line_done k (act.Links p) s = prints s (links_text k s.net p (slice_get s.net.board.state.nodes p))
line_done k (act.Word p address) s = prints s (word_text_of k p address (slice_get s.net.board.state.nodes p))
line_done k act.Host s = prints s (host_line (length s.net.board.state.host.left) (length s.net.board.state.host.kept))
line_done k (act.Got place) s = prints s (got_line place (slice_get s.net.board.state.host.kept place))
line_done k act.Steps s = prints s (steps_line s.steps)
line_done k act.Same s = prints s (same_text k s.symbolic)

-- What lines one after the other leave and print, up to the first that may not be done, if there is
-- one, and its index.
pub record Replayed : Type 0 where
  pub state : ReplayState
  pub text : List ℕ
  pub refused : Option ℕ

abbrev pub after_text : List ℕ → Replayed → Replayed
after_text text r = record { state = r.state; text = text ++ r.text; refused = option_map suc r.refused }

-- a line that may be done, and what lines behind it leave and print; or none
abbrev pub then_lines : Option Left → ReplayState → (ReplayState → Replayed) → Replayed
then_lines None s lines = record { state = s; text = []; refused = Some 0 }
then_lines (Some left) s lines = after_text left.text (lines left.state)

unfoldable pub replayed : Known → List Line → ReplayState → Replayed
replayed k [] s = record { state = s; text = []; refused = None }
replayed k (line ∷ lines) s = then_lines (line_done k line.act s) s (λ t. replayed k lines t)
