-- A network keeps the engines of its four links, whatever it does.
use Rattle.std.proofs.Common.{◌≡◌, ℕ, zero, suc, ◌+◌, Bool, true, false, List, [], ◌∷◌, length, map, Option, Some, None, Result, Ok, Err}
use Rattle.std.proofs.Common.{refl, subst, ◌∙◌}
use Rattle.std.specs.Prelude.{slice_get, slice_set, unwrap_or, if◌then◌else◌, ◌==◌}
use Rattle.std.proofs.lemmas.List.{length-set}
use Rattle.tn_mem.specs.declared.touches.Touch.{Touch}
use Rattle.tn_mem.specs.Memories.{plain_access}
use Rattle.tn_word.specs.Words.{mem_start}
use Rattle.tn_cpu.specs.declared.outcomes.Outcome.{Outcome}
use Rattle.tn_cpu.specs.declared.outcomes.Outcome.TheVariants as outcome
use Rattle.tn_net.specs.declared.networks.Far.{Far}
use Rattle.tn_net.specs.declared.networks.Far.TheVariants.{Nothing, Host, Link}
use Rattle.tn_net.specs.Networks.{NetworkState, far_at}
use Rattle.tn_node.specs.declared.engines.Engine.{Engine}
use Rattle.tn_node.specs.declared.modes.Expects.{Expects}
use Rattle.tn_node.specs.declared.modes.Stage.{Stage}
use Rattle.tn_node.specs.declared.modes.Stage.TheVariants.{Reset, Poking, Peeking, Replying, Booting, Refused, Over}
use Rattle.tn_node.specs.Engines.{engine_of}
use Rattle.tn_node.specs.Nodes.{NodeState}
use Rattle.tn_node.specs.Runs.{node_step, with_outcome}
use Rattle.tn_node.specs.Links.{is_reply, is_booting, marked_sent, engine_acknowledged, acknowledged, engine_taken, taken}
use Rattle.tn_node.specs.Bootstraps.{gathered, poked, peeked, boot_stored, bootstrapped}
use Rattle.tn_network.specs.declared.picks.Pick.{Pick}
use Rattle.tn_network.specs.declared.picks.Pick.TheVariants.{HostSend, HostTake, Proc, Send, Take}
use Rattle.tn_network.specs.Boards.{BoardState, changed, latch_at}
use Rattle.tn_network.specs.Steps.{nodes_acknowledged, step}
use Rattle.tn_network.specs.Resets.{PowerState, powered_node, reset_board}
use Rattle.tn_network.specs.Nets.{NetState, memory_ops, net_after}
use Rattle.tn_network.proofs.NodeLists.{each-changed}
use Rattle.tn_sym.specs.Follows.{HasLinks, HaveLinks, behind}

-- by either branch
either : {X : Type 0} (P : X → Type 0) (b : Bool) (x y : X) → P x → P y → P (if b then x else y)
either P true x y one other = one
either P false x y one other = other

set-four : (engines : List (Option Engine)) (l : ℕ) (e : Option Engine) → length engines ≡ 4 → length (slice_set engines l e) ≡ 4
set-four engines l e four = length-set engines l e ∙ four

-- ---- a node

run-four : (o : Outcome) (n : NodeState (List ℕ)) → HasLinks n → HasLinks (with_outcome o n)
run-four outcome.Prefix n four = four
run-four outcome.Ran n four = four
run-four (outcome.OpensIn t) n four = (set-four n.inputs t.link _ four.0, four.1)
run-four (outcome.OpensOut t) n four = (four.0, set-four n.outputs t.link _ four.1)
run-four (outcome.Stopped why) n four = four

send-four : (l : ℕ) (n : NodeState (List ℕ)) → HasLinks n → HasLinks (marked_sent l n)
unfolding marked_sent
send-four l n four = either HasLinks (is_reply l n) _ _ four (four.0, set-four n.outputs l _ four.1)

engine-acknowledged-four : (l : ℕ) (e : Option Engine) (n : NodeState (List ℕ)) → HasLinks n
    → HasLinks (engine_acknowledged plain_access l e n)
engine-acknowledged-four l None n four = four
engine-acknowledged-four l (Some e) n four =
    either HasLinks (e.left == 0) _ _ (four.0, set-four n.outputs l _ four.1) (four.0, set-four n.outputs l _ four.1)

acknowledged-four : (l : ℕ) (n : NodeState (List ℕ)) → HasLinks n → HasLinks (acknowledged plain_access l n)
unfolding acknowledged
acknowledged-four l n four =
    either HasLinks (is_reply l n) _ _ (either HasLinks (n.expects.got == 4) _ _ four four)
    (engine-acknowledged-four l (engine_of n.outputs l) n four)

engine-taken-four : (l byte : ℕ) (e : Option Engine) (n : NodeState (List ℕ)) → HasLinks n
    → HasLinks (engine_taken plain_access l byte e n)
engine-taken-four l byte None n four = four
engine-taken-four l byte (Some e) n four =
    either HasLinks (e.left == 1) _ _ (set-four n.inputs l _ four.0, four.1) (set-four n.inputs l _ four.0, four.1)

poked-four : (r : Result (List ℕ) Touch) (n : NodeState (List ℕ)) → HasLinks n → HasLinks (poked r n)
poked-four (Ok m) n four = four
poked-four (Err touch) n four = four

peeked-four : (r : Result ℕ Touch) (l address : ℕ) (n : NodeState (List ℕ)) → HasLinks n → HasLinks (peeked r l address n)
peeked-four (Ok word) l address n four = four
peeked-four (Err touch) l address n four = four

stored-four : (r : Result (List ℕ) Touch) (e : Expects) (n : NodeState (List ℕ)) → HasLinks n → HasLinks (boot_stored r e n)
stored-four (Ok m) e n four = either HasLinks (e.left == 1) _ _ four four
stored-four (Err touch) e n four = four

bootstrapped-four : (stage : Stage) (l byte : ℕ) (n : NodeState (List ℕ)) → HasLinks n
    → HasLinks (bootstrapped plain_access stage l byte n)
unfolding bootstrapped
bootstrapped-four Reset l byte n four = four
bootstrapped-four Poking l byte n four =
    let e = gathered byte n.expects in
    either HasLinks (e.left == 0) _ _ (poked-four (plain_access.set_word n.cpu.memory e.address e.word) n four) four
bootstrapped-four Peeking l byte n four =
    let e = gathered byte n.expects in
    either HasLinks (e.left == 0) _ _ (peeked-four (plain_access.word n.cpu.memory e.address) e.link e.address n four) four
bootstrapped-four Booting l byte n four =
    stored-four (plain_access.set_byte n.cpu.memory (mem_start + n.expects.got) byte) n.expects n four
bootstrapped-four Replying l byte n four = four
bootstrapped-four (Refused why) l byte n four = four
bootstrapped-four Over l byte n four = four

taken-four : (l byte : ℕ) (n : NodeState (List ℕ)) → HasLinks n → HasLinks (taken plain_access l byte n)
unfolding taken
taken-four l byte n four =
    either HasLinks (is_booting n.stage) _ _ (bootstrapped-four n.stage l byte n four)
    (engine-taken-four l byte (engine_of n.inputs l) n four)

-- ---- all nodes

Each : List (NodeState (List ℕ)) → Type 0
Each nodes = (p : ℕ) (n : NodeState (List ℕ)) → slice_get nodes p ≡ Some n → HasLinks n

far-four : (far : Far) (nodes : List (NodeState (List ℕ))) → Each nodes → Each (nodes_acknowledged memory_ops far nodes)
unfolding Each
far-four Nothing nodes four = four
far-four Host nodes four = four
far-four (Link q m) nodes four =
    each-changed (λ n. HasLinks n) (memory_ops.acknowledge m) nodes q (λ n at here. acknowledged-four m n here) four

step-four : (network : NetworkState) (pick : Pick) (s : BoardState (NodeState (List ℕ))) → HaveLinks s
    → HaveLinks (step memory_ops network pick s)
unfolding Each
step-four network HostSend s four = four
step-four network HostTake s four =
    each-changed (λ n. HasLinks n) (memory_ops.acknowledge network.root_link) s.nodes network.root
    (λ n at here. acknowledged-four network.root_link n here) four
step-four network (Proc p slice clock) s four =
    each-changed (λ n. HasLinks n) (memory_ops.run p slice clock) s.nodes p
    (λ n at here. run-four (node_step plain_access slice clock n).outcome
    (record n { cpu = (node_step plain_access slice clock n).state }) here) four
step-four network (Send p l) s four =
    each-changed (λ n. HasLinks n) (memory_ops.send l) s.nodes p (λ n at here. send-four l n here) four
step-four network (Take p l) s four =
    far-four (far_at network p l) (changed (memory_ops.take l (unwrap_or (latch_at s.latches p l) 0)) s.nodes p)
    (each-changed (λ n. HasLinks n) (memory_ops.take l (unwrap_or (latch_at s.latches p l) 0)) s.nodes p
    (λ n at here. taken-four l (unwrap_or (latch_at s.latches p l) 0) n here) four)

-- ---- the network

-- after power-up
powered-four : (powers : List PowerState) → Each (map powered_node powers)
unfolding Each
powered-four [] p node at = cc
powered-four (x ∷ powers) zero node at = let same : powered_node x ≡ node = cc in subst HasLinks same (refl, refl)
powered-four (x ∷ powers) (suc p) node at = powered-four powers p node at

pub reset-four : (powers : List PowerState) (bytes : List ℕ) → HaveLinks (reset_board powers bytes)
unfolding Each
reset-four powers bytes = powered-four powers

pub pick-four : (n : NetState) (pick : Pick) → HaveLinks n.board.state → HaveLinks (net_after pick n).board.state
pick-four n pick four = step-four n.board.network pick n.board.state four

pub behind-four : (picks : List Pick) (n : NetState) → HaveLinks n.board.state → HaveLinks (behind n picks).board.state
behind-four [] n four = four
behind-four (pick ∷ picks) n four = behind-four picks (net_after pick n) (pick-four n pick four)
