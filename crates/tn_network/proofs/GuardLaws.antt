-- Boards over copies of the memories, in each of which a region is guarded.
use Rattle.std.proofs.Common.{◌≡◌, ℕ, zero, suc, ◌+◌, ◌*◌, ◌<◌, ◌≤◌, List, [], ◌∷◌, ◌++◌, length, take, Option, Some, None, refl, sym, ap}
use Rattle.std.proofs.Common.{subst, ◌∙◌, arith, Bool, true, false}
use Rattle.std.specs.Prelude.{slice_get, slice_index_or, All}
use Rattle.tn_mem.specs.Memories.{plain_access}
use Rattle.tn_mem.specs.Guards.{Guarded, guarded}
use Rattle.tn_net.specs.declared.networks.Far.{Far}
use Rattle.tn_net.specs.declared.networks.Far.TheVariants.{Nothing, Host, Link}
use Rattle.tn_net.specs.Networks.{NetworkState, far_at}
use Rattle.tn_node.specs.Nodes.{NodeState, IsNode, IsQuiet}
use Rattle.tn_network.specs.Hosts.{HostState}
use Rattle.tn_network.specs.Boards.{BoardState, WiredBoard, board_of, at_node}
use Rattle.tn_network.specs.NodeOps.{node_ops}
use Rattle.tn_network.specs.GuardedBoards.{guarded_node, guarded_nodes, guarded_wired, AreQuiet}
use Rattle.tn_network.specs.Wires.{IsBoard, sender_waits}

-- ---- lists

-- the nodes with one more of each
more : (regions : List (ℕ × ℕ)) (nodes : List (NodeState (List ℕ))) (i : ℕ) (n : NodeState (List ℕ))
    → i < length regions → i < length nodes → n ≡ slice_index_or nodes i n
    → guarded_nodes (take (suc i) regions) (take (suc i) nodes)
    ≡ guarded_nodes (take i regions) (take i nodes) ++ guarded_node (slice_index_or regions i (0, 0)) n ∷ []
unfolding guarded_nodes
more [] nodes i n few some here = absurd (omega (arith, few))
more (x ∷ regions) [] i n few some here = absurd (omega (arith, some))
more (x ∷ regions) (y ∷ nodes) zero n few some here = ap (λ m. guarded_node x m ∷ []) (sym here)
more (x ∷ regions) (y ∷ nodes) (suc i) n few some here =
    ap (λ rest. guarded_node x y ∷ rest) (more regions nodes i n (omega (arith, few)) (omega (arith, some)) here)

pub guarded-more : (regions : List (ℕ × ℕ)) (nodes : List (NodeState (List ℕ))) (i : ℕ) (n : NodeState (List ℕ)) (copy : NodeState Guarded)
    (old new : List (NodeState Guarded)) → length regions ≡ length nodes → i < length nodes → n ≡ slice_index_or nodes i n
    → copy ≡ guarded_node (slice_index_or regions i (0, 0)) n → old ≡ guarded_nodes (take i regions) (take i nodes)
    → new ≡ old ++ copy ∷ [] → new ≡ guarded_nodes (take (i + 1) regions) (take (i + 1) nodes)
guarded-more regions nodes i n copy old new same some here made before pushed =
    let next : suc i ≡ i + 1 = omega arith in
    pushed ∙ ap (λ c. old ++ c ∷ []) made
    ∙ ap (λ o. o ++ guarded_node (slice_index_or regions i (0, 0)) n ∷ []) before
    ∙ sym (more regions nodes i n (omega (arith, same, some)) some here)
    ∙ ap (λ k. guarded_nodes (take k regions) (take k nodes)) next

pub guarded-none : (copies : List (NodeState Guarded)) → copies ≡ [] → copies ≡ guarded_nodes [] []
unfolding guarded_nodes
guarded-none copies is = is

pub quiet-at : (nodes : List (NodeState (List ℕ))) (i : ℕ) (n : NodeState (List ℕ)) → AreQuiet nodes → i < length nodes
    → n ≡ slice_index_or nodes i n → IsQuiet n
quiet-at nodes i n quiet some here = subst (λ (m : NodeState (List ℕ)). IsQuiet m) (sym here) (quiet i n some)

length-guarded : (regions : List (ℕ × ℕ)) (nodes : List (NodeState (List ℕ))) → length regions ≡ length nodes
    → length (guarded_nodes regions nodes) ≡ length nodes
unfolding guarded_nodes
length-guarded [] [] same = refl
length-guarded [] (n ∷ nodes) same = cc
length-guarded (r ∷ regions) [] same = refl
length-guarded (r ∷ regions) (n ∷ nodes) same = ap suc (length-guarded regions nodes (omega (arith, same)))

-- ---- what holds of every board

-- a guarded node is sound as the node itself
node-guarded : (r : ℕ × ℕ) (n : NodeState (List ℕ)) → IsNode n → IsNode (guarded_node r n)
node-guarded r n h = record {
  expected = h.expected;
  link = h.link;
  inputs = h.inputs;
  outputs = h.outputs;
  closed_inputs = h.closed_inputs;
  closed_outputs = h.closed_outputs;
}

nodes-guarded : (regions : List (ℕ × ℕ)) (nodes : List (NodeState (List ℕ)))
    → ((p : ℕ) (n : NodeState (List ℕ)) → slice_get nodes p ≡ Some n → IsNode n)
    → (p : ℕ) (n : NodeState Guarded) → slice_get (guarded_nodes regions nodes) p ≡ Some n → IsNode n
unfolding guarded_nodes
nodes-guarded [] nodes each p n at = cc
nodes-guarded (r ∷ regions) [] each p n at = cc
nodes-guarded (r ∷ regions) (x ∷ nodes) each zero n at =
    let e : guarded_node r x ≡ n = cc in
    subst (λ (m : NodeState Guarded). IsNode m) e (node-guarded r x (each 0 x refl))
nodes-guarded (r ∷ regions) (x ∷ nodes) each (suc p) n at = nodes-guarded regions nodes (λ q m. each (suc q) m) p n at

-- and waits as that does
waits-guarded : (regions : List (ℕ × ℕ)) (nodes : List (NodeState (List ℕ))) → length regions ≡ length nodes → (p l : ℕ)
    → at_node false ((node_ops guarded).awaits l) (guarded_nodes regions nodes) p ≡ at_node false ((node_ops plain_access).awaits l) nodes p
unfolding guarded_nodes
waits-guarded [] [] same p l = refl
waits-guarded [] (n ∷ nodes) same p l = cc
waits-guarded (r ∷ regions) [] same p l = cc
waits-guarded (r ∷ regions) (n ∷ nodes) same zero l = refl
waits-guarded (r ∷ regions) (n ∷ nodes) same (suc p) l = waits-guarded regions nodes (omega (arith, same)) p l

pub guarded-is : (network : NetworkState) (nodes : List (NodeState (List ℕ))) (latches : List (Option ℕ)) (host : HostState)
    (regions : List (ℕ × ℕ)) → length regions ≡ length nodes
    → IsBoard (node_ops plain_access) (λ n. IsNode n) network (board_of nodes latches host)
    → IsBoard (node_ops guarded) (λ n. IsNode n) network (board_of (guarded_nodes regions nodes) latches host)
guarded-is network nodes latches host regions same b = record {
  pairing = b.pairing;
  nodes = length-guarded regions nodes same ∙ b.nodes;
  latches = b.latches ∙ ap (λ k. 4 * k) (sym (length-guarded regions nodes same));
  kept = b.kept;
  bytes = b.bytes;
  sound = nodes-guarded regions nodes b.sound;
  waits = λ p l byte end full. far_waits (far_at network p l) (b.waits p l byte end full);
  host_waits = λ byte full. waits-guarded regions nodes same network.root network.root_link ∙ b.host_waits byte full;
}
  where
    far_waits : (far : Far) → sender_waits (node_ops plain_access) (board_of nodes latches host) far ≡ true
        → sender_waits (node_ops guarded) (board_of (guarded_nodes regions nodes) latches host) far ≡ true
    far_waits Nothing waits = waits
    far_waits Host waits = waits
    far_waits (Link q m) waits = waits-guarded regions nodes same q m ∙ waits

-- ---- the board that is made of copies

module _ (network : NetworkState) (nodes : List (NodeState (List ℕ))) (latches : List (Option ℕ)) (host : HostState)
    (b : WiredBoard (NodeState (List ℕ))) (is : record { network = network; state = board_of nodes latches host } ≡ b)
    (regions : List (ℕ × ℕ)) (w : NetworkState) (ns : List (NodeState Guarded)) (ls : List (Option ℕ)) (h : HostState)
    (same_wires : w ≡ network) (same_nodes : ns ≡ guarded_nodes regions nodes) (same_latches : ls ≡ latches) (same_host : h ≡ host) where
  pub guarded-made : length regions ≡ length b.state.nodes → IsBoard (node_ops plain_access) (λ n. IsNode n) network
      (board_of nodes latches host)
      → IsBoard (node_ops guarded) (λ n. IsNode n) w (board_of ns ls h)
  guarded-made many board =
      let count : length nodes ≡ length b.state.nodes = ap (λ (x : WiredBoard (NodeState (List ℕ))). length x.state.nodes) is in
      rw (same_wires, same_nodes, same_latches, same_host) (guarded-is network nodes latches host regions (many ∙ sym count) board)

  pub guarded-view : record { network = w; state = board_of ns ls h } ≡ guarded_wired regions b
  guarded-view =
      let made : WiredBoard (NodeState Guarded) = record { network = w; state = board_of ns ls h } in
      let old : WiredBoard (NodeState (List ℕ)) = record { network = network; state = board_of nodes latches host } in
      let here : made ≡ guarded_wired regions old = rw (same_wires, same_nodes, same_latches, same_host) refl in
      here ∙ ap (guarded_wired regions) is

  pub guarded-quiet : AreQuiet b.state.nodes → AreQuiet nodes
  guarded-quiet quiet = subst (λ (x : WiredBoard (NodeState (List ℕ))). AreQuiet x.state.nodes) (sym is) quiet
