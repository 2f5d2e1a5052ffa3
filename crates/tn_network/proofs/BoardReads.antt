-- What the methods of a board find where they read it, and what they know of it before a pick.
use Rattle.std.proofs.Common.{◌≡◌, ℕ, ◌+◌, ◌*◌, ◌<◌, ◌≤◌, ◌^◌, Bool, true, false, List, length, Option, Some, None, refl, sym, ap, subst}
use Rattle.std.proofs.Common.{◌∙◌, arith}
use Rattle.std.specs.Prelude.{slice_get, slice_index_or, is_some, IsSome, ◌&&◌}
use Rattle.std.proofs.lemmas.List.{get_or_default}
use Rattle.std.proofs.lemmas.Option.{slice_get_past}
use Rattle.tn_mem.specs.Spaces.{Access, IsSpace}
use Rattle.tn_net.specs.declared.networks.Far.{Far}
use Rattle.tn_net.specs.declared.networks.Far.TheVariants.{Nothing, Host, Link}
use Rattle.tn_net.specs.Networks.{NetworkState, IsEnd, far_at}
use Rattle.tn_node.specs.declared.modes.Mode.{Mode}
use Rattle.tn_node.specs.declared.modes.Mode.TheVariants.{Reset, Poking, Peeking, Replying, Booting, Running, Idle, Stopped}
use Rattle.tn_node.specs.Nodes.{NodeState, IsNode}
use Rattle.tn_network.specs.declared.picks.Pick.{Pick}
use Rattle.tn_network.specs.declared.picks.Pick.TheVariants.{HostSend, HostTake, Proc, Send, Take}
use Rattle.tn_network.specs.Hosts.{HostState}
use Rattle.tn_network.specs.Boards.{BoardState, WiredBoard, board_of, given, at_node, latch_at}
use Rattle.tn_network.specs.NodeOps.{NodeOps, node_ops, is_running}
use Rattle.tn_network.specs.Steps.{offered, is_wired, ready}
use Rattle.tn_network.specs.Locality.{actor, other_end}
use Rattle.tn_network.specs.Wires.{IsBoard}
use Rattle.tn_network.specs.Inner.PickBits.{IsAmong}
use Rattle.tn_network.proofs.NodeLists.{slice_get-at}
use Rattle.tn_network.proofs.BoardSteps.{at_node-read, proc-runs, proc-within, send-link, send-offered, send-within, take-link, take-within}
use Rattle.tn_network.proofs.BoardSteps.{ready-inside}
use Rattle.tn_network.proofs.WireLaws.{both, has_byte}

true-and : (t x : Bool) → t ≡ true → x ≡ (t && x)
true-and t x e = ap (λ s. s && x) (sym e)

false-and : (t x : Bool) → t ≡ false → false ≡ (t && x)
false-and t x e = ap (λ s. s && x) (sym e)

some-is : (o : Option ℕ) → is_some o ≡ true → IsSome o
some-is None h = cc
some-is (Some x) h = refl

pub runs-mode : (m : Mode) → is_running m ≡ true → m ≡ Running
runs-mode Running h = refl
runs-mode Reset h = cc
runs-mode Poking h = cc
runs-mode Peeking h = cc
runs-mode Replying h = cc
runs-mode Booting h = cc
runs-mode Idle h = cc
runs-mode (Stopped why) h = cc

-- ---- reads

module _ {M : Type 0} (access : Access M) (b : WiredBoard (NodeState M)) (network : NetworkState) (nodes : List (NodeState M))
    (latches : List (Option ℕ)) (host : HostState) (is : record { network = network; state = board_of nodes latches host } ≡ b)
    (list : List (NodeState M)) (value : list ≡ nodes) where
  abbrev ops : NodeOps (NodeState M)
  ops = node_ops access

  abbrev Sends : WiredBoard (NodeState M) → ℕ → ℕ → Bool
  Sends w p l = is_some (offered ops w.state.nodes p l) && is_wired (far_at w.network p l)

  abbrev Takes : WiredBoard (NodeState M) → ℕ → ℕ → Bool
  Takes w p l = at_node false (ops.wants l) w.state.nodes p && is_some (latch_at w.state.latches p l)

  module _ (p : ℕ) (past : length list ≤ p) where
    gone : slice_get nodes p ≡ None
    gone = ap (λ ns. slice_get ns p) (sym value) ∙ slice_get_past list p past

    pub runs-none : false ≡ at_node false ops.runs b.state.nodes p
    runs-none =
        ap (λ o. given false ops.runs o) (sym gone) ∙ ap (λ (w : WiredBoard (NodeState M)). at_node false ops.runs w.state.nodes p) is

    pub sends-none : (l : ℕ) → false ≡ Sends b p l
    sends-none l =
        false-and (is_some (offered ops nodes p l)) (is_wired (far_at network p l)) (ap (λ o. is_some (given None (ops.offers l) o)) gone)
        ∙ ap (λ (w : WiredBoard (NodeState M)). Sends w p l) is

    pub takes-none : (l : ℕ) → false ≡ Takes b p l
    takes-none l =
        false-and (at_node false (ops.wants l) nodes p) (is_some (latch_at latches p l)) (ap (λ o. given false (ops.wants l) o) gone)
        ∙ ap (λ (w : WiredBoard (NodeState M)). Takes w p l) is

  module _ (p : ℕ) (x : NodeState M) (within : p < length list) (read : x ≡ slice_index_or list p x) where
    there : slice_get nodes p ≡ Some x
    there = ap (λ ns. slice_get ns p) (sym value) ∙ slice_get-at list p x within read

    pub inside_nodes : p < length nodes
    inside_nodes = subst (λ ns. p < length ns) value within

    pub runs-some : (runs : Bool) → runs ≡ ops.runs x → runs ≡ at_node false ops.runs b.state.nodes p
    runs-some runs e =
        e ∙ ap (λ o. given false ops.runs o) (sym there) ∙ ap (λ (w : WiredBoard (NodeState M)). at_node false ops.runs w.state.nodes p) is

    module _ (l : ℕ) (offers : Bool) (offers_is : offers ≡ is_some (ops.offers l x)) where
      offers-at : is_some (offered ops nodes p l) ≡ offers
      offers-at = ap (λ o. is_some (given None (ops.offers l) o)) there ∙ sym offers_is

      pub sends-then : (far : Far) (wired : Bool) → offers ≡ true → far ≡ far_at network p l → wired ≡ is_wired far → wired ≡ Sends b p l
      sends-then far wired met at e =
          e ∙ ap is_wired at ∙ true-and (is_some (offered ops nodes p l)) (is_wired (far_at network p l)) (offers-at ∙ met)
          ∙ ap (λ (w : WiredBoard (NodeState M)). Sends w p l) is

      pub sends-else : offers ≡ false → offers ≡ Sends b p l
      sends-else unmet =
          unmet ∙ false-and (is_some (offered ops nodes p l)) (is_wired (far_at network p l)) (offers-at ∙ unmet)
          ∙ ap (λ (w : WiredBoard (NodeState M)). Sends w p l) is

    module _ (l : ℕ) (wants : Bool) (wants_is : wants ≡ ops.wants l x) where
      wants-at : at_node false (ops.wants l) nodes p ≡ wants
      wants-at = ap (λ o. given false (ops.wants l) o) there ∙ sym wants_is

      pub takes-then : (place : ℕ) (full : Option ℕ) (some : Bool) → wants ≡ true → place < length latches → place ≡ 4 * p + l
          → full ≡ slice_index_or latches place full → some ≡ is_some full → some ≡ Takes b p l
      takes-then place full some met low stands is_full e =
          let latch : full ≡ latch_at latches p l =
          is_full ∙ get_or_default latches place full None low ∙ ap (λ k. slice_index_or latches k None) stands in
          e ∙ ap is_some latch ∙ true-and (at_node false (ops.wants l) nodes p) (is_some (latch_at latches p l)) (wants-at ∙ met)
          ∙ ap (λ (w : WiredBoard (NodeState M)). Takes w p l) is

      pub takes-else : wants ≡ false → wants ≡ Takes b p l
      takes-else unmet =
          unmet ∙ false-and (at_node false (ops.wants l) nodes p) (is_some (latch_at latches p l)) (wants-at ∙ unmet)
          ∙ ap (λ (w : WiredBoard (NodeState M)). Takes w p l) is

-- ---- what is known before a pick

pub ready-as : {N : Type 0} (ops : NodeOps N) (network : NetworkState) (s : BoardState N) (pick same : Pick) → pick ≡ same
    → ready ops network s pick ≡ true → ready ops network s same ≡ true
ready-as ops network s pick same at r = subst (λ (k : Pick). ready ops network s k ≡ true) at r

module _ {M : Type 0} (access : Access M) (laws : IsSpace access) (b : WiredBoard (NodeState M)) (network : NetworkState)
    (nodes : List (NodeState M)) (latches : List (Option ℕ)) (host : HostState)
    (is : record { network = network; state = board_of nodes latches host } ≡ b)
    (kept : IsBoard (node_ops access) (λ n. IsNode n) network (board_of nodes latches host)) where
  abbrev acts : NodeOps (NodeState M)
  acts = node_ops access

  abbrev here : BoardState (NodeState M)
  here = board_of nodes latches host

  pub end_of : (p l : ℕ) → p < length nodes → l < 4 → IsEnd network p l
  end_of p l within low = record { processor = subst (λ (n : ℕ). p < n) kept.nodes within; link = low }

  pub latch_within : (p l place : ℕ) → p < length nodes → l < 4 → place ≡ 4 * p + l → place < length latches
  latch_within p l place within low stands = omega (arith, stands, within, low, kept.latches)

  module _ (pick : Pick) (r : ready acts b.network b.state pick ≡ true) where
    inside : ready acts network here pick ≡ true
    inside = ready-inside access laws b network here is pick r

  pub host-sends : ready acts b.network b.state HostSend ≡ true → ready acts network here HostSend ≡ true
  host-sends r = inside HostSend r

  pub host-takes : ready acts b.network b.state HostTake ≡ true → ready acts network here HostTake ≡ true
  host-takes r = inside HostTake r

  pub send-node : (p l : ℕ) → ready acts b.network b.state (Send p l) ≡ true → p < length nodes
  send-node p l r = send-within acts network here p l (inside (Send p l) r)

  pub send-low : (p l : ℕ) → ready acts b.network b.state (Send p l) ≡ true → l < 4
  send-low p l r = send-link acts network here p l (inside (Send p l) r)

  pub send-some : (p l : ℕ) (x : NodeState M) → ready acts b.network b.state (Send p l) ≡ true → x ≡ slice_index_or nodes p x
      → IsSome (acts.offers l x)
  send-some p l x r read =
      some-is (acts.offers l x)
      (ap is_some (sym (at_node-read nodes p None (acts.offers l) x (send-node p l r) read))
      ∙ send-offered acts network here p l (inside (Send p l) r))

  pub take-node : (p l : ℕ) → ready acts b.network b.state (Take p l) ≡ true → p < length nodes
  take-node p l r = take-within acts network here p l (inside (Take p l) r)

  pub take-low : (p l : ℕ) → ready acts b.network b.state (Take p l) ≡ true → l < 4
  take-low p l r = take-link acts network here p l (inside (Take p l) r)

  pub run-node : (p clock : ℕ) (slice : Bool) → ready acts b.network b.state (Proc p slice clock) ≡ true → p < length nodes
  run-node p clock slice r = proc-within acts network here p clock slice (inside (Proc p slice clock) r)

  pub run-running : (p clock : ℕ) (slice : Bool) (x : NodeState M) → ready acts b.network b.state (Proc p slice clock) ≡ true
      → x ≡ slice_index_or nodes p x → acts.runs x ≡ true
  run-running p clock slice x r read =
      sym (at_node-read nodes p false acts.runs x (run-node p clock slice r) read)
      ∙ proc-runs acts network here p clock slice (inside (Proc p slice clock) r)

  -- ---- at the processor that the host is wired to

  module _ (root : ℕ × ℕ) (at : root ≡ (network.root, network.root_link)) where
    first : root.0 ≡ network.root
    first = ap (λ r. r.0) at

    second : root.1 ≡ network.root_link
    second = ap (λ r. r.1) at

    pub root-node : root.0 < length nodes
    root-node =
        subst (λ (n : ℕ). root.0 < n) (sym kept.nodes)
        (subst (λ (k : ℕ). k < length network.sizes) (sym first) kept.pairing.root.processor)

    pub root-word : root.0 < 2 ^ 64
    root-word =
        let few : length network.sizes ≤ 64 = kept.pairing.few in
        let within : root.0 < length nodes = root-node in omega (arith, within, few, kept.nodes)

    pub root-low : root.1 < 4
    root-low = subst (λ (k : ℕ). k < 4) (sym second) kept.pairing.root.link

    pub root-awaits : (x : NodeState M) → ready acts b.network b.state HostTake ≡ true → x ≡ slice_index_or nodes root.0 x
        → acts.awaits root.1 x ≡ true
    root-awaits x r read =
        let byte = has_byte host.latch (both (is_some host.latch) _ (inside HostTake r)).0 in
        let waits : at_node false (acts.awaits network.root_link) nodes network.root ≡ true = kept.host_waits byte.0 byte.1 in
        sym (at_node-read nodes root.0 false (acts.awaits root.1) x root-node read)
        ∙ ap (λ (e : ℕ × ℕ). at_node false (acts.awaits e.1) nodes e.0) at ∙ waits

  -- ---- the ends of the wire of a pick

  actor-within : (pick : Pick) → ready acts network here pick ≡ true → actor network pick < length nodes
  actor-within HostSend r = subst (λ (n : ℕ). network.root < n) (sym kept.nodes) kept.pairing.root.processor
  actor-within HostTake r = subst (λ (n : ℕ). network.root < n) (sym kept.nodes) kept.pairing.root.processor
  actor-within (Proc p slice clock) r = proc-within acts network here p clock slice r
  actor-within (Send p l) r = send-within acts network here p l r
  actor-within (Take p l) r = take-within acts network here p l r

  far-among : (p l : ℕ) → IsEnd network p l → IsAmong (length nodes) (far_at network p l)
  far-among p l end = go (far_at network p l) refl
    where
      go : (far : Far) → far_at network p l ≡ far → IsAmong (length nodes) far
      go Nothing at = tt
      go Host at = tt
      go (Link q m) at = subst (λ (n : ℕ). q < n) (sym kept.nodes) (kept.pairing.ends p l q m end at).processor

  end-among : (pick : Pick) → ready acts network here pick ≡ true → IsAmong (length nodes) (other_end network pick)
  end-among HostSend r = tt
  end-among HostTake r = tt
  end-among (Proc p slice clock) r = tt
  end-among (Send p l) r = far-among p l (end_of p l (send-within acts network here p l r) (send-link acts network here p l r))
  end-among (Take p l) r = far-among p l (end_of p l (take-within acts network here p l r) (take-link acts network here p l r))

  module _ (pick : Pick) (r : ready acts b.network b.state pick ≡ true) where
    pub ends-here : actor b.network pick < length b.state.nodes
    ends-here =
        subst (λ (w : WiredBoard (NodeState M)). actor w.network pick < length w.state.nodes) is (actor-within pick (inside pick r))

    pub ends-there : IsAmong (length b.state.nodes) (other_end b.network pick)
    ends-there =
        subst (λ (w : WiredBoard (NodeState M)). IsAmong (length w.state.nodes) (other_end w.network pick)) is
        (end-among pick (inside pick r))

  pub ends-value : (pick same : Pick) (p : ℕ) (far : Far) → pick ≡ same → p ≡ actor network same → far ≡ other_end network same
      → ◌≡◌ {A = ℕ × Far} (p, far) (actor b.network pick, other_end b.network pick)
  ends-value pick same p far at e f =
      ap (λ (k : ℕ). (k, far)) e ∙ ap (λ (g : Far). (actor network same, g)) f
      ∙ ap (λ (w : WiredBoard (NodeState M)). (actor w.network same, other_end w.network same)) is
      ∙ ap (λ (k : Pick). (actor b.network k, other_end b.network k)) (sym at)
