-- The board that each kind of pick leaves, as its methods make it: of the parts before, and of what was read and
-- written.
use Rattle.std.proofs.Common.{◌≡◌, ℕ, ◌+◌, ◌*◌, ◌<◌, ◌^◌, Bool, true, false, List, length, get_or, set, Option, Some, None, refl, sym}
use Rattle.std.proofs.Common.{ap, subst, ◌∙◌, arith}
use Rattle.std.specs.Prelude.{is_some, unwrap_or, slice_index_or}
use Rattle.std.proofs.lemmas.List.{get_or_default}
use Rattle.std.proofs.lemmas.Option.{same_Some}
use Rattle.tn_mem.specs.Spaces.{Access, IsSpace}
use Rattle.tn_net.specs.declared.networks.Far.{Far}
use Rattle.tn_net.specs.Networks.{NetworkState, far_at}
use Rattle.tn_node.specs.declared.modes.Made.{Made}
use Rattle.tn_node.specs.declared.modes.Made.TheVariants.{Whole}
use Rattle.tn_node.specs.Nodes.{NodeState, IsNode}
use Rattle.tn_network.specs.declared.picks.Pick.{Pick}
use Rattle.tn_network.specs.declared.picks.Pick.TheVariants.{HostSend, HostTake, Proc, Send, Take}
use Rattle.tn_network.specs.Hosts.{HostState, next_byte, other_bytes, kept_with}
use Rattle.tn_network.specs.Boards.{BoardState, WiredBoard, board_of, given, at_node, changed, latch_at}
use Rattle.tn_network.specs.NodeOps.{NodeOps, node_ops}
use Rattle.tn_network.specs.Steps.{offered, ready, step, after_pick, made_by_pick, latched, host_latched, nodes_acknowledged}
use Rattle.tn_network.specs.Steps.{host_acknowledged}
use Rattle.tn_network.specs.Wires.{IsBoard, MovesByte}
use Rattle.tn_network.specs.Inner.FarEnds.{EndsIn, Awaits}
use Rattle.tn_network.proofs.NodeLists.{changed_at}
use Rattle.tn_network.proofs.BoardSteps.{at_node-read, proc-within, send-offered, send-within, ends_in, take-link, take-within}
use Rattle.tn_network.proofs.BoardSteps.{take-wanted, taken-awaits_far, ready-inside, board-kept, board-after}

module _ {M : Type 0} (access : Access M) (laws : IsSpace access) (b : WiredBoard (NodeState M)) (network : NetworkState)
    (nodes : List (NodeState M)) (latches : List (Option ℕ)) (host : HostState)
    (is : record { network = network; state = board_of nodes latches host } ≡ b) where
  abbrev ops : NodeOps (NodeState M)
  ops = node_ops access

  abbrev here : BoardState (NodeState M)
  here = board_of nodes latches host

  abbrev Kept : BoardState (NodeState M) → Type 0
  Kept t = IsBoard ops (λ n. IsNode n) network t

  abbrev After : Pick → BoardState (NodeState M) → Type 0
  After pick t = record { network = network; state = t } ≡ after_pick ops pick b

  abbrev IsReady : Pick → Type 0
  IsReady pick = ready ops b.network b.state pick ≡ true

  inside : (pick : Pick) → IsReady pick → ready ops network here pick ≡ true
  inside pick r = ready-inside access laws b network here is pick r

  -- ---- the host sends

  module _ (root : ℕ × ℕ) (place byte : ℕ) (sent : HostState) (at : root ≡ (network.root, network.root_link))
      (stands : place ≡ 4 * root.0 + root.1) (next : next_byte host.left ≡ Some byte)
      (new : sent ≡ record host { left = other_bytes host.left; sent = true }) where
    host_send-state : board_of nodes (set latches place (Some byte)) sent ≡ step ops network HostSend here
    host_send-state = rw (stands, at, sym next, new) refl

    pub host_send-kept : Kept here → IsReady HostSend → byte < 2 ^ 8 → Kept (board_of nodes (set latches place (Some byte)) sent)
    host_send-kept kept r small =
        board-kept access laws b network here is HostSend _ kept r
        (λ x e. subst (λ (k : ℕ). k < 2 ^ 8) (same_Some byte x (sym next ∙ e)) small) host_send-state

    pub host_send-after : After HostSend (board_of nodes (set latches place (Some byte)) sent)
    host_send-after = board-after access laws b network here is HostSend _ host_send-state

  -- ---- the host takes

  module _ (root : ℕ × ℕ) (x y : NodeState M) (took : HostState) (at : root ≡ (network.root, network.root_link))
      (within : network.root < length nodes) (read : x ≡ slice_index_or nodes root.0 x) (is_y : y ≡ ops.acknowledge root.1 x)
      (new : took ≡ record host { latch = None; kept = kept_with host.latch host.kept }) where
    host_take-state : board_of (set nodes root.0 y) latches took ≡ step ops network HostTake here
    host_take-state =
        let first : root.0 ≡ network.root = ap (λ r. r.0) at in
        let second : root.1 ≡ network.root_link = ap (λ r. r.1) at in
        let few : root.0 < length nodes = subst (λ (k : ℕ). k < length nodes) (sym first) within in
        let one : set nodes root.0 y ≡ changed (ops.acknowledge root.1) nodes root.0 =
        changed_at (ops.acknowledge root.1) nodes root.0 x y few read is_y in
        rw (one, new, first, second) refl

    pub host_take-kept : Kept here → IsReady HostTake → Kept (board_of (set nodes root.0 y) latches took)
    host_take-kept kept r = board-kept access laws b network here is HostTake _ kept r tt host_take-state

    pub host_take-after : After HostTake (board_of (set nodes root.0 y) latches took)
    host_take-after = board-after access laws b network here is HostTake _ host_take-state

  -- ---- a processor steps

  module _ (p clock : ℕ) (slice : Bool) (x y : NodeState M) (r : IsReady (Proc p slice clock)) (read : x ≡ slice_index_or nodes p x)
      (is_y : y ≡ ops.run p slice clock x) where
    within : p < length nodes
    within = proc-within ops network here p clock slice (inside (Proc p slice clock) r)

    proc-state : board_of (set nodes p y) latches host ≡ step ops network (Proc p slice clock) here
    proc-state = ap (λ ns. board_of ns latches host) (changed_at (ops.run p slice clock) nodes p x y within read is_y)

    pub proc-kept : Kept here → Kept (board_of (set nodes p y) latches host)
    proc-kept kept = board-kept access laws b network here is (Proc p slice clock) _ kept r tt proc-state

    pub proc-after : After (Proc p slice clock) (board_of (set nodes p y) latches host)
    proc-after = board-after access laws b network here is (Proc p slice clock) _ proc-state

    pub proc-made : (made : Made) → made ≡ ops.made p slice clock x → made ≡ made_by_pick ops (Proc p slice clock) b.state
    proc-made made e =
        let read_made : at_node Whole (ops.made p slice clock) nodes p ≡ ops.made p slice clock x =
        at_node-read nodes p Whole (ops.made p slice clock) x within read in
        e ∙ sym read_made ∙ ap (λ (w : WiredBoard (NodeState M)). made_by_pick ops (Proc p slice clock) w.state) is

  -- ---- a processor sends

  pub send-ends : (p l : ℕ) (far : Far) → IsReady (Send p l) → far ≡ far_at network p l → Kept here → EndsIn (length latches) far
  send-ends p l far r wire kept =
      subst (λ (f : Far). EndsIn (length latches) f) (sym wire)
      (ends_in ops (λ n. IsNode n) network here p l kept (inside (Send p l) r))

  module _ (p l : ℕ) (far : Far) (out : Option ℕ) (byte : ℕ) (x y : NodeState M) (put : List (Option ℕ)) (got : HostState)
      (r : IsReady (Send p l)) (wire : far ≡ far_at network p l) (read : x ≡ slice_index_or nodes p x) (is_out : out ≡ ops.offers l x)
      (is_byte : byte ≡ unwrap_or out 0) (is_y : y ≡ ops.send l x) (is_put : put ≡ latched far (Some byte) latches)
      (is_got : got ≡ host_latched far (Some byte) host) where
    send-inside : p < length nodes
    send-inside = send-within ops network here p l (inside (Send p l) r)

    offers : out ≡ offered ops nodes p l
    offers = is_out ∙ sym (at_node-read nodes p None (ops.offers l) x send-inside read)

    sends : Some byte ≡ offered ops nodes p l
    sends = some out (ap is_some offers ∙ send-offered ops network here p l (inside (Send p l) r)) is_byte ∙ offers
      where
        some : (o : Option ℕ) → is_some o ≡ true → byte ≡ unwrap_or o 0 → Some byte ≡ o
        some None h e = cc
        some (Some v) h e = ap Some e

    send-state : board_of (set nodes p y) put got ≡ step ops network (Send p l) here
    send-state =
        let one : set nodes p y ≡ changed (ops.send l) nodes p = changed_at (ops.send l) nodes p x y send-inside read is_y in
        rw (one, is_put, is_got, wire, sends) refl

    pub send-kept : Kept here → byte < 2 ^ 8 → Kept (board_of (set nodes p y) put got)
    send-kept kept small =
        board-kept access laws b network here is (Send p l) _ kept r
        (λ v e. subst (λ (k : ℕ). k < 2 ^ 8) (same_Some byte v (sends ∙ e)) small) send-state

    pub send-after : After (Send p l) (board_of (set nodes p y) put got)
    send-after = board-after access laws b network here is (Send p l) _ send-state

  -- ---- a processor takes

  module _ (p l place : ℕ) (far : Far) (full : Option ℕ) (byte : ℕ) (x y : NodeState M) (told : List (NodeState M)) (got : HostState)
      (r : IsReady (Take p l)) (wire : far ≡ far_at network p l) (stands : place ≡ 4 * p + l)
      (is_full : full ≡ slice_index_or latches place full) (is_byte : byte ≡ unwrap_or full 0) (read : x ≡ slice_index_or nodes p x)
      (is_y : y ≡ ops.take l byte x) (is_told : told ≡ nodes_acknowledged ops far (set nodes p y))
      (is_got : got ≡ host_acknowledged far host) (kept : Kept here) where
    take-inside : p < length nodes
    take-inside = take-within ops network here p l (inside (Take p l) r)

    pub took : set nodes p y ≡ changed (ops.take l byte) nodes p
    took = changed_at (ops.take l byte) nodes p x y take-inside read is_y

    in_latch : full ≡ latch_at latches p l
    in_latch =
        let low : l < 4 = take-link ops network here p l (inside (Take p l) r) in
        let within : place < length latches = let here_within = take-inside in omega (arith, stands, kept.latches) in
        is_full ∙ get_or_default latches place full None within ∙ ap (λ k. slice_index_or latches k None) stands

    take-state : board_of told (set latches place None) got ≡ step ops network (Take p l) here
    take-state = rw (is_told, is_got, took, is_byte, in_latch, stands, wire) refl

    pub take-kept : Kept (board_of told (set latches place None) got)
    take-kept = board-kept access laws b network here is (Take p l) _ kept r tt take-state

    pub take-after : After (Take p l) (board_of told (set latches place None) got)
    take-after = board-after access laws b network here is (Take p l) _ take-state

  pub take-wants : (p l : ℕ) (x : NodeState M) → IsReady (Take p l) → x ≡ slice_index_or nodes p x → ops.wants l x ≡ true
  take-wants p l x r read =
      let within : p < length nodes = take-within ops network here p l (inside (Take p l) r) in
      sym (at_node-read nodes p false (ops.wants l) x within read) ∙ take-wanted ops network here p l (inside (Take p l) r)

  pub take-awaits : (p l byte : ℕ) (far : Far) (x y : NodeState M) → IsReady (Take p l) → far ≡ far_at network p l
      → x ≡ slice_index_or nodes p x → y ≡ ops.take l byte x → Kept here → Awaits ops (set nodes p y) far
  take-awaits p l byte far x y r wire read is_y kept =
      let within : p < length nodes = take-within ops network here p l (inside (Take p l) r) in
      let told = taken-awaits_far access network here p l kept (inside (Take p l) r) laws byte in
      let one : set nodes p y ≡ changed (ops.take l byte) nodes p = changed_at (ops.take l byte) nodes p x y within read is_y in
      rw (one, wire) told
