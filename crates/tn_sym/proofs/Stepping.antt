-- Steps of the code that looks instructions up are those of the symbolic network.
use Rattle.std.proofs.Common.{◌≡◌, ◌≢◌, ◌⊎◌, inl, inr, ℕ, zero, suc, ◌+◌, ◌<◌, ◌≤◌, ◌==◌, Bool, true, false, List, [], ◌∷◌, length}
use Rattle.std.proofs.Common.{Option, Some, None, refl, sym, ap, subst, ◌∙◌, arith}
use Rattle.std.specs.Prelude.{slice_get, slice_index_or, find, nat_lt, nat_le, ◌^◌}
use Rattle.std.specs.Option.{option_or}
use Rattle.std.proofs.lemmas.Bool.{cases_lt}
use Rattle.std.proofs.lemmas.Bool.Decides.{nat_tests}
use Rattle.std.proofs.lemmas.List.{get_or_default}
use Rattle.std.proofs.lemmas.Option.{slice_get_within, get_or_from_slice_get, same_Some, slice_get-get_or}
use Rattle.tn_net.specs.declared.networks.Far.{Far}
use Rattle.tn_net.specs.declared.networks.Far.TheVariants.{Nothing, Host, Link}
use Rattle.tn_net.specs.Networks.{NetworkState}
use Rattle.tn_mem.specs.Guards.{Guarded, guarded}
use Rattle.tn_cpu.specs.declared.outcomes.Why.{Why}
use Rattle.tn_cpu.specs.declared.outcomes.Why.TheVariants.{Undefined, Outside, Code, Halted, BadOp, Stray}
use Rattle.tn_cpu.specs.Turns.{halted_for}
use Rattle.tn_node.specs.declared.modes.Mode.{Mode}
use Rattle.tn_node.specs.declared.modes.Mode.TheVariants as mode
use Rattle.tn_node.specs.declared.modes.Stage.{Stage}
use Rattle.tn_node.specs.Nodes.{NodeState, mode_at, mode_of}
use Rattle.tn_node.specs.Runs.{ended, node_item_step}
use Rattle.tn_network.specs.declared.picks.Pick.{Pick}
use Rattle.tn_network.specs.declared.picks.Pick.TheVariants.{HostSend, HostTake, Proc, Send, Take}
use Rattle.tn_network.specs.Boards.{BoardState, WiredBoard, given, changed}
use Rattle.tn_network.specs.NodeOps.{is_running, node_ops}
use Rattle.tn_network.specs.Items.{item_ops}
use Rattle.tn_network.specs.Steps.{ready, after_pick}
use Rattle.tn_network.specs.Locality.{actor, other_end}
use Rattle.tn_network.proofs.NodeLists.{slice_get-changed_same, at_node-met}
use Rattle.tn_network.proofs.NodeLaws.{runs-over}
use Rattle.tn_network.proofs.PickOrder.{find-place, find-none}
use Rattle.tn_network.proofs.WireLaws.{both}
use Rattle.tn_sym.specs.declared.codes.Instruction.{Instruction}
use Rattle.tn_sym.specs.Symbolic.{CodeState, code_at, instruction_at, turn, turn_of, symbolic_ops, stop_in, stop_at, stop_there, stop_by}
use Rattle.tn_sym.specs.Inner.Tables.{AreRising}
use Rattle.tn_sym.specs.Inner.Stops.{strayed_in, strayed, seen_by, seen, seen_board}

-- ---- one node of a list

pub changed-agree : {N : Type 0} (f g : N → N) (nodes : List N) (p : ℕ) → ((n : N) → slice_get nodes p ≡ Some n → f n ≡ g n)
    → changed f nodes p ≡ changed g nodes p
unfolding changed
changed-agree f g [] p same = refl
changed-agree {N} f g (n ∷ nodes) zero same = ap (λ (m : N). m ∷ nodes) (same n refl)
changed-agree {N} f g (n ∷ nodes) (suc p) same = ap (λ (ms : List N). n ∷ ms) (changed-agree f g nodes p same)

pub changed-none : {N : Type 0} (f : N → N) (nodes : List N) (p : ℕ) → ((n : N) → slice_get nodes p ≡ Some n → f n ≡ n)
    → changed f nodes p ≡ nodes
unfolding changed
changed-none f [] p same = refl
changed-none {N} f (n ∷ nodes) zero same = ap (λ (m : N). m ∷ nodes) (same n refl)
changed-none {N} f (n ∷ nodes) (suc p) same = ap (λ (ms : List N). n ∷ ms) (changed-none f nodes p same)

-- ---- what is seen of a board whose nodes tell the stop is the board

stopped-same : (p : ℕ) (q : ℕ) (why : Why) (m : Mode) (n : NodeState Guarded) → stop_in p m ≡ Some (q, why) → strayed_in m n ≡ n
stopped-same p q why (mode.Stopped other) n e = refl
stopped-same p q why mode.Reset n e = refl
stopped-same p q why mode.Poking n e = refl
stopped-same p q why mode.Peeking n e = refl
stopped-same p q why mode.Replying n e = refl
stopped-same p q why mode.Booting n e = refl
stopped-same p q why mode.Idle n e = refl
stopped-same p q why mode.Running n e = absurd (clash (q, why) e)
  where
    clash : (t : ℕ × Why) → None ≡ Some t → ⊥
    clash t e = cc

abbrev place_of : ℕ → Option (ℕ × Why) → ℕ
place_of d None = d
place_of d (Some t) = t.0

place-in : (p q : ℕ) (why : Why) (m : Mode) → stop_in p m ≡ Some (q, why) → p ≡ q
place-in p q why (mode.Stopped other) e = ap (λ (o : Option (ℕ × Why)). place_of p o) e
place-in p q why mode.Reset e = absurd cc
place-in p q why mode.Poking e = absurd cc
place-in p q why mode.Peeking e = absurd cc
place-in p q why mode.Replying e = absurd cc
place-in p q why mode.Booting e = absurd cc
place-in p q why mode.Idle e = absurd cc
place-in p q why mode.Running e = absurd cc

seen-told : (nodes : List (NodeState Guarded)) (p q : ℕ) (why : Why) → stop_at nodes p ≡ Some (q, why) → seen_by why q nodes ≡ nodes
seen-told nodes p q Undefined e = refl
seen-told nodes p q Outside e = refl
seen-told nodes p q Code e = refl
seen-told nodes p q Halted e = refl
seen-told nodes p q BadOp e = refl
seen-told nodes p q Stray e = by_node (slice_get nodes p) refl e
  where
    by_node : (o : Option (NodeState Guarded)) → slice_get nodes p ≡ o → given None (λ n. stop_in p (mode_of n)) o ≡ Some (q, Stray)
        → changed strayed nodes q ≡ nodes
    by_node None is e = absurd cc
    by_node (Some n) is e =
        let same : p ≡ q = place-in p q Stray (mode_of n) e in
        subst (λ (r : ℕ). changed strayed nodes r ≡ nodes) same
        (changed-none strayed nodes p (λ m at.
        let own : n ≡ m = same_Some n m (sym is ∙ at) in
        subst (λ (x : NodeState Guarded). strayed x ≡ x) own (stopped-same p q Stray (mode_of n) n e)))

pub seen-at : (nodes : List (NodeState Guarded)) (p : ℕ) (o : Option (ℕ × Why)) → stop_at nodes p ≡ o → seen o nodes ≡ nodes
seen-at nodes p None e = refl
seen-at nodes p (Some t) e = seen-told nodes p t.0 t.1 e

seen-there : (nodes : List (NodeState Guarded)) (far : Far) (o : Option (ℕ × Why)) → stop_there nodes far ≡ o → seen o nodes ≡ nodes
seen-there nodes Nothing o e = subst (λ (x : Option (ℕ × Why)). seen x nodes ≡ nodes) e refl
seen-there nodes Host o e = subst (λ (x : Option (ℕ × Why)). seen x nodes ≡ nodes) e refl
seen-there nodes (Link q m) o e = seen-at nodes q o e

pub seen-by : (network : NetworkState) (pick : Pick) (s : BoardState (NodeState Guarded)) → seen (stop_by network pick s) s.nodes ≡ s.nodes
seen-by network pick s = by_own (stop_at s.nodes (actor network pick)) refl
  where
    by_own : (o : Option (ℕ × Why)) → stop_at s.nodes (actor network pick) ≡ o
        → seen (option_or o (stop_there s.nodes (other_end network pick))) s.nodes ≡ s.nodes
    by_own None e = seen-there s.nodes (other_end network pick) _ refl
    by_own (Some t) e = seen-at s.nodes (actor network pick) (Some t) e

-- ---- picks of links and of the host

-- one of them
abbrev pub IsPassed : Pick → Type 0
IsPassed pick =
    (pick ≡ HostSend) ⊎ ((pick ≡ HostTake) ⊎ (((p l : ℕ) × (pick ≡ Send p l)) ⊎ ((p l : ℕ) × (pick ≡ Take p l))))

pub pass-same : (codes : List CodeState) (pick : Pick) (b : WiredBoard (NodeState Guarded)) → IsPassed pick
    → after_pick (node_ops guarded) pick b ≡ after_pick (symbolic_ops codes) pick b
pass-same codes pick b (inl e) =
    subst (λ (q : Pick). after_pick (node_ops guarded) q b ≡ after_pick (symbolic_ops codes) q b) (sym e) refl
pass-same codes pick b (inr (inl e)) =
    subst (λ (q : Pick). after_pick (node_ops guarded) q b ≡ after_pick (symbolic_ops codes) q b) (sym e) refl
pass-same codes pick b (inr (inr (inl h))) =
    subst (λ (q : Pick). after_pick (node_ops guarded) q b ≡ after_pick (symbolic_ops codes) q b) (sym h.2) refl
pass-same codes pick b (inr (inr (inr h))) =
    subst (λ (q : Pick). after_pick (node_ops guarded) q b ≡ after_pick (symbolic_ops codes) q b) (sym h.2) refl

-- where its nodes tell the stop, what is seen of a board is the board
pub seen-board : (network : NetworkState) (pick : Pick) (b : WiredBoard (NodeState Guarded)) (o : Option (ℕ × Why))
    → o ≡ stop_by network pick b.state → seen_board o b ≡ b
seen-board network pick b o e =
    ap (λ (nodes : List (NodeState Guarded)). record b { state = record b.state { nodes = nodes } })
    (subst (λ (x : Option (ℕ × Why)). seen x b.state.nodes ≡ b.state.nodes) (sym e) (seen-by network pick b.state))

-- ---- steps of a processor

or_none : (o : Option (ℕ × Why)) → option_or o None ≡ o
or_none None = refl
or_none (Some t) = refl

running : (m : Mode) → is_running m ≡ true → m ≡ mode.Running
running mode.Running e = refl
running mode.Reset e = cc
running mode.Poking e = cc
running mode.Peeking e = cc
running mode.Replying e = cc
running mode.Booting e = cc
running mode.Idle e = cc
running (mode.Stopped why) e = cc

module _ (b : WiredBoard (NodeState Guarded)) (codes : List CodeState) (p clock : ℕ) (slice : Bool) (node : NodeState Guarded)
    (code : CodeState) (at : slice_get b.state.nodes p ≡ Some node) (is : code_at codes p ≡ code) where
  abbrev after : WiredBoard (NodeState Guarded)
  after = after_pick (symbolic_ops codes) (Proc p slice clock) b

  -- the stop of one is that of the node
  pub stop-proc : (nodes : List (NodeState Guarded)) → nodes ≡ after.state.nodes
      → stop_at nodes p ≡ stop_by b.network (Proc p slice clock) after.state
  stop-proc nodes same =
      ap (λ (ns : List (NodeState Guarded)). stop_at ns p) same ∙ sym (or_none (stop_at after.state.nodes p))

  -- one at which an instruction is found
  pub item-same : (i : Instruction) → instruction_at code node.cpu.iptr ≡ Some i
      → after_pick (item_ops guarded i.fun i.operand (i.address + i.size)) (Proc p slice clock) b ≡ after
  item-same i found =
      ap (λ (nodes : List (NodeState Guarded)). record b { state = record b.state { nodes = nodes } })
      (changed-agree (λ n. ended (node_item_step guarded i.fun i.operand (i.address + i.size) slice clock n) n)
      (λ n. ended (turn_of codes p slice clock n) n) b.state.nodes p (λ n here.
      let own : node ≡ n = same_Some node n (sym at ∙ here) in
      let there : instruction_at (code_at codes p) n.cpu.iptr ≡ Some i =
      ap (λ (c : CodeState). instruction_at c n.cpu.iptr) is
      ∙ (ap (λ (m : NodeState Guarded). instruction_at code m.cpu.iptr) (sym own) ∙ found) in
      ap (λ (o : Option Instruction). ended (turn o slice clock n) n) (sym there)))

  -- one at which none is
  module _ (found : instruction_at code node.cpu.iptr ≡ None)
      (enabled : ready (node_ops guarded) b.network b.state (Proc p slice clock) ≡ true) where
    runs : is_running (mode_of node) ≡ true
    runs =
        let met = at_node-met (λ n. is_running (mode_of n)) b.state.nodes p (both (nat_lt clock (2 ^ 32)) _ enabled).1 in
        subst (λ (n : NodeState Guarded). is_running (mode_of n) ≡ true) (same_Some met.0 node (sym met.1 ∙ at)) met.2

    halted : NodeState Guarded
    halted = record node { cpu = halted_for Stray node.cpu }

    step-halted : ended (turn_of codes p slice clock node) node ≡ halted
    unfolding halted
    step-halted =
        let there : instruction_at (code_at codes p) node.cpu.iptr ≡ None =
        ap (λ (c : CodeState). instruction_at c node.cpu.iptr) is ∙ found in
        ap (λ (o : Option Instruction). ended (turn o slice clock node) node) there

    strayed-halted : strayed node ≡ halted
    unfolding halted
    strayed-halted = ap (λ (m : Mode). strayed_in m node) (running (mode_of node) runs)

    pub stray-board : seen_board (Some (p, Stray)) b ≡ after
    stray-board =
        ap (λ (nodes : List (NodeState Guarded)). record b { state = record b.state { nodes = nodes } })
        (changed-agree strayed (λ n. ended (turn_of codes p slice clock n) n) b.state.nodes p (λ n here.
        subst (λ (m : NodeState Guarded). strayed m ≡ ended (turn_of codes p slice clock m) m) (same_Some node n (sym at ∙ here))
        (strayed-halted ∙ sym step-halted)))

    stop-halted : stop_in p (mode_of halted) ≡ Some (p, Stray)
    unfolding halted
    stop-halted = ap (λ (stage : Stage). stop_in p (mode_at stage
        (Rattle.tn_cpu.specs.declared.outcomes.Life.TheVariants.Stopped Stray))) (runs-over node runs)

    pub stray-stop : stop_by b.network (Proc p slice clock) after.state ≡ Some (p, Stray)
    stray-stop =
        or_none (stop_at after.state.nodes p)
        ∙ (ap (given None (λ n. stop_in p (mode_of n)))
        (slice_get-changed_same (λ n. ended (turn_of codes p slice clock n) n) b.state.nodes p node at)
        ∙ (ap (λ (n : NodeState Guarded). stop_in p (mode_of n)) step-halted ∙ stop-halted))

-- a code that was read is at its place
pub code-read : (codes : List CodeState) (p : ℕ) (x : CodeState) → p < length codes → x ≡ slice_index_or codes p x → code_at codes p ≡ x
code-read codes p x within read = get_or_default codes p _ x within ∙ sym read

-- ---- searching

module _ (instructions : List Instruction) (rising : AreRising instructions) (address : ℕ) where
  abbrev Passes : Instruction → Bool
  Passes i = i.address == address

  differs : (a b : ℕ) → a ≢ b → (a == b) ≡ false
  differs a b not = grind (arith, nat_tests)

  passes : (a : ℕ) → a ≡ address → (a == address) ≡ true
  passes a e = grind (arith, nat_tests)

  read : (j : ℕ) (y d : Instruction) → slice_get instructions j ≡ Some y → slice_index_or instructions j d ≡ y
  read j y d is = get_or_from_slice_get instructions j y d is

  apart : (j : ℕ) (y : Instruction) → slice_get instructions j ≡ Some y
      → ((d : Instruction) → (slice_index_or instructions j d).address ≢ address) → Passes y ≡ false
  apart j y is not = differs y.address address (subst (λ (x : Instruction). x.address ≢ address) (read j y y is) (not y))

  above-not : (a : ℕ) → nat_le a address ≡ false → a ≢ address
  above-not a e same = grind (arith, nat_tests)

  -- where all are above the address
  pub search-above : ((j : ℕ) (d : Instruction) → j < length instructions → nat_le (slice_index_or instructions j d).address address ≡
      false)
      → None ≡ find Passes instructions
  search-above above =
      sym (find-none Passes instructions (λ j y is. apart j y is (λ d. above-not _ (above j d (slice_get_within instructions j y is)))))

  -- where the last one that is not above it begins there
  pub search-found : (k : ℕ) (d : Instruction) → k < length instructions → (slice_index_or instructions k d).address ≡ address
      → Some (slice_index_or instructions k d) ≡ find Passes instructions
  search-found k d within met =
      sym (find-place Passes instructions k (slice_index_or instructions k d) (slice_get-get_or instructions k d within) (passes _ met)
      (λ j y low is.
      apart j y is (λ e same.
      let rises = rising j k e low within in
      let one : (slice_index_or instructions k e).address ≡ (slice_index_or instructions k d).address =
      ap (λ (x : Instruction). x.address) (read k (slice_index_or instructions k d) e (slice_get-get_or instructions k d within)) in
      omega (arith, rises, one, met, same))))

  -- where it does not
  pub search-missed : (k : ℕ) (d : Instruction) → k < length instructions → (slice_index_or instructions k d).address ≢ address
      → nat_le (slice_index_or instructions k d).address address ≡ true
      → ((j : ℕ) (e : Instruction) → k < j → j < length instructions → nat_le (slice_index_or instructions j e).address address ≡ false)
      → None ≡ find Passes instructions
  search-missed k d within other below above =
      sym (find-none Passes instructions (λ j y is.
      apart j y is (λ e. elim (cases_lt k j) [
        | inl behind ↦ above-not _ (above j e behind (slice_get_within instructions j y is))
        | inr upto ↦ not_above j e upto
      ])))
    where
      last : (e : Instruction) → (slice_index_or instructions k e).address ≡ (slice_index_or instructions k d).address
      last e = ap (λ (x : Instruction). x.address) (read k (slice_index_or instructions k d) e (slice_get-get_or instructions k d within))

      lower : (a : ℕ) → nat_le a address ≡ true → a ≢ address → a < address
      lower a e f = elim (cases_lt a address) [
        | inl less ↦ less
        | inr most ↦ absurd (f (let upto : a ≤ address = grind (arith, nat_tests) in omega (arith, upto, most)))
      ]

      less : (slice_index_or instructions k d).address < address
      less = lower _ below other

      not_above : (j : ℕ) (e : Instruction) → j ≤ k → (slice_index_or instructions j e).address ≢ address
      not_above j e upto same = elim (cases_lt j k) [
        | inl before ↦ absurd (omega (arith, rising j k e before within, last e, less, same))
        | inr from ↦
            let here : j ≡ k = omega (arith, upto, from) in
            let same_k : (slice_index_or instructions k e).address ≡ address =
            subst (λ (r : ℕ). (slice_index_or instructions r e).address ≡ address) here same in
            absurd (omega (arith, last e, less, same_k))
      ]

-- addresses that rise do not fall
pub rising-leb : (instructions : List Instruction) → AreRising instructions → (i j : ℕ) (d : Instruction) → i ≤ j → j < length instructions
    → (slice_index_or instructions i d).address ≤ (slice_index_or instructions j d).address
rising-leb instructions rising i j d low within = elim (cases_lt i j) [
  | inl before ↦ omega (arith, rising i j d before within)
  | inr from ↦ let same : i ≡ j = omega (arith, low, from) in rw same (omega arith)
]
