-- The loaded network runs as its symbolic programs do.
use Rattle.std.proofs.Common.{◌≡◌, ◌⊎◌, inl, inr, ℕ, ◌+◌, ◌^◌, ◌<◌, ℤ, Bool, true, false, List, [], ◌∷◌, length, Option, Some, None}
use Rattle.std.proofs.Common.{refl, sym, ap, subst, ◌∙◌, arith}
use Rattle.std.specs.Prelude.{not, ◌&&◌, is_some, IsSome, slice_get}
use Rattle.std.specs.Option.{option_map, option_or}
use Rattle.std.proofs.lemmas.Option.{slice_get_within}
use Rattle.tn_isa.specs.declared.functions.Fun.{Fun}
use Rattle.tn_mem.specs.Guards.{Guarded, guarded}
use Rattle.tn_prefix.specs.Coding.{coding}
use Rattle.tn_prefix.specs.Operand.{word_of}
use Rattle.tn_cpu.specs.declared.outcomes.Why.{Why}
use Rattle.tn_cpu.specs.declared.outcomes.Life.{Life}
use Rattle.tn_cpu.specs.declared.outcomes.Life.TheVariants.{Running, Idle, Stopped}
use Rattle.tn_cpu.specs.States.{wrap}
use Rattle.tn_cpu.specs.Turns.{Ended}
use Rattle.tn_cpu.specs.Effects.{effect}
use Rattle.tn_net.specs.declared.networks.Far.{Far}
use Rattle.tn_net.specs.declared.networks.Far.TheVariants.{Nothing, Host, Link}
use Rattle.tn_net.specs.Networks.{NetworkState}
use Rattle.tn_node.specs.declared.modes.Stage.{Stage}
use Rattle.tn_node.specs.declared.modes.Stage.TheVariants.{Over}
use Rattle.tn_node.specs.Nodes.{NodeState, mode_at, mode_of}
use Rattle.tn_node.specs.Runs.{busy, ended, made_by, node_item_step}
use Rattle.tn_network.specs.declared.picks.Pick.{Pick}
use Rattle.tn_network.specs.declared.picks.Pick.TheVariants.{HostSend, HostTake, Proc, Send, Take}
use Rattle.tn_network.specs.Boards.{BoardState, given}
use Rattle.tn_network.specs.Steps.{ready, step}
use Rattle.tn_network.specs.Locality.{actor, other_end}
use Rattle.tn_network.specs.Nets.{NetState, memory_ops, net_enabled, net_after}
use Rattle.tn_sym.specs.Inner.Items.{item_step}
use Rattle.tn_sym.specs.Inner.Beside.{StandsBy, HasStopped}
use Rattle.tn_sym.specs.Inner.Wholes.{Coded, SameNodes, TakesWhole}
use Rattle.tn_sym.specs.Inner.NetsBeside.{AreBeside, IsBeside, NodesFollow, IsAt, IsThere, IsOneOver}
use Rattle.tn_sym.proofs.NetsBeside.{ready-same, step-same, step-left}
use Rattle.tn_sym.proofs.Wholes.{nodes-follow}
use Rattle.tn_sym.specs.Symbolic.{CodeState, SymbolicState, code_at, instruction_at, turn, turn_of, symbolic_ops, stop_in, stop_at}
use Rattle.tn_sym.specs.Symbolic.{stop_there, stop_by, symbolic_enabled, symbolic_after}
use Rattle.tn_sym.specs.Same.{Same}
use Rattle.tn_sym.specs.Follows.{Runs, is_dropped, kept, Stops, AreBeside as AreBehind}
use Rattle.tn_sym.proofs.Elements.{made}
use Rattle.tn_sym.proofs.Lists.{there}
use Rattle.tn_sym.proofs.Sameness.{IsCoded, same-boards}

-- ---- whole items as instructions

-- the instructions at addresses are the items there, whose ends are words
pub record Agrees (code : CodeState) (c : Coded) : Type 0 where
  pub items : (a : ℕ) → instruction_at code a ≡ option_map (made a) (c.items a)
  pub high : c.to < 2 ^ 32

turn-item : (code : CodeState) (c : Coded) → Agrees code c → (slice : Bool) (clock : ℕ) (v : NodeState Guarded)
    → turn (instruction_at code v.cpu.iptr) slice clock v ≡ item_step (c.items v.cpu.iptr) (busy v) slice clock v.cpu
unfolding node_item_step
turn-item code c agrees slice clock v = ap (λ i. turn i slice clock v) (agrees.items v.cpu.iptr) ∙ by_item (c.items v.cpu.iptr) refl
  where
    by_item : (item : Option (Fun × ℤ)) → c.items v.cpu.iptr ≡ item
        → turn (option_map (made v.cpu.iptr) item) slice clock v ≡ item_step item (busy v) slice clock v.cpu
    by_item None is = refl
    by_item (Some item) is =
        let there = (c.are v.cpu.iptr item.0 item.1 is).high in
        let plain : v.cpu.iptr + length (coding item.0 item.1) ≡ wrap (v.cpu.iptr + length (coding item.0 item.1)) =
        omega (arith, there, agrees.high) in
        ap (λ (following : ℕ). effect guarded item.0 (word_of item.1)
        (record { following = following; busy = busy v; slice = slice; clock = clock }) v.cpu) plain

module _ (coded : ℕ → Coded) (codes : List CodeState) (agree : (p : ℕ) → Agrees (code_at codes p) (coded p)) where
  takes-whole : TakesWhole coded (λ p slice clock v. ended (turn_of codes p slice clock v) v)
  takes-whole = record {
    is = λ p clock slice v. ap (λ (e : Ended Guarded). ended e v) (turn-item (code_at codes p) (coded p) (agree p) slice clock v);
  }

  symbolic-follow : NodesFollow memory_ops (symbolic_ops codes) (SameNodes coded) (λ v. HasStopped v)
  symbolic-follow =
      nodes-follow coded (λ p slice clock v. ended (turn_of codes p slice clock v) v)
      (λ p slice clock v. made_by (turn_of codes p slice clock v).outcome) takes-whole

-- ---- stops

stopped-in : (p : ℕ) (v : NodeState Guarded) → HasStopped v → (why : Why) × (stop_in p (mode_of v) ≡ Some (p, why))
stopped-in p v h = (
  h.why,
  ap (λ (stage : Stage). stop_in p (mode_at stage v.cpu.life)) h.over ∙ ap (λ (life : Life). stop_in p (mode_at Over life))
      h.life,
)

some-at : (nodes : List (NodeState Guarded)) (p : ℕ) → IsAt (λ v. HasStopped v) nodes p → IsSome (stop_at nodes p)
some-at nodes p h =
    let stop = stopped-in p h.0 h.2 in
    ap is_some (ap (given None (λ n. stop_in p (mode_of n))) h.1 ∙ stop.1)

some-there : (nodes : List (NodeState Guarded)) (far : Far) → IsThere (λ v. HasStopped v) nodes far → IsSome (stop_there nodes far)
some-there nodes Nothing h = absurd h
some-there nodes Host h = absurd h
some-there nodes (Link q m) h = some-at nodes q h

first-some : {X : Type 0} (one other : Option X) → IsSome one → IsSome (option_or one other)
first-some None other h = cc
first-some (Some x) other h = refl

second-some : {X : Type 0} (one other : Option X) → IsSome other → IsSome (option_or one other)
second-some None other h = h
second-some (Some x) other h = refl

stops-here : (network : NetworkState) (pick : Pick) (s : BoardState (NodeState Guarded)) → IsOneOver (λ v. HasStopped v) network pick s
    → IsSome (stop_by network pick s)
stops-here network pick s (inl own) =
    first-some (stop_at s.nodes (actor network pick)) (stop_there s.nodes (other_end network pick))
    (some-at s.nodes (actor network pick) own)
stops-here network pick s (inr other) =
    second-some (stop_at s.nodes (actor network pick)) (stop_there s.nodes (other_end network pick))
    (some-there s.nodes (other_end network pick) other)

-- a node beside one over bytes has not stopped
module _ (coded : ℕ → Coded) (ns : List (NodeState (List ℕ))) (vs : List (NodeState Guarded)) (b : AreBeside (SameNodes coded) ns vs) where
  going : (p q : ℕ) (n : NodeState (List ℕ)) (v : NodeState Guarded) → SameNodes coded q n v → stop_in p (mode_of v) ≡ None
  going p q n v h =
      ap (λ (stage : Stage). stop_in p (mode_at stage v.cpu.life)) h.same.over
      ∙ by_life v.cpu.life ((coded q).items v.cpu.iptr) h.same.cpu.stands
    where
      by_life : (life : Life) (item : Option (Fun × ℤ)) → StandsBy life item h.cpu h.same.cpu.memory v.cpu
          → stop_in p (mode_at Over life) ≡ None
      by_life Running item e = refl
      by_life Idle item e = refl
      by_life (Stopped why) item e = absurd e

  none-at : (p : ℕ) → stop_at vs p ≡ None
  none-at p = by_node (slice_get vs p) refl
    where
      by_node : (o : Option (NodeState Guarded)) → slice_get vs p ≡ o → given None (λ n. stop_in p (mode_of n)) o ≡ None
      by_node None is = refl
      by_node (Some v) is =
          let other = there ns p (omega (arith, b.count, slice_get_within vs p v is)) in
          going p p other.0 v (b.each p other.0 v other.1 is)

  none-there : (far : Far) → stop_there vs far ≡ None
  none-there Nothing = refl
  none-there Host = refl
  none-there (Link q m) = none-at q

  goes-on : (network : NetworkState) (pick : Pick) (s : BoardState (NodeState Guarded)) → s.nodes ≡ vs
      → stop_by network pick s ≡ None
  goes-on network pick s is =
      ap (λ (nodes : List (NodeState Guarded)). option_or (stop_at nodes (actor network pick))
      (stop_there nodes (other_end network pick))) is
      ∙ (ap (λ (o : Option (ℕ × Why)). option_or o (stop_there vs (other_end network pick))) (none-at (actor network pick))
      ∙ none-there (other_end network pick))

-- ---- holds that are lifted

free : (n : NetState) (pick : Pick) → n.holds.held ≡ false → net_enabled n pick ≡ ready memory_ops n.board.network n.board.state pick
free n HostSend lifted = refl
free n HostTake lifted = refl
free n (Proc p slice clock) lifted = by_held n.holds.held lifted (ready memory_ops n.board.network n.board.state (Proc p slice clock)) _
  where
    by_held : (held : Bool) → held ≡ false → (is_ready stands : Bool) → (is_ready && not (held && stands)) ≡ is_ready
    by_held true e is_ready stands = cc
    by_held false e true stands = refl
    by_held false e false stands = refl
free n (Send p l) lifted = refl
free n (Take p l) lifted = refl

-- ---- runs

module _ (coded : ℕ → Coded) (codes : List CodeState) (agree : (p : ℕ) → Agrees (code_at codes p) (coded p))
    (are : (p : ℕ) (code : CodeState) → slice_get codes p ≡ Some code → IsCoded code (coded p)) where
  -- a released network beside a symbolic one that has not stopped
  pub record IsAlong (n : NetState) (s : SymbolicState) : Type 0 where
    pub lifted : n.holds.held ≡ false
    pub going : s.stop ≡ None
    pub codes_are : s.codes ≡ codes
    pub wires : s.board.network ≡ n.board.network
    pub boards : IsBeside (SameNodes coded) n.board.state s.board.state

  same-enabled : (n : NetState) (s : SymbolicState) → IsAlong n s → (pick : Pick) → net_enabled n pick ≡ symbolic_enabled s pick
  same-enabled n s h pick =
      free n pick h.lifted
      ∙ (ready-same memory_ops (symbolic_ops codes) (SameNodes coded) (λ v. HasStopped v) (symbolic-follow coded codes agree)
      n.board.network n.board.state s.board.state h.boards pick
      ∙ sym
      (ap (λ (stop : Option (ℕ × Why)). not (is_some stop) && ready (symbolic_ops s.codes) s.board.network s.board.state pick) h.going
      ∙ (ap (λ (cs : List CodeState). ready (symbolic_ops cs) s.board.network s.board.state pick) h.codes_are
      ∙ ap (λ (network : NetworkState). ready (symbolic_ops codes) network s.board.state pick) h.wires)))

  -- beside each other they are the same
  pub same-along : (n : NetState) (s : SymbolicState) → IsAlong n s → Same n.board.state s
  same-along n s h =
      same-boards coded n.board.state s (λ p code is. are p code (ap (λ (cs : List CodeState). slice_get cs p) (sym h.codes_are) ∙ is))
      h.boards

  -- a pick that is dropped
  drops : (n : NetState) (s : SymbolicState) → IsAlong n s → (pick : Pick) → net_enabled n pick ≡ true → is_dropped n pick ≡ true
      → IsAlong (net_after pick n) s
  drops n s h pick e d = record {
    lifted = h.lifted;
    going = h.going;
    codes_are = h.codes_are;
    wires = h.wires;
    boards = step-left memory_ops (symbolic_ops codes) (SameNodes coded) (λ v. HasStopped v) (symbolic-follow coded codes agree)
        n.board.network n.board.state s.board.state h.boards pick (sym (free n pick h.lifted) ∙ e) d;
  }

  -- one that is made in both
  makes : (n : NetState) (s : SymbolicState) → IsAlong n s → (pick : Pick) → net_enabled n pick ≡ true → is_dropped n pick ≡ false
      → IsSome (symbolic_after pick s).stop ⊎ IsAlong (net_after pick n) (symbolic_after pick s)
  makes n s h pick e d =
      let after : BoardState (NodeState Guarded) = step (symbolic_ops codes) n.board.network pick s.board.state in
      let same : step (symbolic_ops s.codes) s.board.network pick s.board.state ≡ after =
      ap (λ (cs : List CodeState). step (symbolic_ops cs) s.board.network pick s.board.state) h.codes_are
      ∙ ap (λ (network : NetworkState). step (symbolic_ops codes) network pick s.board.state) h.wires in
      let stop : stop_by s.board.network pick (step (symbolic_ops s.codes) s.board.network pick s.board.state) ≡ stop_by n.board.network
      pick
      after = ap (λ (board : BoardState (NodeState Guarded)). stop_by s.board.network pick board) same
      ∙ ap (λ (network : NetworkState). stop_by network pick after) h.wires in
      elim (step-same memory_ops (symbolic_ops codes) (SameNodes coded) (λ v. HasStopped v) (symbolic-follow coded codes agree)
      n.board.network n.board.state s.board.state h.boards pick (sym (free n pick h.lifted) ∙ e) d) [
        | inl over ↦ inl (ap is_some stop ∙ stops-here n.board.network pick after over)
        | inr beside ↦ inr (record {
          lifted = h.lifted;
          going = stop
              ∙ goes-on coded (step memory_ops n.board.network pick n.board.state).nodes after.nodes beside.nodes n.board.network pick
              after refl;
          codes_are = h.codes_are;
          wires = h.wires;
          boards = subst (λ (board : BoardState (NodeState Guarded)). IsBeside (SameNodes coded) (net_after pick n).board.state board)
              (sym same) beside;
        })
      ]

  stops-now : (s : SymbolicState) (picks : List Pick) → IsSome s.stop → Stops s picks
  stops-now s [] h = h
  stops-now s (pick ∷ picks) h = inl h

  -- the claim, behind some picks
  abbrev Claim : NetState → SymbolicState → List Pick → Type 0
  Claim n s picks = Stops s (kept n picks) ⊎ AreBehind n s picks

  pub along-follows : (picks : List Pick) (n : NetState) (s : SymbolicState) → IsAlong n s → Runs n picks → Claim n s picks
  along-follows [] n s h runs = inr (record { made = tt; same = same-along n s h; enabled = same-enabled n s h })
  along-follows (pick ∷ picks) n s h runs = by_drop (is_dropped n pick) refl (along-follows picks)
    where
      by_drop : (dropped : Bool) → is_dropped n pick ≡ dropped
          → ((m : NetState) (t : SymbolicState) → IsAlong m t → Runs m picks → Claim m t picks) → Claim n s (pick ∷ picks)
      by_drop true is again =
          elim (again (net_after pick n) s (drops n s h pick runs.0 is) runs.1) [
            | inl stop ↦ inl (rw is stop)
            | inr b ↦ inr (record { made = rw is b.made; same = rw is b.same; enabled = rw is b.enabled })
          ]
      by_drop false is again =
          let symbolic : symbolic_enabled s pick ≡ true = sym (same-enabled n s h pick) ∙ runs.0 in
          elim (makes n s h pick runs.0 is) [
            | inl stop ↦ inl (rw is (inr (symbolic, stops-now (symbolic_after pick s) (kept (net_after pick n) picks) stop)))
            | inr along ↦ elim (again (net_after pick n) (symbolic_after pick s) along runs.1) [
              | inl stop ↦ inl (rw is (inr (symbolic, stop)))
              | inr b ↦ inr (record { made = rw is (symbolic, b.made); same = rw is b.same; enabled = rw is b.enabled })
            ]
          ]
