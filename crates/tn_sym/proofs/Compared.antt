-- The comparison of a network with a symbolic one.
use Rattle.std.proofs.Common.{◌≡◌, ◌≢◌, inl, inr, ℕ, ◌+◌, ◌-◌, ◌<◌, ◌≤◌, ◌==◌, Bool, true, false, List, [], length, slice_index}
use Rattle.std.proofs.Common.{Option, Some, None, refl, sym, ap, subst, ◌∙◌, arith}
use Rattle.std.specs.Prelude.{IsTrue, if◌then◌else◌, slice_get}
use Rattle.std.proofs.lemmas.Bool.{cases_lt, eqb-true}
use Rattle.std.proofs.lemmas.Bool.Decides.{nat_tests}
use Rattle.std.proofs.lemmas.List.{ext_get_or}
use Rattle.std.proofs.lemmas.Option.{slice_get_within, same_Some}
use Rattle.tn_net.specs.declared.networks.Far.{Far}
use Rattle.tn_net.specs.declared.networks.Far.TheVariants.{Nothing, Host, Link}
use Rattle.tn_net.specs.Networks.{NetworkState, far_at}
use Rattle.tn_mem.specs.Memories.{most_neg}
use Rattle.tn_mem.specs.Guards.{Guarded}
use Rattle.tn_cpu.specs.declared.outcomes.Life.{Life}
use Rattle.tn_cpu.specs.declared.outcomes.Life.TheVariants as life
use Rattle.tn_cpu.specs.declared.outcomes.Why.{Why}
use Rattle.tn_cpu.specs.declared.outcomes.Why.TheVariants.{Undefined, Outside, Code, Halted, BadOp, Stray}
use Rattle.tn_node.specs.declared.modes.Mode.{Mode}
use Rattle.tn_node.specs.declared.modes.Mode.TheVariants as mode
use Rattle.tn_node.specs.declared.modes.Stage.{Stage}
use Rattle.tn_node.specs.Engines.{engine_of}
use Rattle.tn_node.specs.Nodes.{NodeState, mode_at, mode_of}
use Rattle.tn_network.specs.declared.picks.Pick.{Pick}
use Rattle.tn_network.specs.declared.picks.Pick.TheVariants.{HostSend, HostTake, Proc, Send, Take}
use Rattle.tn_network.specs.Hosts.{HostState, other_bytes}
use Rattle.tn_network.specs.Boards.{BoardState, WiredBoard, changed}
use Rattle.tn_network.specs.NodeOps.{NodeOps, is_running}
use Rattle.tn_network.specs.Steps.{step, host_latched, host_acknowledged}
use Rattle.tn_network.proofs.NodeLists.{slice_get-changed_same, slice_get-changed_other, length-changed}
use Rattle.tn_network.proofs.NodeLaws.{runs-over}
use Rattle.tn_sym.specs.Symbolic.{CodeState, SymbolicState}
use Rattle.tn_sym.specs.Same.{IsElsewhere, SameNode, Same}
use Rattle.tn_sym.specs.Inner.Stops.{strayed_in, strayed, seen_by, seen, symbolic_of}
use Rattle.tn_sym.specs.Inner.Comparisons.{SameEngines, SameIn, SameAt, strayed_mode, mode_by, seen_mode}

clash : IsTrue false → ⊥
clash e = cc

-- of the numbers below a number and of that
pub up-to : (P : ℕ → Type 0) (k : ℕ) → ((j : ℕ) → j < k → P j) → P k → (j : ℕ) → j < k + 1 → P j
up-to P k below here j low = elim (cases_lt j k) [
  | inl before ↦ below j before
  | inr from ↦ let same : k ≡ j = omega (arith, low, from) in subst P same here
]

-- a difference that is found
pub never : (P : Type 0) → (P → ⊥) → (IsTrue false → P) × (P → IsTrue false)
never P not = (λ e. absurd (clash e), λ p. absurd (not p))

pub elsewhere-never : (code : CodeState) (m n : List ℕ) (i : ℕ) → IsElsewhere code (most_neg + i) → (slice_index m i ≡ slice_index n i → ⊥)
    → ((a : ℕ) → most_neg ≤ a → IsElsewhere code a → slice_index m (a - most_neg) ≡ slice_index n (a - most_neg)) → ⊥
elsewhere-never code m n i is not all =
    let here : most_neg + i - most_neg ≡ i = omega arith in
    not (subst (λ (k : ℕ). slice_index m k ≡ slice_index n k) here (all (most_neg + i) (omega arith) is))

-- ---- the host of a symbolic network has nothing to send

left-latched : (far : Far) (byte : Option ℕ) (h : HostState) → h.left ≡ [] → (host_latched far byte h).left ≡ []
left-latched Nothing byte h e = e
left-latched Host byte h e = e
left-latched (Link q m) byte h e = e

left-acknowledged : (far : Far) (h : HostState) → h.left ≡ [] → (host_acknowledged far h).left ≡ []
left-acknowledged Nothing h e = e
left-acknowledged Host h e = e
left-acknowledged (Link q m) h e = e

pub left-step : {N : Type 0} (ops : NodeOps N) (network : NetworkState) (pick : Pick) (s : BoardState N) → s.host.left ≡ []
    → (step ops network pick s).host.left ≡ []
left-step ops network HostSend s e = ap other_bytes e
left-step ops network HostTake s e = e
left-step ops network (Proc p slice clock) s e = e
left-step ops network (Send p l) s e = left-latched (far_at network p l) _ s.host e
left-step ops network (Take p l) s e = left-acknowledged (far_at network p l) s.host e

-- ---- engines

pub engines-same : (n : NodeState (List ℕ)) (v : NodeState Guarded) (count : ℕ) → length n.inputs ≡ 4 → length n.outputs ≡ 4
    → length v.inputs ≡ 4 → length v.outputs ≡ 4 → 4 ≤ count → ((j : ℕ) → j < count → engine_of n.inputs j ≡ engine_of v.inputs j)
    → ((j : ℕ) → j < count → engine_of n.outputs j ≡ engine_of v.outputs j) → SameEngines n v
engines-same n v count a b c d all inputs outputs = record {
  inputs = ext_get_or None n.inputs v.inputs (a ∙ sym c) (λ j within. inputs j (omega (arith, within, a, all)));
  outputs = ext_get_or None n.outputs v.outputs (b ∙ sym d) (λ j within. outputs j (omega (arith, within, b, all)));
}

-- ---- what is seen of a node

abbrev with_life : NodeState Guarded → Life → NodeState Guarded
with_life v l = record v { cpu = record v.cpu { life = l } }

abbrev node_by : Why → Bool → NodeState Guarded → NodeState Guarded
node_by Stray here v = if here then strayed v else v
node_by Undefined here v = v
node_by Outside here v = v
node_by Code here v = v
node_by Halted here v = v
node_by BadOp here v = v

abbrev seen_node : Option (ℕ × Why) → ℕ → NodeState Guarded → NodeState Guarded
seen_node None p v = v
seen_node (Some stop) p v = node_by stop.1 (stop.0 == p) v

apart : (q p : ℕ) → (q == p) ≡ false → p ≢ q
apart q p e same = grind (arith, nat_tests)

get-by : (why : Why) (q : ℕ) (nodes : List (NodeState Guarded)) (p : ℕ) (v : NodeState Guarded) → slice_get nodes p ≡ Some v
    → slice_get (seen_by why q nodes) p ≡ Some (node_by why (q == p) v)
get-by Undefined q nodes p v is = is
get-by Outside q nodes p v is = is
get-by Code q nodes p v is = is
get-by Halted q nodes p v is = is
get-by BadOp q nodes p v is = is
get-by Stray q nodes p v is = by_test (q == p) refl
  where
    by_test : (test : Bool) → (q == p) ≡ test → slice_get (changed strayed nodes q) p ≡ Some (if test then strayed v else v)
    by_test true e =
        subst (λ (r : ℕ). slice_get (changed strayed nodes r) p ≡ Some (strayed v)) (sym (eqb-true q p e))
        (slice_get-changed_same strayed nodes p v is)
    by_test false e = slice_get-changed_other strayed nodes q p (apart q p e) ∙ is

get-seen : (stop : Option (ℕ × Why)) (nodes : List (NodeState Guarded)) (p : ℕ) (v : NodeState Guarded) → slice_get nodes p ≡ Some v
    → slice_get (seen stop nodes) p ≡ Some (seen_node stop p v)
get-seen None nodes p v is = is
get-seen (Some stop) nodes p v is = get-by stop.1 stop.0 nodes p v is

long-by : (why : Why) (q : ℕ) (nodes : List (NodeState Guarded)) → length (seen_by why q nodes) ≡ length nodes
long-by Undefined q nodes = refl
long-by Outside q nodes = refl
long-by Code q nodes = refl
long-by Halted q nodes = refl
long-by BadOp q nodes = refl
long-by Stray q nodes = length-changed strayed nodes q

pub seen-long : (stop : Option (ℕ × Why)) (nodes : List (NodeState Guarded)) → length (seen stop nodes) ≡ length nodes
seen-long None nodes = refl
seen-long (Some stop) nodes = long-by stop.1 stop.0 nodes

-- its life alone may differ
record IsSeen (v w : NodeState Guarded) (m : Mode) : Type 0 where
  same_life : Life
  is : w ≡ with_life v same_life
  mode_is : mode_of w ≡ m

own-seen : (v : NodeState Guarded) → IsSeen v v (mode_of v)
own-seen v = record { same_life = v.cpu.life; is = refl; mode_is = refl }

stray-seen : (v : NodeState Guarded) (m : Mode) → mode_of v ≡ m → IsSeen v (strayed_in m v) (strayed_mode m)
stray-seen v mode.Running e =
    let over = runs-over v (ap is_running e) in
    record {
      same_life = life.Stopped Stray;
      is = refl;
      mode_is = ap (λ (stage : Stage). mode_at stage (life.Stopped Stray)) over;
    }
stray-seen v mode.Reset e = record { same_life = v.cpu.life; is = refl; mode_is = e }
stray-seen v mode.Poking e = record { same_life = v.cpu.life; is = refl; mode_is = e }
stray-seen v mode.Peeking e = record { same_life = v.cpu.life; is = refl; mode_is = e }
stray-seen v mode.Replying e = record { same_life = v.cpu.life; is = refl; mode_is = e }
stray-seen v mode.Booting e = record { same_life = v.cpu.life; is = refl; mode_is = e }
stray-seen v mode.Idle e = record { same_life = v.cpu.life; is = refl; mode_is = e }
stray-seen v (mode.Stopped why) e = record { same_life = v.cpu.life; is = refl; mode_is = e }

seen-by : (why : Why) (here : Bool) (v : NodeState Guarded) → IsSeen v (node_by why here v) (mode_by why here (mode_of v))
seen-by Undefined here v = own-seen v
seen-by Outside here v = own-seen v
seen-by Code here v = own-seen v
seen-by Halted here v = own-seen v
seen-by BadOp here v = own-seen v
seen-by Stray true v = stray-seen v (mode_of v) refl
seen-by Stray false v = own-seen v

is-seen : (stop : Option (ℕ × Why)) (p : ℕ) (v : NodeState Guarded) → IsSeen v (seen_node stop p v) (seen_mode stop p (mode_of v))
is-seen None p v = own-seen v
is-seen (Some stop) p v = seen-by stop.1 (stop.0 == p) v

-- ---- nodes

to-node : (code : CodeState) (n : NodeState (List ℕ)) (v : NodeState Guarded) (l : Life) → SameIn (mode_of (with_life v l)) code n v
    → SameNode code n (with_life v l)
to-node code n v l h = record {
  mode = h.mode_is;
  expects = h.expects;
  inputs = h.engines.inputs;
  outputs = h.engines.outputs;
  a = h.registers.a;
  b = h.registers.b;
  c = h.registers.c;
  wptr = h.registers.wptr;
  front = h.registers.front;
  back = h.registers.back;
  error = h.registers.error;
  halt = h.registers.halt;
  stands = h.stands;
  memory = h.memory;
}

from-node : (code : CodeState) (n : NodeState (List ℕ)) (v : NodeState Guarded) (l : Life) → SameNode code n (with_life v l)
    → SameIn (mode_of (with_life v l)) code n v
from-node code n v l h = record {
  mode_is = h.mode;
  expects = h.expects;
  engines = record { inputs = h.inputs; outputs = h.outputs };
  registers = record { a = h.a; b = h.b; c = h.c; wptr = h.wptr; front = h.front; back = h.back; error = h.error; halt = h.halt };
  stands = h.stands;
  memory = h.memory;
}

node-in : (code : CodeState) (n : NodeState (List ℕ)) (v w : NodeState Guarded) (m : Mode) → IsSeen v w m → SameIn m code n v → SameNode
    code n w
node-in code n v w m s h =
    subst (λ (x : NodeState Guarded). SameNode code n x) (sym s.is)
    (to-node code n v s.same_life
    (subst (λ (k : Mode). SameIn k code n v) (sym s.mode_is ∙ ap (λ (x : NodeState Guarded). mode_of x) s.is) h))

in-node : (code : CodeState) (n : NodeState (List ℕ)) (v w : NodeState Guarded) (m : Mode) → IsSeen v w m → SameNode code n w → SameIn m
    code n v
in-node code n v w m s h =
    subst (λ (k : Mode). SameIn k code n v) (sym (ap (λ (x : NodeState Guarded). mode_of x) s.is) ∙ s.mode_is)
    (from-node code n v s.same_life (subst (λ (x : NodeState Guarded). SameNode code n x) s.is h))

module _ (n : BoardState (NodeState (List ℕ))) (b : WiredBoard (NodeState Guarded)) (codes : List CodeState) (stop : Option (ℕ × Why))
  where
    abbrev seen_all : SymbolicState
    seen_all = symbolic_of b codes stop

    pub at-same : (p : ℕ) (node : NodeState (List ℕ)) (other : NodeState Guarded) (code : CodeState) → slice_get n.nodes p ≡ Some node
        → slice_get b.state.nodes p ≡ Some other → slice_get codes p ≡ Some code
        → (SameIn (seen_mode stop p (mode_of other)) code node other → SameAt n seen_all p)
        × (SameAt n seen_all p → SameIn (seen_mode stop p (mode_of other)) code node other)
    at-same p node other code here there known =
        let w = seen_node stop p other in
        let s = is-seen stop p other in
        let found : slice_get (seen stop b.state.nodes) p ≡ Some w = get-seen stop b.state.nodes p other there in (
          λ h x y c at over is.
              subst (λ (d : CodeState). SameNode d x y) (same_Some code c (sym known ∙ is))
              (subst (λ (v : NodeState Guarded). SameNode code x v) (same_Some w y (sym found ∙ over))
              (subst (λ (m : NodeState (List ℕ)). SameNode code m w) (same_Some node x (sym here ∙ at))
              (node-in code node other w (seen_mode stop p (mode_of other)) s h))),
          λ all. in-node code node other w (seen_mode stop p (mode_of other)) s (all node w code here found known),
        )

    -- beyond the last processor nothing is compared
    pub at-all : (count : ℕ) → length n.nodes ≤ count → ((p : ℕ) → p < count → SameAt n seen_all p) → (p : ℕ) → SameAt n seen_all p
    at-all count long below p x y c at over is = below p (omega (arith, long, slice_get_within n.nodes p x at)) x y c at over is

    pub all-same : n.host ≡ b.state.host → n.latches ≡ b.state.latches → length n.nodes ≡ length b.state.nodes
        → ((p : ℕ) → SameAt n seen_all p) → Same n seen_all
    all-same host latches count all = record {
      host = host;
      latches = latches;
      count = count ∙ sym (seen-long stop b.state.nodes);
      nodes = all;
    }

    pub same-count : Same n seen_all → length n.nodes ≡ length b.state.nodes
    same-count h = h.count ∙ seen-long stop b.state.nodes

pub not-true : (r : Bool) → r ≡ false → IsTrue r → ⊥
not-true true e t = cc
not-true false e t = cc
