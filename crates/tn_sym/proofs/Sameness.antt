-- Nodes beside each other are the same.
use Rattle.std.proofs.Common.{◌≡◌, inl, inr, ℕ, ◌+◌, ℤ, List, [], ◌∷◌, length}
use Rattle.std.proofs.Common.{Option, Some, None, refl, sym, ap, subst, ◌∙◌, arith}
use Rattle.std.specs.Prelude.{slice_get}
use Rattle.std.specs.Option.{option_map}
use Rattle.std.proofs.Math.Nat.{eq-zero-or-pos}
use Rattle.tn_isa.specs.declared.functions.Fun.{Fun}
use Rattle.tn_isa.specs.OperandRegister.{register_after}
use Rattle.tn_mem.specs.Memories.{block}
use Rattle.tn_mem.specs.Guards.{Guarded}
use Rattle.tn_mem.proofs.Puts.{same_block, block-none}
use Rattle.tn_cpu.specs.declared.outcomes.Life.{Life}
use Rattle.tn_cpu.specs.declared.outcomes.Life.TheVariants.{Running, Idle, Stopped}
use Rattle.tn_cpu.specs.States.{State, wrap, over_memory}
use Rattle.tn_cpu.specs.Codes.{placed}
use Rattle.tn_node.specs.declared.modes.Stage.{Stage}
use Rattle.tn_node.specs.declared.modes.Stage.TheVariants.{Over}
use Rattle.tn_node.specs.Nodes.{NodeState, mode_at}
use Rattle.tn_network.specs.Boards.{BoardState}
use Rattle.tn_sym.specs.Inner.Covers.{IsApart, Covers}
use Rattle.tn_sym.specs.Inner.Beside.{node_with, StandsBy, SameCpu}
use Rattle.tn_sym.specs.Inner.Items.{StandsAs}
use Rattle.tn_sym.specs.Inner.Wholes.{Coded, SameNodes}
use Rattle.tn_sym.specs.Inner.NetsBeside.{IsBeside}
use Rattle.tn_sym.specs.declared.codes.Instruction.{Instruction}
use Rattle.tn_sym.specs.Symbolic.{CodeState, SymbolicState, instruction_at}
use Rattle.tn_sym.specs.Same.{code_end, IsElsewhere, SameMemory, place, StandsWithin, Stands, SameNode, Same}
use Rattle.tn_sym.proofs.Elements.{IsAmong, made}
use Rattle.tn_sym.proofs.LinkedCode.{IsHeld, held-inside, take-among}

-- what is known of the code of a processor whose memory held it at first
pub record IsCoded (code : CodeState) (c : Coded) : Type 0 where
  pub from : c.from ≡ code.base
  pub to : c.to ≡ code_end code
  pub held : IsHeld code c.code
  pub items : (a : ℕ) → instruction_at code a ≡ option_map (made a) (c.items a)
  pub among : (a : ℕ) (f : Fun) (e : ℤ) → c.items a ≡ Some (f, e) → IsAmong code.bytes code.base a f e

module _ (code : CodeState) (c : Coded) (is : IsCoded code c) where
  -- ---- memories

  elsewhere : (a : ℕ) → IsElsewhere code a → IsApart c.from c.to a
  elsewhere a (inl below) = inl (omega (arith, below, is.from))
  elsewhere a (inr above) = inr (omega (arith, above, is.to))

  whole-in : (m : List ℕ) (g : Guarded) → Covers c.code c.from c.to m g → block m code.base (length code.bytes) ≡ code.bytes
  whole-in m g h = elim (eq-zero-or-pos (length code.bytes)) [
    | inl zero_long ↦ no_bytes code.bytes zero_long
    | inr some ↦
        let held = held-inside code c.code is.held some in
        same_block m c.code code.base code.base (length code.bytes)
        (record { low = held.low; high = omega (arith, held.high, h.whole) }) held
        (λ i below. h.inside (code.base + i) (omega (arith, held.low)) (omega (arith, is.from)) (omega (arith, below, is.to)))
        ∙ is.held.whole
  ]
    where
      no_bytes : (bytes : List ℕ) → length bytes ≡ 0 → block m code.base (length bytes) ≡ bytes
      no_bytes [] e = block-none m code.base
      no_bytes (b ∷ bytes) e = absurd (omega arith)

  pub same-memory : (m : List ℕ) (g : Guarded) → Covers c.code c.from c.to m g → SameMemory code m g.bytes
  same-memory m g h = record {
    size = h.size;
    elsewhere = λ a low where_. h.outside a low (elsewhere a where_);
    whole = whole-in m g h;
  }

  -- ---- where processors stand

  -- the one over bytes is the other but for its memory, its pointer and its operand register
  pub stands-placed : (life : Life) (item : Option (Fun × ℤ)) (s : State (List ℕ)) (m : List ℕ) (u : State Guarded) → StandsBy life item
      s m u
      → (o : ℕ) × (i : ℕ) × (s ≡ placed o i (over_memory m u))
  stands-placed Running None s m u h = h
  stands-placed Running (Some item) s m u h = (_, _, h.2)
  stands-placed Idle item s m u h = (u.oreg, u.iptr, h)
  stands-placed (Stopped why) item s m u h = absurd h

  within : (item : Option (Fun × ℤ)) (s : State (List ℕ)) (m : List ℕ) (u : State Guarded) → c.items u.iptr ≡ item → StandsAs item s m u
      → StandsWithin code (option_map (made u.iptr) item) (place s) (place u)
  within None s m u e h = tt
  within (Some item) s m u e h =
      let among = is.among u.iptr item.0 item.1 e in
      let there = (c.are u.iptr item.0 item.1 e).high in
      let plain : wrap (u.iptr + h.0) ≡ u.iptr + h.0 = omega (arith, there, h.1, is.to, is.held.high) in
      record {
        read = h.0;
        more = omega (arith, h.1);
        iptr = ap (λ (t : State (List ℕ)). t.iptr) h.2 ∙ plain;
        oreg = ap (λ (t : State (List ℕ)). t.oreg) h.2
            ∙ ap (register_after 0) (sym (take-among code u.iptr h.0 item.0 item.1 among (omega (arith, h.1))));
      }

  stands-by : (life : Life) (s : State (List ℕ)) (m : List ℕ) (u : State Guarded) → u.oreg ≡ 0 → StandsBy life (c.items u.iptr) s m u
      → Stands (mode_at Over life) code (place s) (place u)
  stands-by Running s m u is_clear h = (
    is_clear,
    subst (λ (o : Option Instruction). StandsWithin code o (place s) (place u)) (sym (is.items u.iptr))
        (within (c.items u.iptr) s m u refl h),
  )
  stands-by Idle s m u is_clear h =
      (is_clear, (ap (λ (t : State (List ℕ)). t.iptr) h, ap (λ (t : State (List ℕ)). t.oreg) h))
  stands-by (Stopped why) s m u is_clear h = absurd h

  -- ---- nodes

  same-cpu : (s : State (List ℕ)) (v : NodeState Guarded) → SameCpu c.code c.from c.to c.items s v.cpu → v.stage ≡ Over
      → SameNode code (node_with s v) v
  same-cpu s v h over =
      let at = stands-placed v.cpu.life (c.items v.cpu.iptr) s h.memory v.cpu h.stands in
      let m = h.memory in
      record {
        mode = ap (mode_at v.stage) (ap (λ (t : State (List ℕ)). t.life) at.2);
        expects = refl;
        inputs = refl;
        outputs = refl;
        a = ap (λ (t : State (List ℕ)). t.a) at.2;
        b = ap (λ (t : State (List ℕ)). t.b) at.2;
        c = ap (λ (t : State (List ℕ)). t.c) at.2;
        wptr = ap (λ (t : State (List ℕ)). t.wptr) at.2;
        front = ap (λ (t : State (List ℕ)). t.front) at.2;
        back = ap (λ (t : State (List ℕ)). t.back) at.2;
        error = ap (λ (t : State (List ℕ)). t.error) at.2;
        halt = ap (λ (t : State (List ℕ)). t.halt) at.2;
        stands = subst (λ (stage : Stage). Stands (mode_at stage v.cpu.life) code (place s) (place v.cpu)) (sym over)
            (stands-by v.cpu.life s m v.cpu h.clear h.stands);
        memory = subst (λ (memory : List ℕ). SameMemory code memory v.cpu.memory.bytes) (sym (ap (λ (t : State (List ℕ)). t.memory) at.2))
            (same-memory m v.cpu.memory h.covers);
      }

  pub same-node : (coded : ℕ → Coded) (p : ℕ) → coded p ≡ c → (n : NodeState (List ℕ)) (v : NodeState Guarded) → SameNodes coded p n v
      → SameNode code n v
  same-node coded p at n v h =
      subst (λ (x : NodeState (List ℕ)). SameNode code x v) (sym h.is)
      (same-cpu h.cpu v
      (subst (λ (d : Coded). SameCpu d.code d.from d.to d.items h.cpu v.cpu) at h.same.cpu) h.same.over)

-- ---- boards

pub same-boards : (coded : ℕ → Coded) (n : BoardState (NodeState (List ℕ))) (s : SymbolicState)
    → ((p : ℕ) (code : CodeState) → slice_get s.codes p ≡ Some code → IsCoded code (coded p)) → IsBeside (SameNodes coded) n s.board.state
    → Same n s
same-boards coded n s are h = record {
  host = h.host;
  latches = h.latches;
  count = h.nodes.count;
  nodes = λ p node other code here there known.
      same-node code (coded p) (are p code known) coded p refl node other (h.nodes.each p node other here there);
}
