-- What a step of the processor does to the engines of a node: it opens none that is open.
use Rattle.std.proofs.Common.{◌≡◌, ℕ, ◌+◌, ◌*◌, ◌/◌, ◌%◌, ◌==◌, ◌<◌, ◌≤◌, Bool, false}
use Rattle.std.proofs.Common.{Option, Some, None, refl, subst, arith}
use Rattle.std.proofs.lemmas.Bool.Decides.{nat_tests}
use Rattle.tn_isa.specs.declared.functions.Fun.{Fun}
use Rattle.tn_mem.specs.Spaces.{Access, IsSpace}
use Rattle.tn_cpu.specs.declared.outcomes.Outcome.TheVariants as outcome
use Rattle.tn_cpu.specs.declared.outcomes.Transfer.{Transfer}
use Rattle.tn_cpu.specs.declared.channels.Way.TheVariants.{Output}
use Rattle.tn_cpu.specs.Channels.{is_open}
use Rattle.tn_cpu.specs.Turns.{Ended}
use Rattle.tn_cpu.specs.TurnEnds.{ByOutcome, EndsTurn}
use Rattle.tn_cpu.proofs.Ends.{step-ends, step-opens, effect-ends, effect-opens}
use Rattle.tn_node.specs.declared.engines.Engine.{Engine}
use Rattle.tn_node.specs.declared.modes.Stage.TheVariants.{Over}
use Rattle.tn_node.specs.Engines.{engine_of, bit_of}
use Rattle.tn_node.specs.Nodes.{NodeState, IsNode}
use Rattle.tn_node.specs.Links.{awaits}
use Rattle.tn_node.specs.Runs.{busy, node_step, node_item_step, ended}
use Rattle.tn_node.proofs.Pokes.{each_link}
use Rattle.tn_node.proofs.Keeping.{ended-node}
use Rattle.tn_node.proofs.Awaiting.{ended-awaits}

-- ---- the bits of the engines

-- 1 where an engine is open
bit : Option Engine → ℕ
bit (Some e) = 1
bit None = 0

bit_of-bit : (b : ℕ) (e : Option Engine) → bit_of b e ≡ b * bit e
unfolding bit
bit_of-bit b (Some e) = omega arith
bit_of-bit b None = omega arith

bit-small : (e : Option Engine) → bit e ≤ 1
unfolding bit
bit-small (Some e) = omega arith
bit-small None = omega arith

-- where a bit is clear, the engine is closed
not_open : (e : Option Engine) → (bit e ≡ 1 → ⊥) → e ≡ None
unfolding bit
not_open (Some e) h = absurd (h refl)
not_open None h = refl

-- the bits of eight engines
eight : (a b c d e f g h : ℕ) → ℕ
eight a b c d e f g h = 1 * a + 2 * b + 4 * c + 8 * d + (16 * e + 32 * f + 64 * g + 128 * h)

busy-eight : {M : Type 0} (n : NodeState M)
    → busy n ≡ eight (bit (engine_of n.inputs 0)) (bit (engine_of n.inputs 1)) (bit (engine_of n.inputs 2)) (bit (engine_of n.inputs 3))
    (bit (engine_of n.outputs 0)) (bit (engine_of n.outputs 1)) (bit (engine_of n.outputs 2)) (bit (engine_of n.outputs 3))
unfolding eight
busy-eight n =
    rw (
      bit_of-bit 1 (engine_of n.inputs 0),
      bit_of-bit 2 (engine_of n.inputs 1),
      bit_of-bit 4 (engine_of n.inputs 2),
      bit_of-bit 8 (engine_of n.inputs 3),
      bit_of-bit 16 (engine_of n.outputs 0),
      bit_of-bit 32 (engine_of n.outputs 1),
      bit_of-bit 64 (engine_of n.outputs 2),
      bit_of-bit 128 (engine_of n.outputs 3),
    ) refl

-- bit 4 + l of them
fifth : (a b c d f g h : ℕ) → a ≤ 1 → b ≤ 1 → c ≤ 1 → d ≤ 1 → f ≤ 1 → g ≤ 1 → h ≤ 1 → eight a b c d 1 f g h / 16 % 2 ≡ 1
unfolding eight
fifth a b c d f g h ha hb hc hd hf hg hh = omega arith

sixth : (a b c d e g h : ℕ) → a ≤ 1 → b ≤ 1 → c ≤ 1 → d ≤ 1 → e ≤ 1 → g ≤ 1 → h ≤ 1 → eight a b c d e 1 g h / 32 % 2 ≡ 1
unfolding eight
sixth a b c d e g h ha hb hc hd he hg hh = omega arith

seventh : (a b c d e f h : ℕ) → a ≤ 1 → b ≤ 1 → c ≤ 1 → d ≤ 1 → e ≤ 1 → f ≤ 1 → h ≤ 1 → eight a b c d e f 1 h / 64 % 2 ≡ 1
unfolding eight
seventh a b c d e f h ha hb hc hd he hf hh = omega arith

eighth : (a b c d e f g : ℕ) → a ≤ 1 → b ≤ 1 → c ≤ 1 → d ≤ 1 → e ≤ 1 → f ≤ 1 → g ≤ 1 → eight a b c d e f g 1 / 128 % 2 ≡ 1
unfolding eight
eighth a b c d e f g ha hb hc hd he hf hg = omega arith

set_bit : (x : ℕ) → x ≡ 1 → x == 1 ≡ false → ⊥
set_bit x e h = grind (arith, nat_tests)

-- an output engine whose bit is clear is closed
pub output-closed : {M : Type 0} (n : NodeState M) (l : ℕ) → l < 4 → is_open Output l (busy n) ≡ false → engine_of n.outputs l ≡ None
unfolding is_open
output-closed n l link =
    let i0 = engine_of n.inputs 0 in
    let i1 = engine_of n.inputs 1 in
    let i2 = engine_of n.inputs 2 in
    let i3 = engine_of n.inputs 3 in
    let o0 = engine_of n.outputs 0 in
    let o1 = engine_of n.outputs 1 in
    let o2 = engine_of n.outputs 2 in
    let o3 = engine_of n.outputs 3 in
    let b = bit-small in
    let all = busy-eight n in
    each_link (λ l. is_open Output l (busy n) ≡ false → engine_of n.outputs l ≡ None)
    (λ h. not_open o0 (λ one. set_bit (busy n / 16 % 2)
    (rw (all, one) (fifth (bit i0) (bit i1) (bit i2) (bit i3) (bit o1) (bit o2) (bit o3) (b i0) (b i1) (b i2) (b i3) (b o1) (b o2)
    (b o3))) h))
    (λ h. not_open o1 (λ one. set_bit (busy n / 32 % 2)
    (rw (all, one) (sixth (bit i0) (bit i1) (bit i2) (bit i3) (bit o0) (bit o2) (bit o3) (b i0) (b i1) (b i2) (b i3) (b o0) (b o2)
    (b o3))) h))
    (λ h. not_open o2 (λ one. set_bit (busy n / 64 % 2)
    (rw (all, one) (seventh (bit i0) (bit i1) (bit i2) (bit i3) (bit o0) (bit o1) (bit o3) (b i0) (b i1) (b i2) (b i3) (b o0) (b o1)
    (b o3))) h))
    (λ h. not_open o3 (λ one. set_bit (busy n / 128 % 2)
    (rw (all, one) (eighth (bit i0) (bit i1) (bit i2) (bit i3) (bit o0) (bit o1) (bit o2) (b i0) (b i1) (b i2) (b i3) (b o0) (b o1)
    (b o2))) h))
    l link

-- ---- steps

-- a turn that ends as each does opens an output engine that was closed, or none
opens_closed : {M : Type 0} (access : Access M) (n : NodeState M) (e : Ended M) → EndsTurn access (busy n) n.cpu e
    → (t : Transfer) → e.outcome ≡ outcome.OpensOut t → engine_of n.outputs t.link ≡ None
opens_closed access n e turn t is =
    let opening = subst (λ o. ByOutcome access (busy n) n.cpu e.state o) is turn.outcome in
    output-closed n t.link opening.0.link opening.0.shut

module _ {M : Type 0} (access : Access M) (slice : Bool) (clock : ℕ) (n : NodeState M) where
  -- no step of the processor changes a byte that is not acknowledged
  pub step-awaits : (l : ℕ) → IsSpace access → awaits l (ended (node_step access slice clock n) n) ≡ awaits l n
  unfolding node_step
  step-awaits l laws = ended-awaits n _ l (opens_closed access n _ (step-ends access (busy n) slice clock n.cpu laws))

  pub item_step-awaits : (fun : Fun) (operand following l : ℕ) → IsSpace access
      → awaits l (ended (node_item_step access fun operand following slice clock n) n) ≡ awaits l n
  unfolding node_item_step
  item_step-awaits fun operand following l laws = ended-awaits n _ l (opens_closed access n _ (effect-ends access _ n.cpu fun operand laws))

  -- and each keeps what holds of a node
  pub step-node : IsNode n → n.stage ≡ Over → IsNode (ended (node_step access slice clock n) n)
  unfolding node_step
  step-node h at = ended-node n h _ at (step-opens access (busy n) slice clock n.cpu)

  pub item_step-node : (fun : Fun) (operand following : ℕ) → IsNode n → n.stage ≡ Over
      → IsNode (ended (node_item_step access fun operand following slice clock n) n)
  unfolding node_item_step
  item_step-node fun operand following h at = ended-node n h _ at (effect-opens access _ n.cpu fun operand)
