-- Networks over bytes follow networks over whole items.
use Rattle.std.proofs.Common.{◌≡◌, ◌≢◌, ◌⊎◌, inl, inr, ℕ, ◌==◌, Bool, true, false, List, Option, Some, None, Result, Ok, Err}
use Rattle.std.proofs.Common.{refl, sym, ap, subst, ◌∙◌}
use Rattle.std.specs.Prelude.{if◌then◌else◌}
use Rattle.tn_isa.specs.OperandRegister.{is_prefix as is_prefix_function, function_of, loaded}
use Rattle.tn_mem.specs.declared.touches.Touch.{Touch}
use Rattle.tn_mem.specs.Memories.{plain_access, fetch}
use Rattle.tn_mem.specs.Guards.{Guarded, guarded}
use Rattle.tn_cpu.specs.declared.outcomes.Life.{Life}
use Rattle.tn_cpu.specs.declared.outcomes.Life.TheVariants.{Running, Idle, Stopped as LifeStopped}
use Rattle.tn_cpu.specs.declared.outcomes.Outcome.{Outcome}
use Rattle.tn_cpu.specs.declared.outcomes.Outcome.TheVariants.{Prefix, Ran, OpensIn, OpensOut, Stopped}
use Rattle.tn_cpu.specs.declared.outcomes.Why.{Why}
use Rattle.tn_cpu.specs.States.{State}
use Rattle.tn_cpu.specs.Turns.{with_answer}
use Rattle.tn_cpu.specs.Queues.{woken_by, woken}
use Rattle.tn_cpu.specs.Steps.{executed, execute_byte, step}
use Rattle.tn_cpu.proofs.Ends.{effect-not_prefix}
use Rattle.tn_node.specs.declared.engines.Engine.{Engine}
use Rattle.tn_node.specs.declared.modes.Made.{Made}
use Rattle.tn_node.specs.declared.modes.Stage.{Stage}
use Rattle.tn_node.specs.declared.modes.Stage.TheVariants.{Over}
use Rattle.tn_node.specs.Engines.{engine_of}
use Rattle.tn_node.specs.Nodes.{NodeState, mode_at, mode_of}
use Rattle.tn_node.specs.Links.{wants, is_reply_at, is_reply, offers, marked_sent, reply_acknowledged, engine_acknowledged, acknowledged}
use Rattle.tn_node.specs.Links.{taken}
use Rattle.tn_node.specs.Runs.{busy, made_by, ended, node_step}
use Rattle.tn_network.specs.NodeOps.{is_running, node_ops}
use Rattle.tn_sym.specs.Inner.Items.{is_prefix_byte}
use Rattle.tn_sym.specs.Inner.Beside.{node_with, SameNode, HasStopped, NodeFollows}
use Rattle.tn_sym.specs.Inner.Beside.NodeFollows.{node_stops, node_same}
use Rattle.tn_sym.specs.Inner.NetsBeside.{is_prefix, NodesFollow}
use Rattle.tn_sym.specs.Inner.Wholes.{Coded, SameNodes, whole_node, TakesWhole, whole_ops, WholesFollow}
use Rattle.tn_sym.proofs.NetsBeside.{ready-same, step-same, step-left}
use Rattle.tn_sym.proofs.Processors.{memory-stands}
use Rattle.tn_sym.proofs.Nodes.{wants-with, marked_sent-with, offers-same, marked_sent-same, acknowledged-same, taken-same}
use Rattle.tn_sym.proofs.Nodes.{prefix-read, item-ran}

-- ---- a step is a prefix byte where its byte is one

no_prefix : (o : Outcome) → o ≢ Prefix → is_prefix (made_by o) ≡ false
no_prefix Prefix not = absurd (not refl)
no_prefix Ran not = refl
no_prefix (OpensIn transfer) not = refl
no_prefix (OpensOut transfer) not = refl
no_prefix (Stopped why) not = refl

module _ (busy : ℕ) (slice : Bool) (clock : ℕ) (s : State (List ℕ)) where
  executed-prefix : (test : Bool) (byte : ℕ) → is_prefix (made_by (executed plain_access test byte busy slice clock s).outcome) ≡ test
  executed-prefix true byte = refl
  executed-prefix false byte = no_prefix _ (effect-not_prefix plain_access _ s (function_of byte) (loaded s.oreg byte))

  answered-prefix : (r : Result ℕ Touch)
      → is_prefix (made_by (with_answer r s (λ byte. execute_byte plain_access byte busy slice clock s)).outcome) ≡ is_prefix_byte r
  unfolding execute_byte
  answered-prefix (Ok byte) = executed-prefix (is_prefix_function (function_of byte)) byte
  answered-prefix (Err touch) = refl

  step-prefix : is_prefix (made_by (step plain_access busy slice clock s).outcome) ≡ is_prefix_byte (fetch s.memory s.iptr)
  unfolding step
  step-prefix = answered-prefix (fetch s.memory s.iptr)

made-prefix : (slice : Bool) (clock : ℕ) (n : NodeState (List ℕ))
    → is_prefix (made_by (node_step plain_access slice clock n).outcome) ≡ is_prefix_byte (fetch n.cpu.memory n.cpu.iptr)
unfolding node_step
made-prefix slice clock n = step-prefix (busy n) slice clock n.cpu

-- ---- a stopped node stays so behind an acknowledge

woken-stopped : (process : ℕ) (u : State Guarded) (why : Why) → u.life ≡ LifeStopped why → woken guarded process u ≡ u
unfolding woken
woken-stopped process u why is = ap (λ (life : Life). woken_by guarded life process u) is

stopped_if : (test : Bool) (x y : NodeState Guarded) → HasStopped x → HasStopped y → HasStopped (if test then x else y)
stopped_if true x y h g = h
stopped_if false x y h g = g

engine-stopped : (l : ℕ) (e : Option Engine) (v : NodeState Guarded) → HasStopped v → HasStopped (engine_acknowledged guarded l e v)
engine-stopped l None v h = h
engine-stopped l (Some e) v h =
    stopped_if (e.left == 0) _ _
    (record { why = h.why; over = h.over; life = ap (λ (u : State Guarded). u.life) (woken-stopped e.process v.cpu h.why h.life) ∙ h.life })
    (record { why = h.why; over = h.over; life = h.life })

acknowledged-stopped : (l : ℕ) (v : NodeState Guarded) → HasStopped v → HasStopped (acknowledged guarded l v)
unfolding acknowledged
acknowledged-stopped l v h = by_test (is_reply l v) (ap (λ (stage : Stage). is_reply_at stage l v.expects.link) h.over)
  where
    by_test : (test : Bool) → test ≡ false
        → HasStopped (if test then reply_acknowledged v else engine_acknowledged guarded l (engine_of v.outputs l) v)
    by_test true is = cc
    by_test false is = engine-stopped l (engine_of v.outputs l) v h

-- ---- nodes

runs_over : (life : Life) → is_running (mode_at Over life) ≡ true → life ≡ Running
runs_over Running e = refl
runs_over Idle e = cc
runs_over (LifeStopped why) e = cc

module _ (coded : ℕ → Coded) where
  at : (p : ℕ) (cpu : State (List ℕ)) (v : NodeState Guarded)
      → SameNode (coded p).code (coded p).from (coded p).to (coded p).items cpu v → SameNodes coded p (node_with cpu v) v
  at p cpu v same = record { cpu = cpu; is = refl; same = same }

  ends : (p : ℕ) (n : NodeState (List ℕ)) (v : NodeState Guarded)
      → NodeFollows (coded p).code (coded p).from (coded p).to (coded p).items n v → HasStopped v ⊎ SameNodes coded p n v
  ends p n v (node_stops stop) = inl stop
  ends p n v (node_same cpu is same) = inr (record { cpu = cpu; is = is; same = same })

  runs-same : (p : ℕ) (n : NodeState (List ℕ)) (v : NodeState Guarded) → SameNodes coded p n v
      → is_running (mode_of n) ≡ is_running (mode_of v)
  runs-same p n v h =
      let c = h.same.cpu in
      let life = (memory-stands (coded p).code (coded p).from (coded p).to (coded p).items (coded p).are (coded p).high v.cpu.life
      ((coded p).items v.cpu.iptr) h.cpu c.memory v.cpu c.stands).1 in
      ap (λ (m : NodeState (List ℕ)). is_running (mode_of m)) h.is ∙ ap (λ (l : Life). is_running (mode_at v.stage l)) life

  running : (p : ℕ) (n : NodeState (List ℕ)) (v : NodeState Guarded) → SameNodes coded p n v → is_running (mode_of n) ≡ true
      → v.cpu.life ≡ Running
  running p n v h is =
      runs_over v.cpu.life (sym (ap (λ (stage : Stage). is_running (mode_at stage v.cpu.life)) h.same.over) ∙
      (sym (runs-same p n v h) ∙ is))

  -- the byte at the instruction pointer, seen of the node or of its processor
  byte-of : (p : ℕ) (n : NodeState (List ℕ)) (v : NodeState Guarded) (h : SameNodes coded p n v)
      → is_prefix_byte (fetch n.cpu.memory n.cpu.iptr) ≡ is_prefix_byte (fetch h.cpu.memory h.cpu.iptr)
  byte-of p n v h = ap (λ (m : NodeState (List ℕ)). is_prefix_byte (fetch m.cpu.memory m.cpu.iptr)) h.is

  module _ (run : ℕ → Bool → ℕ → NodeState Guarded → NodeState Guarded) (made : ℕ → Bool → ℕ → NodeState Guarded → Made)
      (whole : TakesWhole coded run) where
    pub nodes-follow : NodesFollow (node_ops plain_access) (whole_ops run made) (SameNodes coded) (λ v. HasStopped v)
    nodes-follow = record {
      runs = λ p n v h. runs-same p n v h;
      wants = λ p l n v h. ap (λ (m : NodeState (List ℕ)). wants l m) h.is ∙ wants-with l h.cpu v;
      offers = λ p l n v h.
          let c = coded p in
          ap (offers plain_access l) h.is ∙ offers-same c.code c.from c.to c.items c.are c.high l h.cpu v h.same;
      send = λ p l byte n v h is.
          let c = coded p in
          record {
            cpu = h.cpu;
            is = ap (marked_sent l) h.is ∙ marked_sent-with l h.cpu v;
            same = marked_sent-same c.code c.from c.to c.items c.are c.high l byte h.cpu v h.same is;
          };
      take = λ p l byte n v h.
          let c = coded p in
          subst
          (λ (m : NodeState (List ℕ)). HasStopped (taken guarded l byte v)
          ⊎ SameNodes coded p (taken plain_access l byte m) (taken guarded l byte v)) (sym h.is)
          (ends p _ _ (taken-same c.code c.from c.to c.items c.are c.high l byte h.cpu v h.same));
      acknowledge = λ p l n v h.
          let c = coded p in
          subst
          (λ (m : NodeState (List ℕ)). HasStopped (acknowledged guarded l v)
          ⊎ SameNodes coded p (acknowledged plain_access l m) (acknowledged guarded l v)) (sym h.is)
          (ends p _ _ (acknowledged-same c.code c.from c.to c.items c.are c.high l h.cpu v h.same));
      prefix = λ p clock slice n v h is prefix.
          let c = coded p in
          let read = prefix-read c.code c.from c.to c.items c.are c.high slice clock h.cpu v h.same (running p n v h is)
          (sym (byte-of p n v h) ∙ (sym (made-prefix slice clock n) ∙ prefix)) in
          record {
            cpu = read.0;
            is = ap (λ (m : NodeState (List ℕ)). ended (node_step plain_access slice clock m) m) h.is ∙ read.1;
            same = read.2;
          };
      whole = λ p clock slice n v h is other.
          let c = coded p in
          subst (λ (w : NodeState Guarded). HasStopped w ⊎ SameNodes coded p (ended (node_step plain_access slice clock n) n) w)
          (sym (whole.is p clock slice v))
          (subst
          (λ (m : NodeState (List ℕ)). HasStopped (whole_node c slice clock v)
          ⊎ SameNodes coded p (ended (node_step plain_access slice clock m) m) (whole_node c slice clock v)) (sym h.is)
          (ends p _ _
          (item-ran c.code c.from c.to c.items c.are c.high slice clock h.cpu v h.same (running p n v h is)
          (sym (byte-of p n v h) ∙ (sym (made-prefix slice clock n) ∙ other)))));
      acknowledge_over = λ l v h. acknowledged-stopped l v h;
    }

-- ---- the law

pub wholes-follow : WholesFollow
wholes-follow coded run made network pick s t whole beside =
    let laws = nodes-follow coded run made whole in
    record {
      same = ready-same (node_ops plain_access) (whole_ops run made) (SameNodes coded) (λ v. HasStopped v) laws network s t beside pick;
      left = step-left (node_ops plain_access) (whole_ops run made) (SameNodes coded) (λ v. HasStopped v) laws network s t beside pick;
      made = step-same (node_ops plain_access) (whole_ops run made) (SameNodes coded) (λ v. HasStopped v) laws network s t beside pick;
    }
