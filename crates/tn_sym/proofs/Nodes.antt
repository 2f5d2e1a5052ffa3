-- Steps of a node beside those of one over whole items.
use Rattle.std.proofs.Common.{
  ◌≡◌,
  ℕ,
  ◌+◌,
  ◌-◌,
  ◌^◌,
  ◌≤◌,
  ◌==◌,
  ℤ,
  Bool,
  true,
  false,
  List,
  length,
  Option,
  Some,
  None,
  refl,
  sym,
  ap,
  subst,
  ◌∙◌,
  inl,
  inr,
  arith,
}
use Rattle.std.specs.Prelude.{if◌then◌else◌, not, nat_lt, ◌&&◌, slice_set}
use Rattle.std.specs.Result.{result_unwrap_or}
use Rattle.std.proofs.lemmas.Bool.Decides.{nat_tests}
use Rattle.tn_isa.specs.declared.functions.Fun.{Fun}
use Rattle.tn_mem.specs.Memories.{plain_access, fetch}
use Rattle.tn_mem.specs.Guards.{Guarded, guarded}
use Rattle.tn_prefix.specs.Coding.{coding}
use Rattle.tn_prefix.specs.Operand.{word_of}
use Rattle.tn_cpu.specs.declared.outcomes.Why.{Why}
use Rattle.tn_cpu.specs.declared.outcomes.Why.TheVariants.{Stray}
use Rattle.tn_cpu.specs.declared.outcomes.Life.{Life}
use Rattle.tn_cpu.specs.declared.outcomes.Life.TheVariants.{Running, Stopped as IsStopped}
use Rattle.tn_cpu.specs.declared.outcomes.Outcome.{Outcome}
use Rattle.tn_cpu.specs.declared.outcomes.Outcome.TheVariants.{Prefix, Ran, OpensIn, OpensOut, Stopped}
use Rattle.tn_cpu.specs.States.{State, wrap, over_memory}
use Rattle.tn_cpu.specs.Turns.{Ended}
use Rattle.tn_cpu.specs.Queues.{woken}
use Rattle.tn_cpu.specs.declared.turns.Turn.{Turn}
use Rattle.tn_cpu.specs.Effects.{effect}
use Rattle.tn_cpu.specs.Steps.{step}
use Rattle.tn_cpu.specs.TurnEnds.{ByOutcome}
use Rattle.tn_cpu.specs.declared.channels.Way.TheVariants.{Input, Output}
use Rattle.tn_cpu.proofs.Ends.{effect-tells}
use Rattle.tn_node.specs.declared.engines.Engine.{Engine}
use Rattle.tn_node.specs.declared.modes.Stage.{Stage}
use Rattle.tn_node.specs.declared.modes.Stage.TheVariants.{Reset, Poking, Peeking, Replying, Booting, Refused, Over}
use Rattle.tn_node.specs.Engines.{engine_of, moved, opened}
use Rattle.tn_node.specs.Nodes.{NodeState}
use Rattle.tn_node.specs.Bootstraps.{bootstrapped}
use Rattle.tn_node.specs.Links.{
  wants_at,
  wants,
  is_reply_at,
  is_reply,
  reply_byte,
  output_byte,
  offers,
  engine_sent,
  marked_sent,
  awaits,
  reply_acknowledged,
  engine_acknowledged,
  acknowledged,
  byte_stored,
  engine_taken,
  is_booting,
  taken,
}
use Rattle.tn_node.specs.Runs.{busy, with_outcome, ended, node_step}
use Rattle.tn_sym.specs.Inner.Covers.{Covers}
use Rattle.tn_sym.specs.Inner.Items.{AreItems, item_step, is_prefix_byte, SameRunning, ItemFollows}
use Rattle.tn_sym.specs.Inner.Items.ItemFollows.{stops as item_stops, goes as item_goes}
use Rattle.tn_sym.specs.Inner.Beside.{StandsBy, SameCpu, Allows, node_with, SameNode, NodeFollows}
use Rattle.tn_sym.specs.Inner.Beside.NodeFollows.{node_stops, node_same}
use Rattle.tn_sym.proofs.Bytes.{prefix-same, item-same}
use Rattle.tn_sym.proofs.Engines.{engines-set, have-set, allows-moved, allows-refusal}
use Rattle.tn_sym.proofs.Processors.{start-same, woken-same, stored-same, byte-same}

-- a turn that stops leaves the processor stopped
told-life : (busy : ℕ) (u : State Guarded) (g : Ended Guarded) (why : Why) → ByOutcome guarded busy u g.state g.outcome → g.outcome ≡
    Stopped why
    → g.state.life ≡ IsStopped why
told-life busy u g why tells stop =
    ap (λ (t : State Guarded). t.life) (subst (λ (o : Outcome). ByOutcome guarded busy u g.state o) stop tells).0

-- ---- what doesn't look at the memory is the same in both

wants-stage : (stage : Stage) (l : ℕ) (s : State (List ℕ)) (v : NodeState Guarded) → wants_at stage l (node_with s v) ≡ wants_at stage l v
wants-stage Reset l s v = refl
wants-stage Poking l s v = refl
wants-stage Peeking l s v = refl
wants-stage Booting l s v = refl
wants-stage Replying l s v = refl
wants-stage (Refused why) l s v = refl
wants-stage Over l s v = refl

pub wants-with : (l : ℕ) (s : State (List ℕ)) (v : NodeState Guarded) → wants l (node_with s v) ≡ wants l v
wants-with l s v = wants-stage v.stage l s v

pub awaits-with : (l : ℕ) (s : State (List ℕ)) (v : NodeState Guarded) → awaits l (node_with s v) ≡ awaits l v
awaits-with l s v = refl

either : (test : Bool) (s : State (List ℕ)) (x y : NodeState Guarded) → (if test then node_with s x else node_with s y) ≡ node_with s
    (if test then x else y)
either true s x y = refl
either false s x y = refl

pub marked_sent-with : (l : ℕ) (s : State (List ℕ)) (v : NodeState Guarded) → marked_sent l (node_with s v) ≡ node_with s (marked_sent l v)
unfolding marked_sent
marked_sent-with l s v = either (is_reply l v) s _ _

module _ (code : List ℕ) (from to : ℕ) (items : ℕ → Option (Fun × ℤ)) (are : AreItems code from to items) (high : to ≤ 2 ^ 32) where
  no_reply : (l : ℕ) (v : NodeState Guarded) → v.stage ≡ Over → is_reply l v ≡ false
  no_reply l v over = ap (λ (stage : Stage). is_reply_at stage l v.expects.link) over

  -- ---- the byte that a node offers

  output-same : (s : State (List ℕ)) (u : State Guarded) (e : Option Engine) → SameCpu code from to items s u →
      ((x : Engine) → e ≡ Some x → Allows (length code) from to x.pointer x.left) → output_byte plain_access s.memory e ≡ output_byte
      guarded u.memory e
  output-same s u None same allows = refl
  output-same s u (Some e) same allows = by_test (nat_lt 0 e.left && not e.sent) refl
    where
      by_test : (test : Bool) → (nat_lt 0 e.left && not e.sent) ≡ test →
          (if test then Some (result_unwrap_or (plain_access.byte s.memory e.pointer) 0) else None) ≡
          (if test then Some (result_unwrap_or (guarded.byte u.memory e.pointer) 0) else None)
      by_test true is = ap Some (byte-same code from to items are high e.pointer e.left s u same (grind (arith, nat_tests)) (allows e refl))
      by_test false is = refl

  pub offers-same : (l : ℕ) (s : State (List ℕ)) (v : NodeState Guarded) → SameNode code from to items s v → offers plain_access l
      (node_with s v) ≡ offers guarded l v
  unfolding offers
  offers-same l s v same = ap (λ (byte : Option ℕ). if is_reply l v then reply_byte v.expects else byte)
      (output-same s v.cpu (engine_of v.outputs l) same.cpu (λ e is. same.outputs.block l e is))

  -- ---- after a byte has gone out

  offered : (s : State (List ℕ)) (m : Guarded) (e : Option Engine) (byte : ℕ) → output_byte guarded m e ≡ Some byte → (x : Engine) → e ≡
      Some x → 1 ≤ x.left
  offered s m None byte h x is = cc
  offered s m (Some e) byte h x is = by_test (nat_lt 0 e.left && not e.sent) refl h
    where
      by_test : (test : Bool) → (nat_lt 0 e.left && not e.sent) ≡ test →
          (if test then Some (result_unwrap_or (guarded.byte m e.pointer) 0) else None) ≡ Some byte → 1 ≤ x.left
      by_test true t h = let same : e ≡ x = cc in rw (← same) (grind (arith, nat_tests))
      by_test false t h = cc

  pub marked_sent-same : (l byte : ℕ) (s : State (List ℕ)) (v : NodeState Guarded) → SameNode code from to items s v → offers guarded l
      v ≡ Some byte → SameNode code from to items s (marked_sent l v)
  unfolding marked_sent offers
  marked_sent-same l byte s v same h = by_test (is_reply l v) (no_reply l v same.over) h
    where
      sends : (e : Option Engine) → engine_of v.outputs l ≡ e → output_byte guarded v.cpu.memory e ≡ Some byte → (x : Engine) →
          engine_sent e ≡ Some x → Allows (length code) from to x.pointer x.left
      sends None is h x e = cc
      sends (Some engine) is h x e =
          let moves = allows-moved (length code) from to engine (offered s v.cpu.memory (Some engine) byte h engine refl)
          (same.outputs.block l engine is) in
          let same : record (moved engine) { sent = true } ≡ x = cc in
          rw (← same) (record { block = moves.block; apart = moves.apart })

      by_test : (test : Bool) → test ≡ false → (if test then reply_byte v.expects else output_byte guarded v.cpu.memory
          (engine_of v.outputs l)) ≡ Some byte → SameNode code from to items s
          (if test then record v { expects = record v.expects { got = v.expects.got + 1; left = v.expects.left - 1; sent = true } } else
          record v { outputs = slice_set v.outputs l (engine_sent (engine_of v.outputs l)) })
      by_test true is h = cc
      by_test false is h = record {
        cpu = same.cpu;
        over = same.over;
        inputs = same.inputs;
        outputs = engines-set (length code) from to v.outputs l (engine_sent (engine_of v.outputs l)) same.outputs
            (sends (engine_of v.outputs l) refl h);
        some = same.some;
      }

  -- ---- after an acknowledge, and after a byte that comes

  -- what becomes of a node whose processor wakes a process
  wakes : (process : ℕ) (s : State (List ℕ)) (v : NodeState Guarded) → SameNode code from to items s v → NodeFollows code from to items
      (node_with (woken plain_access process s) v) (record v { cpu = woken guarded process v.cpu })
  wakes process s v same = elim (woken-same code from to items are high process s v.cpu same.cpu) [
    | inl stop ↦ node_stops (record { why = stop.0; over = same.over; life = stop.1 })
    | inr cpu ↦ node_same (woken plain_access process s) refl
        (record { cpu = cpu; over = same.over; inputs = same.inputs; outputs = same.outputs; some = same.some })
  ]

  engine-acknowledged : (l : ℕ) (s : State (List ℕ)) (v : NodeState Guarded) (e : Option Engine) → engine_of v.outputs l ≡ e → SameNode
      code from to items s v → NodeFollows code from to items (engine_acknowledged plain_access l e (node_with s v))
      (engine_acknowledged guarded l e v)
  engine-acknowledged l s v None is same = node_same s refl same
  engine-acknowledged l s v (Some e) is same = by_test (e.left == 0)
    where
      closed : SameNode code from to items s (record v { outputs = slice_set v.outputs l None })
      closed = record {
        cpu = same.cpu;
        over = same.over;
        inputs = same.inputs;
        outputs = engines-set (length code) from to v.outputs l
            None same.outputs (λ x none. cc);
        some = same.some;
      }

      by_test : (test : Bool) → NodeFollows code from to items
          (if test then record (node_with s v) { outputs = slice_set v.outputs l None; cpu = woken plain_access e.process s } else
          record (node_with s v) { outputs = slice_set v.outputs l (Some (record e { sent = false })) })
          (if test then record v { outputs = slice_set v.outputs l None; cpu = woken guarded e.process v.cpu } else record v
          { outputs = slice_set v.outputs l (Some (record e { sent = false })) })
      by_test true = wakes e.process s (record v { outputs = slice_set v.outputs l None }) closed
      by_test false = node_same s refl (record {
        cpu = same.cpu;
        over = same.over;
        inputs = same.inputs;
        outputs = engines-set (length code) from to v.outputs l (Some (record e { sent = false })) same.outputs
            (λ x eq. let own : record e { sent = false } ≡ x = cc in let h = same.outputs.block l e is in rw (← own)
            (record { block = h.block; apart = h.apart }));
        some = same.some;
      })

  pub acknowledged-same : (l : ℕ) (s : State (List ℕ)) (v : NodeState Guarded) → SameNode code from to items s v → NodeFollows code from
      to items (acknowledged plain_access l (node_with s v)) (acknowledged guarded l v)
  unfolding acknowledged
  acknowledged-same l s v same = by_test (is_reply l v) (no_reply l v same.over)
    where
      by_test : (test : Bool) → test ≡ false → NodeFollows code from to items
          (if test then reply_acknowledged (node_with s v) else engine_acknowledged plain_access l (engine_of v.outputs l)
          (node_with s v)) (if test then reply_acknowledged v else engine_acknowledged guarded l (engine_of v.outputs l) v)
      by_test true is = cc
      by_test false is = engine-acknowledged l s v (engine_of v.outputs l) refl same

  engine-taken : (l byte : ℕ) (s : State (List ℕ)) (v : NodeState Guarded) (e : Option Engine) → engine_of v.inputs l ≡ e → SameNode
      code from to items s v → NodeFollows code from to items (engine_taken plain_access l byte e (node_with s v))
      (engine_taken guarded l byte e v)
  engine-taken l byte s v None is same = node_same s refl same
  engine-taken l byte s v (Some e) is same = by_test (e.left == 1) refl
    where
      some : 1 ≤ e.left
      some = same.some.some l e is

      cpu : SameCpu code from to items (byte_stored plain_access e.pointer byte s) (byte_stored guarded e.pointer byte v.cpu)
      cpu = stored-same code from to items are high e.pointer e.left byte s v.cpu same.cpu some (same.inputs.block l e is)

      closed : SameNode code from to items (byte_stored plain_access e.pointer byte s)
          (record v { inputs = slice_set v.inputs l None; cpu = byte_stored guarded e.pointer byte v.cpu })
      closed = record {
        cpu = cpu;
        over = same.over;
        inputs = engines-set (length code) from to v.inputs l None same.inputs
            (λ x none. cc);
        outputs = same.outputs;
        some = have-set v.inputs l None same.some (λ x none. cc);
      }

      by_test : (test : Bool) → (e.left == 1) ≡ test → NodeFollows code from to items
          (if test then record (node_with s v) {
            inputs = slice_set v.inputs l None;
            cpu = woken plain_access e.process
                (byte_stored plain_access e.pointer byte s);
          } else record (node_with s v)
          { inputs = slice_set v.inputs l (Some (moved e)); cpu = byte_stored plain_access e.pointer byte s })
          (if test then record v {
            inputs = slice_set v.inputs l None;
            cpu = woken guarded e.process
                (byte_stored guarded e.pointer byte v.cpu);
          } else record v
          { inputs = slice_set v.inputs l (Some (moved e)); cpu = byte_stored guarded e.pointer byte v.cpu })
      by_test true t = wakes e.process (byte_stored plain_access e.pointer byte s)
          (record v { inputs = slice_set v.inputs l None; cpu = byte_stored guarded e.pointer byte v.cpu }) closed
      by_test false t =
          let more : 1 ≤ e.left - 1 = grind (arith, nat_tests) in
          node_same (byte_stored plain_access e.pointer byte s) refl (record {
            cpu = cpu;
            over = same.over;
            inputs = engines-set (length code) from to v.inputs l (Some (moved e)) same.inputs
                (λ x eq. let own : moved e ≡ x = cc in rw (← own) (allows-moved (length code) from to e some (same.inputs.block l e is)));
            outputs = same.outputs;
            some = have-set v.inputs l (Some (moved e)) same.some (λ x eq. let own : moved e ≡ x = cc in rw (← own) more);
          })

  pub taken-same : (l byte : ℕ) (s : State (List ℕ)) (v : NodeState Guarded) → SameNode code from to items s v → NodeFollows code from
      to items (taken plain_access l byte (node_with s v)) (taken guarded l byte v)
  unfolding taken
  taken-same l byte s v same = by_test (is_booting v.stage) (ap is_booting same.over)
    where
      by_test : (test : Bool) → test ≡ false → NodeFollows code from to items
          (if test then bootstrapped plain_access v.stage l byte (node_with s v) else engine_taken plain_access l byte
          (engine_of v.inputs l) (node_with s v)) (if test then bootstrapped guarded v.stage l byte v else engine_taken guarded l byte
          (engine_of v.inputs l) v)
      by_test true is = cc
      by_test false is = engine-taken l byte s v (engine_of v.inputs l) refl same

  -- ---- after an instruction byte

  running : (s : State (List ℕ)) (u : State Guarded) → u.life ≡ Running → SameCpu code from to items s u → SameRunning code from to
      items s u
  running s u is same = record {
    memory = same.memory;
    covers = same.covers;
    clear = same.clear;
    stands = subst
        (λ (life : Life). StandsBy life (items u.iptr) s same.memory u) is same.stands;
  }

  still_running : (s : State (List ℕ)) (u : State Guarded) → u.life ≡ Running → SameRunning code from to items s u → SameCpu code from
      to items s u
  still_running s u is same = record {
    memory = same.memory;
    covers = same.covers;
    clear = same.clear;
    stands = subst
        (λ (life : Life). StandsBy life (items u.iptr) s same.memory u) (sym is) same.stands;
  }

  -- a prefix byte is read by the one alone
  pub prefix-read : (slice : Bool) (clock : ℕ) (s : State (List ℕ)) (v : NodeState Guarded) → SameNode code from to items s v →
      v.cpu.life ≡ Running → is_prefix_byte (fetch s.memory s.iptr) ≡ true → (t : State (List ℕ)) ×
      (ended (node_step plain_access slice clock (node_with s v)) (node_with s v) ≡ node_with t v) × SameNode code from to items t v
  unfolding node_step
  prefix-read slice clock s v same is prefix =
      let read = prefix-same code from to items are high (busy v) slice clock s v.cpu (running s v.cpu is same.cpu) prefix in (
        (step plain_access (busy v) slice clock s).state,
        ap (λ (outcome : Outcome). with_outcome outcome
            (node_with (step plain_access (busy v) slice clock s).state v)) read.0,
        record
            { cpu = still_running _ v.cpu is read.1; over = same.over; inputs = same.inputs; outputs = same.outputs; some = same.some },
      )

  -- where a turn stops
  stopped-life : (g : Ended Guarded) (v : NodeState Guarded) (why : Why) → g.outcome ≡ Stopped why → g.state.life ≡ IsStopped why →
      (ended g v).cpu.life ≡ IsStopped why
  stopped-life g v why is life = ap (λ (outcome : Outcome). (with_outcome outcome (record v { cpu = g.state })).cpu.life) is ∙ life

  -- the node with the engine that opens, if one does
  with-outcome : (outcome : Outcome) (s : State (List ℕ)) (v : NodeState Guarded) → with_outcome outcome (node_with s v) ≡ node_with s
      (with_outcome outcome v)
  with-outcome Prefix s v = refl
  with-outcome Ran s v = refl
  with-outcome (OpensIn t) s v = refl
  with-outcome (OpensOut t) s v = refl
  with-outcome (Stopped why) s v = refl

  with-cpu : (outcome : Outcome) (v : NodeState Guarded) → (with_outcome outcome v).cpu ≡ v.cpu
  with-cpu Prefix v = refl
  with-cpu Ran v = refl
  with-cpu (OpensIn t) v = refl
  with-cpu (OpensOut t) v = refl
  with-cpu (Stopped why) v = refl

  with-stage : (outcome : Outcome) (v : NodeState Guarded) → (with_outcome outcome v).stage ≡ v.stage
  with-stage Prefix v = refl
  with-stage Ran v = refl
  with-stage (OpensIn t) v = refl
  with-stage (OpensOut t) v = refl
  with-stage (Stopped why) v = refl

  opens-same : (outcome : Outcome) (busy : ℕ) (s : State (List ℕ)) (v : NodeState Guarded) (u after : State Guarded) (m : List ℕ)
      → Covers code from to m u.memory → ByOutcome guarded busy u after outcome → SameNode code from to items s v
      → SameNode code from to items s (with_outcome outcome v)
  opens-same Prefix busy s v u after m c tells same = same
  opens-same Ran busy s v u after m c tells same = same
  opens-same (Stopped why) busy s v u after m c tells same = same
  opens-same (OpensIn t) busy s v u after m c tells same =
      let allows = allows-refusal code from to m u.memory Input t.pointer t.count c tells.0.block in
      record {
        cpu = same.cpu;
        over = same.over;
        inputs = engines-set (length code) from to v.inputs t.link (Some (opened t)) same.inputs (λ x eq.
            let own : opened t ≡ x = cc in rw (← own) (record { block = allows.block; apart = allows.apart }));
        outputs = same.outputs;
        some = have-set v.inputs t.link (Some (opened t)) same.some (λ x eq. let own : opened t ≡ x = cc in rw (← own) tells.0.count);
      }
  opens-same (OpensOut t) busy s v u after m c tells same =
      let allows = allows-refusal code from to m u.memory Output t.pointer t.count c tells.0.block in
      record {
        cpu = same.cpu;
        over = same.over;
        inputs = same.inputs;
        outputs = engines-set (length code) from to v.outputs t.link (Some (opened t)) same.outputs (λ x eq.
            let own : opened t ≡ x = cc in rw (← own) (record { block = allows.block; apart = allows.apart }));
        some = same.some;
      }

  -- any other byte is the last one of an item
  pub item-ran : (slice : Bool) (clock : ℕ) (s : State (List ℕ)) (v : NodeState Guarded) → SameNode code from to items s v → v.cpu.life
      ≡ Running
      → is_prefix_byte (fetch s.memory s.iptr) ≡ false
      → NodeFollows code from to items (ended (node_step plain_access slice clock (node_with s v)) (node_with s v))
      (ended (item_step (items v.cpu.iptr) (busy v) slice clock v.cpu) v)
  unfolding node_step
  item-ran slice clock s v same is other =
      by_item (items v.cpu.iptr) (item-same code from to items are high (busy v) slice clock s v.cpu (running s v.cpu is same.cpu) other)
    where
      r : Ended (List ℕ)
      r = step plain_access (busy v) slice clock s

      goes : (g : Ended Guarded) → ByOutcome guarded (busy v) v.cpu g.state g.outcome → ItemFollows code from to r g
          → NodeFollows code from to items (ended r (node_with s v)) (ended g v)
      goes g tells (item_stops why stop) = node_stops (record {
        why = why;
        over = with-stage g.outcome (record v { cpu = g.state }) ∙ same.over;
        life = stopped-life g v why stop
            (told-life (busy v) v.cpu g why tells stop);
      })
      goes g tells (item_goes m c is_clear made) = elim (start-same code from to items are high m g.state c is_clear) [
        | inl stop ↦ node_stops (record {
          why = stop.0;
          over = with-stage g.outcome (record v { cpu = g.state }) ∙ same.over;
          life = ap
              (λ (u : State Guarded). u.life) (with-cpu g.outcome (record v { cpu = g.state })) ∙ stop.1;
        })
        | inr cpu ↦ node_same (over_memory m g.state)
            (ap (λ (e : Ended (List ℕ)). ended e (node_with s v)) made
            ∙ with-outcome g.outcome (over_memory m g.state) (record v { cpu = g.state }))
            (opens-same g.outcome (busy v) (over_memory m g.state) (record v { cpu = g.state }) v.cpu g.state same.cpu.memory
            same.cpu.covers tells
            (record { cpu = cpu; over = same.over; inputs = same.inputs; outputs = same.outputs; some = same.some }))
      ]

      by_item : (item : Option (Fun × ℤ)) → ItemFollows code from to r (item_step item (busy v) slice clock v.cpu)
          → NodeFollows code from to items (ended r (node_with s v)) (ended (item_step item (busy v) slice clock v.cpu) v)
      by_item None h = node_stops (record { why = Stray; over = same.over; life = refl })
      by_item (Some item) h =
          let turn : Turn = record {
            following = wrap (v.cpu.iptr + length (coding item.0 item.1));
            busy = busy v;
            slice = slice;
            clock
                = clock;
          } in
          goes (effect guarded item.0 (word_of item.1) turn v.cpu) (effect-tells guarded turn v.cpu item.0 (word_of item.1)) h
