-- Each act of a node keeps what holds of each node.
use Rattle.std.proofs.Common.{◌≡◌, ℕ, zero, suc, ◌+◌, ◌-◌, ◌==◌, ◌<◌, ◌≤◌, ◌⊎◌, inl, inr, Bool, true, false, List, [], ◌∷◌}
use Rattle.std.proofs.Common.{Option, Some, None, Result, Ok, Err, refl, sym, ap, ◌∙◌, subst, arith}
use Rattle.std.specs.Prelude.{slice_set, nat_lt, not, ◌&&◌, IsSome, if◌then◌else◌}
use Rattle.std.proofs.Math.ListN.{length-set}
use Rattle.std.proofs.lemmas.Bool.Decides.{nat_tests}
use Rattle.tn_mem.specs.declared.touches.Touch.{Touch}
use Rattle.tn_mem.specs.Spaces.{Access}
use Rattle.tn_word.specs.Words.{mem_start}
use Rattle.tn_cpu.specs.declared.outcomes.Outcome.{Outcome}
use Rattle.tn_cpu.specs.declared.outcomes.Outcome.TheVariants as outcome
use Rattle.tn_cpu.specs.OutcomeLaws.{OpensLink}
use Rattle.tn_cpu.specs.States.{State, booted}
use Rattle.tn_cpu.specs.Queues.{woken}
use Rattle.tn_cpu.specs.Turns.{Ended, why_of}
use Rattle.tn_node.specs.declared.engines.Engine.{Engine}
use Rattle.tn_node.specs.declared.modes.Expects.{Expects}
use Rattle.tn_node.specs.declared.modes.Stage.{Stage}
use Rattle.tn_node.specs.declared.modes.Stage.TheVariants.{Reset, Poking, Peeking, Replying, Booting, Refused, Over}
use Rattle.tn_node.specs.Engines.{engine_of, moved, opened}
use Rattle.tn_node.specs.Nodes.{NodeState, nothing_expected, all_closed, reset_node, is_over, ExpectsAt, IsUnderWay, IsReply, IsBootstrap}
use Rattle.tn_node.specs.Nodes.{AreInputs, AreOutputs, IsNode}
use Rattle.tn_node.specs.Bootstraps.{began, gathered, refused, poked, poking, peeked, peeking, boot_stored, bootstrapped, with_byte}
use Rattle.tn_node.specs.Links.{is_booting, is_reply, is_reply_at, reply_byte, output_byte, offers, engine_sent, marked_sent}
use Rattle.tn_node.specs.Links.{reply_acknowledged, engine_acknowledged, acknowledged, byte_stored, engine_taken, taken}
use Rattle.tn_node.specs.Runs.{with_outcome, ended}

-- ---- engines

-- after one of them is set, each is that one or as before
pub engine-set : (engines : List (Option Engine)) (l j : ℕ) (x : Option Engine)
    → (engine_of (slice_set engines l x) j ≡ x) ⊎ (engine_of (slice_set engines l x) j ≡ engine_of engines j)
engine-set [] l j x = inr refl
engine-set (e ∷ engines) zero zero x = inl refl
engine-set (e ∷ engines) zero (suc j) x = inr refl
engine-set (e ∷ engines) (suc l) zero x = inr refl
engine-set (e ∷ engines) (suc l) (suc j) x = engine-set engines l j x

pub inputs-set : (engines : List (Option Engine)) (l : ℕ) (x : Option Engine) → AreInputs engines
    → ((e : Engine) → x ≡ Some e → 1 ≤ e.left) → AreInputs (slice_set engines l x)
inputs-set engines l x h one = record {
  four = length-set engines l x ∙ h.four;
  some = λ j e is. elim (engine-set engines l j x) [
    | inl new ↦ one e (sym new ∙ is)
    | inr old ↦ h.some j e (sym old ∙ is)
  ];
}

pub outputs-set : (engines : List (Option Engine)) (l : ℕ) (x : Option Engine) → AreOutputs engines
    → ((e : Engine) → x ≡ Some e → e.sent ≡ false → 1 ≤ e.left) → AreOutputs (slice_set engines l x)
outputs-set engines l x h one = record {
  four = length-set engines l x ∙ h.four;
  some = λ j e is unsent. elim (engine-set engines l j x) [
    | inl new ↦ one e (sym new ∙ is) unsent
    | inr old ↦ h.some j e (sym old ∙ is) unsent
  ];
}

-- none of those at power-up is open
pub engine_of-all_closed : (l : ℕ) → engine_of all_closed l ≡ None
engine_of-all_closed zero = refl
engine_of-all_closed (suc zero) = refl
engine_of-all_closed (suc (suc zero)) = refl
engine_of-all_closed (suc (suc (suc zero))) = refl
engine_of-all_closed (suc (suc (suc (suc l)))) = refl

none_open : (l : ℕ) (e : Engine) → engine_of all_closed l ≡ Some e → ⊥
none_open l e is = let none : None ≡ Some e = sym (engine_of-all_closed l) ∙ is in cc

pub reset-node : {M : Type 0} (cpu : State M) → IsNode (reset_node cpu)
reset-node cpu = record {
  expected = refl;
  link = omega arith;
  inputs = record { four = refl; some = λ l e is. absurd (none_open l e is) };
  outputs = record { four = refl; some = λ l e is unsent. absurd (none_open l e is) };
  closed_inputs = λ before. refl;
  closed_outputs = λ before. refl;
}

-- ---- the bootstrap

-- before its processor is booted a node goes on to a stage with what that expects
pub restaged : {M : Type 0} (n : NodeState M) (cpu : State M) (s : Stage) (e : Expects) → IsNode n → is_over n.stage ≡ false → ExpectsAt s e
    → e.link < 4 → IsNode (record n { cpu = cpu; stage = s; expects = e })
restaged n cpu s e h before expected link = record {
  expected = expected;
  link = link;
  inputs = h.inputs;
  outputs = h.outputs;
  closed_inputs = λ _. h.closed_inputs before;
  closed_outputs = λ _. h.closed_outputs before;
}

-- one byte more is done
pub record IsOneMore (old new : Expects) : Type 0 where
  pub got : new.got ≡ old.got + 1
  pub left : new.left ≡ old.left - 1
  pub link : new.link ≡ old.link
  pub sent : new.sent ≡ old.sent

pub gathered-one_more : (byte : ℕ) (e : Expects) → IsOneMore e (gathered byte e)
gathered-one_more byte e = go (nat_lt e.got 4)
  where
    go : (b : Bool)
        → IsOneMore e (if b then record e {
          address = with_byte e.got byte e.address;
          got = e.got + 1;
          left = e.left - 1;
        } else record e { word = with_byte (e.got - 4) byte e.word; got = e.got + 1; left = e.left - 1 })
    go true = record { got = refl; left = refl; link = refl; sent = refl }
    go false = record { got = refl; left = refl; link = refl; sent = refl }

-- a poke or a peek with one byte more, which is not the last
under_way-more : (bytes : ℕ) (old new : Expects) → IsUnderWay bytes old → IsOneMore old new → new.left == 0 ≡ false → IsUnderWay bytes new
under_way-more bytes old new h more test = record {
  all = omega (arith, h.all, h.some, more.got, more.left);
  some = not_last new.left test;
  unsent = more.sent ∙ h.unsent;
}
  where
    not_last : (x : ℕ) → x == 0 ≡ false → 1 ≤ x
    not_last x e = grind (arith, nat_tests)

module _ {M : Type 0} (n : NodeState M) (h : IsNode n) where
  -- what it expects at the stage where it is
  at_stage : (s : Stage) → n.stage ≡ s → ExpectsAt s n.expects
  at_stage s is = subst (λ x. ExpectsAt x n.expects) is h.expected

  before_over : (s : Stage) → n.stage ≡ s → is_over s ≡ false → is_over n.stage ≡ false
  before_over s is e = ap is_over is ∙ e

  pub refused-node : (touch : Touch) → is_over n.stage ≡ false → IsNode (refused touch n)
  refused-node touch before = restaged n n.cpu (Refused (why_of touch)) nothing_expected h before refl (omega arith)

  pub began-node : (l control : ℕ) → n.stage ≡ Reset → l < 4 → control < 256 → IsNode (began l control n)
  began-node l control is link byte = go (control == 0) (control == 1) refl refl
    where
      before : is_over n.stage ≡ false
      before = before_over Reset is refl

      longer : (x : ℕ) → x == 0 ≡ false → x == 1 ≡ false → 2 ≤ x
      longer x e f = grind (arith, nat_tests)

      go : (b c : Bool) → control == 0 ≡ b → control == 1 ≡ c
          → IsNode (record n {
            stage = if b then Poking else (if c then Peeking else Booting);
            expects = record nothing_expected { link = l; left = if b then 8 else (if c then 4 else control) };
          })
      go true c e f =
          restaged n n.cpu Poking (record nothing_expected { link = l; left = 8 }) h before
          (record { all = refl; some = omega arith; unsent = refl }) link
      go false true e f =
          restaged n n.cpu Peeking (record nothing_expected { link = l; left = 4 }) h before
          (record { all = refl; some = omega arith; unsent = refl }) link
      go false false e f =
          let least : 2 ≤ control = longer control e f in
          restaged n n.cpu Booting (record nothing_expected { link = l; left = control }) h before
          (record { least = omega (arith, least); most = omega (arith, byte); some = omega (arith, least); unsent = refl }) link

  -- a poke or a peek with one byte more
  under_way-node : (bytes : ℕ) (s : Stage) (new : Expects) → n.stage ≡ s → is_over s ≡ false → ExpectsAt s new → new.link ≡ n.expects.link
      → IsNode (record n { expects = new })
  under_way-node bytes s new is e expected link =
      restaged n n.cpu n.stage new h (before_over s is e) (subst (λ x. ExpectsAt x new) (sym is) expected)
      (subst (λ l. l < 4) (sym link) h.link)

  pub poked-node : (r : Result M Touch) → n.stage ≡ Poking → IsNode (poked r n)
  poked-node (Ok m) is = restaged n (record n.cpu { memory = m }) Reset nothing_expected h (before_over Poking is refl) refl (omega arith)
  poked-node (Err touch) is = refused-node touch (before_over Poking is refl)

  pub poking-node : (access : Access M) (byte : ℕ) → n.stage ≡ Poking → IsNode (poking access (gathered byte n.expects) n)
  poking-node access byte is = go (new.left == 0) refl
    where
      new : Expects
      new = gathered byte n.expects

      go : (b : Bool) → new.left == 0 ≡ b → IsNode (if b then poked
          (access.set_word n.cpu.memory new.address new.word) n else record n { expects = new })
      go true e = poked-node (access.set_word n.cpu.memory new.address new.word) is
      go false e =
          let more : IsOneMore n.expects new = gathered-one_more byte n.expects in
          under_way-node 8 Poking new is refl (under_way-more 8 n.expects new (at_stage Poking is) more e) more.link

  pub peeked-node : (r : Result ℕ Touch) (l address : ℕ) → n.stage ≡ Peeking → l < 4 → IsNode (peeked r l address n)
  peeked-node (Ok word) l address is link =
      restaged n n.cpu Replying (record { link = l; got = 0; left = 4; address = address; word = word; sent = false }) h
      (before_over Peeking is refl)
      (record { all = refl; some = λ _. omega arith; begun = λ e. cc }) link
  peeked-node (Err touch) l address is link = refused-node touch (before_over Peeking is refl)

  pub peeking-node : (access : Access M) (byte : ℕ) → n.stage ≡ Peeking → IsNode (peeking access (gathered byte n.expects) n)
  peeking-node access byte is = go (new.left == 0) refl
    where
      new : Expects
      new = gathered byte n.expects

      more : IsOneMore n.expects new
      more = gathered-one_more byte n.expects

      go : (b : Bool) → new.left == 0 ≡ b
          → IsNode (if b then peeked (access.word n.cpu.memory new.address) new.link new.address n else record n { expects = new })
      go true e = peeked-node (access.word n.cpu.memory new.address) new.link new.address is (subst (λ l. l < 4) (sym more.link) h.link)
      go false e = under_way-node 4 Peeking new is refl (under_way-more 4 n.expects new (at_stage Peeking is) more e) more.link

  pub boot_stored-node : (r : Result M Touch) → n.stage ≡ Booting → IsNode (boot_stored r n.expects n)
  boot_stored-node (Err touch) is = refused-node touch (before_over Booting is refl)
  boot_stored-node (Ok m) is = go (n.expects.left == 1) refl
    where
      b : IsBootstrap n.expects
      b = at_stage Booting is

      not_last : (x : ℕ) → 1 ≤ x → x == 1 ≡ false → 2 ≤ x
      not_last x some e = grind (arith, nat_tests)

      go : (t : Bool) → n.expects.left == 1 ≡ t → IsNode (if t then record n {
        cpu = booted (n.expects.got + 1)
            (record n.cpu { memory = m });
        stage = Over;
        expects = nothing_expected;
      } else record n {
        cpu = record n.cpu { memory = m };
        expects = record n.expects { got = n.expects.got + 1; left = n.expects.left - 1 };
      })
      go true e =
          restaged n (booted (n.expects.got + 1) (record n.cpu { memory = m })) Over nothing_expected h (before_over Booting is refl) refl
          (omega arith)
      go false e =
          let more : 2 ≤ n.expects.left = not_last n.expects.left b.some e in
          let new : Expects = record n.expects { got = n.expects.got + 1; left = n.expects.left - 1 } in
          restaged n (record n.cpu { memory = m }) n.stage new h (before_over Booting is refl)
          (subst (λ x. ExpectsAt x new) (sym is) (record {
            least = omega (arith, b.least, more);
            most = omega (arith, b.most, more);
            some = omega (arith, more);
            unsent = b.unsent;
          })) h.link

  -- ---- links

  -- an engine that is open shows that its processor was booted
  open_input : (l : ℕ) (e : Engine) → engine_of n.inputs l ≡ Some e → is_over n.stage ≡ false → ⊥
  open_input l e is before = none_open l e (ap (λ x. engine_of x l) (sym (h.closed_inputs before)) ∙ is)

  open_output : (l : ℕ) (e : Engine) → engine_of n.outputs l ≡ Some e → is_over n.stage ≡ false → ⊥
  open_output l e is before = none_open l e (ap (λ x. engine_of x l) (sym (h.closed_outputs before)) ∙ is)

  pub with_input : (cpu : State M) (l : ℕ) (x : Option Engine) → (is_over n.stage ≡ false → ⊥) → ((e : Engine) → x ≡ Some e → 1 ≤ e.left)
      → IsNode (record n { cpu = cpu; inputs = slice_set n.inputs l x })
  with_input cpu l x over some = record {
    expected = h.expected;
    link = h.link;
    inputs = inputs-set n.inputs l x h.inputs some;
    outputs = h.outputs;
    closed_inputs = λ before. absurd (over before);
    closed_outputs = λ before. absurd (over before);
  }

  pub with_output : (cpu : State M) (l : ℕ) (x : Option Engine) → (is_over n.stage ≡ false → ⊥)
      → ((e : Engine) → x ≡ Some e → e.sent ≡ false → 1 ≤ e.left) → IsNode (record n { cpu = cpu; outputs = slice_set n.outputs l x })
  with_output cpu l x over some = record {
    expected = h.expected;
    link = h.link;
    inputs = h.inputs;
    outputs = outputs-set n.outputs l x h.outputs some;
    closed_inputs = λ before. absurd (over before);
    closed_outputs = λ before. absurd (over before);
  }

  some_same : (e f : Engine) → Some e ≡ Some f → e ≡ f
  some_same e f is = cc

  pub engine_taken-node : (access : Access M) (l byte : ℕ) (x : Option Engine) → engine_of n.inputs l ≡ x
      → IsNode (engine_taken access l byte x n)
  engine_taken-node access l byte None is = h
  engine_taken-node access l byte (Some e) is = go (e.left == 1) refl
    where
      not_last : (x : ℕ) → 1 ≤ x → x == 1 ≡ false → 2 ≤ x
      not_last x some t = grind (arith, nat_tests)

      go : (t : Bool) → e.left == 1 ≡ t → IsNode (if t then record n {
        inputs = slice_set n.inputs l None;
        cpu = woken access e.process (byte_stored access e.pointer byte n.cpu);
      } else record n {
        inputs = slice_set n.inputs l
            (Some (moved e));
        cpu = byte_stored access e.pointer byte n.cpu;
      })
      go true t = with_input (woken access e.process (byte_stored access e.pointer byte n.cpu)) l None (open_input l e is) (λ f bad. cc)
      go false t =
          let more : 2 ≤ e.left = not_last e.left (h.inputs.some l e is) t in
          with_input (byte_stored access e.pointer byte n.cpu) l (Some (moved e)) (open_input l e is)
          (λ f new. subst (λ (x : Engine). 1 ≤ x.left) (some_same (moved e) f new) (omega (arith, more)))

  -- a byte that comes in
  pub taken-node : (access : Access M) (l byte : ℕ) → l < 4 → byte < 256 → IsNode (taken access l byte n)
  unfolding taken bootstrapped
  taken-node access l byte link small = go n.stage refl
    where
      go : (s : Stage) → n.stage ≡ s → IsNode (if is_booting s then bootstrapped access s l byte n else engine_taken access l byte
          (engine_of n.inputs l) n)
      go Reset is = began-node l byte is link small
      go Poking is = poking-node access byte is
      go Peeking is = peeking-node access byte is
      go Booting is = boot_stored-node (access.set_byte n.cpu.memory (mem_start + n.expects.got) byte) is
      go Replying is = h
      go (Refused why) is = engine_taken-node access l byte (engine_of n.inputs l) refl
      go Over is = engine_taken-node access l byte (engine_of n.inputs l) refl

  -- a link of a reply
  pub replying : (l : ℕ) → is_reply l n ≡ true → n.stage ≡ Replying
  replying l = go n.stage
    where
      go : (s : Stage) → is_reply_at s l n.expects.link ≡ true → s ≡ Replying
      go Replying e = refl
      go Reset e = cc
      go Poking e = cc
      go Peeking e = cc
      go Booting e = cc
      go (Refused why) e = cc
      go Over e = cc

  -- a byte that goes out
  pub marked_sent-node : (access : Access M) (l : ℕ) → IsSome (offers access l n) → IsNode (marked_sent l n)
  unfolding offers marked_sent
  marked_sent-node access l = go (is_reply l n) refl
    where
      both : (a b : Bool) (x : ℕ) → IsSome (if a && not b then Some x else None) → (a ≡ true) × (b ≡ false)
      both true false x some = (refl, refl)
      both true true x some = cc
      both false b x some = cc

      below : (x : ℕ) → nat_lt x 4 ≡ true → x < 4
      below x t = grind (arith, nat_tests)

      engine : (x : Option Engine) → engine_of n.outputs l ≡ x → IsSome (output_byte access n.cpu.memory x)
          → IsNode (record n { outputs = slice_set n.outputs l (engine_sent x) })
      engine None is some = cc
      engine (Some e) is some =
          with_output n.cpu l (engine_sent (Some e)) (open_output l e is)
          (λ f new unsent. let same : true ≡ f.sent = ap (λ (x : Engine). x.sent) (some_same (record (moved e) { sent = true }) f new) in
          let bad : true ≡ false = same ∙ unsent in cc)

      go : (r : Bool) → is_reply l n ≡ r
          → IsSome (if r then reply_byte n.expects else output_byte access n.cpu.memory (engine_of n.outputs l))
          → IsNode (if r then record n { expects = record n.expects { got = n.expects.got + 1; left = n.expects.left - 1; sent = true } }
          else record n { outputs = slice_set n.outputs l (engine_sent (engine_of n.outputs l)) })
      go true is some =
          let at : n.stage ≡ Replying = replying l is in
          let reply : IsReply n.expects = at_stage Replying at in
          let tests = both (nat_lt n.expects.got 4) n.expects.sent _ some in
          let few : n.expects.got < 4 = below n.expects.got tests.0 in
          let new : Expects = record n.expects { got = n.expects.got + 1; left = n.expects.left - 1; sent = true } in
          restaged n n.cpu n.stage new h (before_over Replying at refl)
          (subst (λ s. ExpectsAt s new) (sym at) (record {
            all = omega (arith, reply.all, few);
            some = λ e. cc;
            begun = λ e. omega arith;
          })) h.link
      go false is some = engine (engine_of n.outputs l) refl some

  pub reply_acknowledged-node : n.stage ≡ Replying → IsNode (reply_acknowledged n)
  reply_acknowledged-node at = go (n.expects.got == 4) refl
    where
      reply : IsReply n.expects
      reply = at_stage Replying at

      some_left : (got left : ℕ) → got + left ≡ 4 → got == 4 ≡ false → 1 ≤ left
      some_left got left all t = grind (arith, nat_tests)

      go : (t : Bool) → n.expects.got == 4 ≡ t
          → IsNode (if t then record n { stage = Reset; expects = nothing_expected } else record
          n { expects = record n.expects { sent = false } })
      go true t = restaged n n.cpu Reset nothing_expected h (before_over Replying at refl) refl (omega arith)
      go false t =
          let new : Expects = record n.expects { sent = false } in
          restaged n n.cpu n.stage new h (before_over Replying at refl)
          (subst (λ s. ExpectsAt s new) (sym at) (record {
            all = reply.all;
            some = λ e. some_left n.expects.got n.expects.left reply.all t;
            begun = λ e. cc;
          }))
          h.link

  pub engine_acknowledged-node : (access : Access M) (l : ℕ) (x : Option Engine) → engine_of n.outputs l ≡ x
      → IsNode (engine_acknowledged access l x n)
  engine_acknowledged-node access l None is = h
  engine_acknowledged-node access l (Some e) is = go (e.left == 0) refl
    where
      some_left : (x : ℕ) → x == 0 ≡ false → 1 ≤ x
      some_left x t = grind (arith, nat_tests)

      go : (t : Bool) → e.left == 0 ≡ t → IsNode (if t then record n {
        outputs = slice_set n.outputs l None;
        cpu = woken access e.process n.cpu;
      } else record n { outputs = slice_set n.outputs l (Some (record e { sent = false })) })
      go true t = with_output (woken access e.process n.cpu) l None (open_output l e is) (λ f bad unsent. cc)
      go false t =
          with_output n.cpu l (Some (record e { sent = false })) (open_output l e is)
          (λ f new unsent. subst (λ (x : Engine). 1 ≤ x.left) (some_same (record e { sent = false }) f new) (some_left e.left t))

  -- an acknowledge
  pub acknowledged-node : (access : Access M) (l : ℕ) → IsNode (acknowledged access l n)
  unfolding acknowledged
  acknowledged-node access l = go (is_reply l n) refl
    where
      go : (r : Bool) → is_reply l n ≡ r → IsNode (if r then reply_acknowledged n else engine_acknowledged access l
          (engine_of n.outputs l) n)
      go true is = reply_acknowledged-node (replying l is)
      go false is = engine_acknowledged-node access l (engine_of n.outputs l) refl

  -- ---- steps

  -- a processor that was booted
  over : n.stage ≡ Over → is_over n.stage ≡ false → ⊥
  over at before = let e : is_over n.stage ≡ true = ap is_over at in cc

  pub with_cpu : (cpu : State M) → IsNode (record n { cpu = cpu })
  with_cpu cpu = record {
    expected = h.expected;
    link = h.link;
    inputs = h.inputs;
    outputs = h.outputs;
    closed_inputs = h.closed_inputs;
    closed_outputs = h.closed_outputs;
  }

  pub ended-node : (e : Ended M) → n.stage ≡ Over → OpensLink e.outcome → IsNode (ended e n)
  ended-node e at = go e.outcome
    where
      go : (o : Outcome) → OpensLink o → IsNode (with_outcome o (record n { cpu = e.state }))
      go outcome.Prefix opens = with_cpu e.state
      go outcome.Ran opens = with_cpu e.state
      go (outcome.OpensIn t) opens =
          with_input e.state t.link (Some (opened t)) (over at)
          (λ f new. subst (λ (x : Engine). 1 ≤ x.left) (some_same (opened t) f new) (omega (arith, opens.count)))
      go (outcome.OpensOut t) opens =
          with_output e.state t.link (Some (opened t)) (over at)
          (λ f new unsent. subst (λ (x : Engine). 1 ≤ x.left) (some_same (opened t) f new) (omega (arith, opens.count)))
      go (outcome.Stopped why) opens = with_cpu e.state
