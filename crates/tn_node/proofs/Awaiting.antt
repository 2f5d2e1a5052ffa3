-- What each act of a node does to the bytes that are not acknowledged.
use Rattle.std.proofs.Common.{◌≡◌, ◌≢◌, ℕ, zero, suc, ◌+◌, ◌-◌, ◌==◌, ◌≤◌, Bool, true, false, List, [], ◌∷◌}
use Rattle.std.proofs.Common.{Option, Some, None, Result, Ok, Err, refl, sym, ap, ◌∙◌, arith}
use Rattle.std.specs.Prelude.{slice_set, slice_index_or, nat_lt, not, ◌&&◌, if◌then◌else◌}
use Rattle.std.specs.Int.{w32, to_le_bytes}
use Rattle.std.specs.Result.{result_unwrap_or}
use Rattle.std.proofs.lemmas.Bool.Decides.{nat_tests}
use Rattle.tn_mem.specs.declared.touches.Touch.{Touch}
use Rattle.tn_mem.specs.Spaces.{Access}
use Rattle.tn_cpu.specs.declared.outcomes.Outcome.{Outcome}
use Rattle.tn_cpu.specs.declared.outcomes.Outcome.TheVariants as outcome
use Rattle.tn_cpu.specs.declared.outcomes.Transfer.{Transfer}
use Rattle.tn_cpu.specs.Turns.{Ended}
use Rattle.tn_node.specs.declared.engines.Engine.{Engine}
use Rattle.tn_node.specs.declared.modes.Stage.{Stage}
use Rattle.tn_node.specs.declared.modes.Stage.TheVariants.{Reset, Poking, Peeking, Replying, Booting, Refused, Over}
use Rattle.tn_node.specs.Engines.{engine_of, opened}
use Rattle.tn_node.specs.Nodes.{NodeState, is_over, IsNode}
use Rattle.tn_node.specs.Bootstraps.{bootstrapped, gathered, poked, peeked, boot_stored}
use Rattle.tn_node.specs.Links.{is_booting, is_reply, is_reply_at, reply_byte, output_byte, offers, engine_sent, marked_sent, is_sent}
use Rattle.tn_node.specs.Links.{awaits}
use Rattle.tn_node.specs.Links.{reply_acknowledged, engine_acknowledged, acknowledged, engine_taken, taken}
use Rattle.tn_node.specs.Runs.{with_outcome, ended}
use Rattle.tn_node.proofs.Keeping.{engine_of-all_closed, replying}

-- before the processor is booted no output engine is open
pub none_before : {M : Type 0} (n : NodeState M) → IsNode n → is_over n.stage ≡ false → (l : ℕ) → engine_of n.outputs l ≡ None
none_before n h before l = ap (λ x. engine_of x l) (h.closed_outputs before) ∙ engine_of-all_closed l

-- ---- one engine among the four

pub set_same : (engines : List (Option Engine)) (l : ℕ) (e : Engine) (new : Option Engine) → engine_of engines l ≡ Some e
    → engine_of (slice_set engines l new) l ≡ new
set_same [] l e new h = cc
set_same (x ∷ rest) zero e new h = refl
set_same (x ∷ rest) (suc l) e new h = set_same rest l e new h

pub set_other : (engines : List (Option Engine)) (l m : ℕ) (new : Option Engine) → m ≢ l
    → engine_of (slice_set engines l new) m ≡ engine_of engines m
set_other [] l m new h = refl
set_other (x ∷ rest) zero zero new h = absurd (h refl)
set_other (x ∷ rest) zero (suc m) new h = refl
set_other (x ∷ rest) (suc l) zero new h = refl
set_other (x ∷ rest) (suc l) (suc m) new h = set_other rest l m new (λ e. h (ap suc e))

-- an engine that opens has no byte out
sent-opened : (engines : List (Option Engine)) (i l : ℕ) (e : Engine) → e.sent ≡ false → engine_of engines i ≡ None
    → is_sent (engine_of (slice_set engines i (Some e)) l) ≡ is_sent (engine_of engines l)
sent-opened [] i l e unsent closed = refl
sent-opened (x ∷ rest) zero zero e unsent closed = unsent ∙ sym (ap is_sent closed)
sent-opened (x ∷ rest) zero (suc l) e unsent closed = refl
sent-opened (x ∷ rest) (suc i) zero e unsent closed = refl
sent-opened (x ∷ rest) (suc i) (suc l) e unsent closed = sent-opened rest i l e unsent closed

-- a reply goes by one link, so two links are not both that of a reply
one_reply : {M : Type 0} (n : NodeState M) (l m : ℕ) → m ≢ l → is_reply l n ≡ true → is_reply m n ≡ false
one_reply n l m apart e = go n.stage e
  where
    go : (s : Stage) → is_reply_at s l n.expects.link ≡ true → is_reply_at s m n.expects.link ≡ false
    go Replying e = grind (arith, nat_tests)
    go Reset e = cc
    go Poking e = cc
    go Peeking e = cc
    go Booting e = cc
    go (Refused why) e = cc
    go Over e = cc

-- ---- steps

-- A step whose outcome opens an output engine that was closed, or none, changes no byte that is not
-- acknowledged.
pub ended-awaits : {M : Type 0} (n : NodeState M) (e : Ended M) (l : ℕ)
    → ((t : Transfer) → e.outcome ≡ outcome.OpensOut t → engine_of n.outputs t.link ≡ None) → awaits l (ended e n) ≡ awaits l n
ended-awaits n e l closed = go e.outcome refl
  where
    either : (test : Bool) (x y z : Bool) → y ≡ z → (if test then x else y) ≡ (if test then x else z)
    either true x y z e = refl
    either false x y z e = e

    go : (o : Outcome) → e.outcome ≡ o → awaits l (with_outcome o (record n { cpu = e.state })) ≡ awaits l n
    go outcome.Prefix is = refl
    go outcome.Ran is = refl
    go (outcome.OpensIn t) is = refl
    go (outcome.OpensOut t) is = either (is_reply l n) n.expects.sent _ _ (sent-opened n.outputs t.link l (opened t) refl (closed t is))
    go (outcome.Stopped why) is = refl

-- ---- a byte that goes out

-- it waits for its acknowledge
pub marked_sent-awaits : {M : Type 0} (access : Access M) (n : NodeState M) (l byte : ℕ) → offers access l n ≡ Some byte
    → awaits l (marked_sent l n) ≡ true
unfolding offers marked_sent
marked_sent-awaits access n l byte h = go (is_reply l n) refl h
  where
    engine : (e : Option Engine) → engine_of n.outputs l ≡ e → output_byte access n.cpu.memory e ≡ Some byte
        → is_sent (engine_of (slice_set n.outputs l (engine_sent e)) l) ≡ true
    engine None is e = cc
    engine (Some x) is e = rw (set_same n.outputs l x (engine_sent (Some x)) is) refl

    go : (r : Bool) → is_reply l n ≡ r
        → (if r then reply_byte n.expects else output_byte access n.cpu.memory (engine_of n.outputs l)) ≡ Some byte
        → awaits l (if r then record n {
          expects = record n.expects {
            got = n.expects.got + 1;
            left = n.expects.left - 1;
            sent = true;
          };
        } else record n { outputs = slice_set n.outputs l (engine_sent (engine_of n.outputs l)) }) ≡ true
    go true is e = rw is refl
    go false is e = rw is (engine (engine_of n.outputs l) refl e)

-- and at no other link anything changes
pub marked_sent-others : {M : Type 0} (n : NodeState M) (l m : ℕ) → m ≢ l → awaits m (marked_sent l n) ≡ awaits m n
unfolding marked_sent
marked_sent-others n l m apart = go (is_reply l n) refl
  where
    go : (r : Bool) → is_reply l n ≡ r
        → awaits m (if r then record n {
          expects = record n.expects {
            got = n.expects.got + 1;
            left = n.expects.left - 1;
            sent = true;
          };
        } else record n { outputs = slice_set n.outputs l (engine_sent (engine_of n.outputs l)) }) ≡ awaits m n
    go true is = rw (one_reply n l m apart is) refl
    go false is = rw (set_other n.outputs l m (engine_sent (engine_of n.outputs l)) apart) refl

-- ---- a byte that comes in

-- it changes no byte that is not acknowledged
pub taken-awaits : {M : Type 0} (access : Access M) (n : NodeState M) (k byte l : ℕ) → IsNode n
    → awaits l (taken access k byte n) ≡ awaits l n
unfolding taken bootstrapped
taken-awaits {M = M} access n k byte l h = go n.stage refl
  where
    either : (test : Bool) (x y : NodeState M) (b : Bool) → awaits l x ≡ b → awaits l y ≡ b → awaits l (if test then x else y) ≡ b
    either true x y b e f = e
    either false x y b e f = f

    engine : (e : Option Engine) → awaits l (engine_taken access k byte e n) ≡ awaits l n
    engine None = refl
    engine (Some e) = either (e.left == 1) _ _ (awaits l n) refl refl

    poke : (r : Result M Touch) → n.stage ≡ Poking → awaits l (poked r n) ≡ awaits l n
    poke (Ok m) is = rw is refl
    poke (Err touch) is = rw is refl

    same : (test : Bool) → (if test then false else false) ≡ false
    same true = refl
    same false = refl

    peek : (r : Result ℕ Touch) (x address : ℕ) → n.stage ≡ Peeking → awaits l (peeked r x address n) ≡ awaits l n
    peek (Ok word) x address is = let none = none_before n h (ap is_over is) l in rw (is, none) (same (l == x))
    peek (Err touch) x address is = rw is refl

    boot : (r : Result M Touch) → n.stage ≡ Booting → awaits l (boot_stored r n.expects n) ≡ awaits l n
    boot (Ok m) is = either (n.expects.left == 1) _ _ (awaits l n) (rw is refl) refl
    boot (Err touch) is = rw is refl

    begun : (b c : Bool) (x : ℕ) (y z : Bool) → (if is_reply_at
        (if b then Poking else (if c then Peeking else Booting)) l x then y else z) ≡ z
    begun true c x y z = refl
    begun false true x y z = refl
    begun false false x y z = refl

    go : (s : Stage) → n.stage ≡ s
        → awaits l (if is_booting s then bootstrapped access s k byte n else engine_taken access k byte (engine_of n.inputs k) n)
        ≡ awaits l n
    go Reset is = begun (byte == 0) (byte == 1) k false (is_sent (engine_of n.outputs l)) ∙ rw is refl
    go Poking is =
        either ((gathered byte n.expects).left == 0)
        (poked (access.set_word n.cpu.memory (gathered byte n.expects).address (gathered byte n.expects).word) n)
        (record n { expects = gathered byte n.expects }) (awaits l n) (poke _ is) (rw is refl)
    go Peeking is =
        either ((gathered byte n.expects).left == 0)
        (peeked (access.word n.cpu.memory (gathered byte n.expects).address) (gathered byte n.expects).link
        (gathered byte n.expects).address n)
        (record n { expects = gathered byte n.expects }) (awaits l n) (peek _ _ _ is) (rw is refl)
    go Booting is = boot _ is
    go Replying is = refl
    go (Refused why) is = engine (engine_of n.inputs k)
    go Over is = engine (engine_of n.inputs k)

-- ---- an acknowledge

-- the byte waits no more
pub acknowledged-awaits : {M : Type 0} (access : Access M) (n : NodeState M) (l : ℕ) → IsNode n → awaits l n ≡ true
    → awaits l (acknowledged access l n) ≡ false
unfolding acknowledged
acknowledged-awaits {M = M} access n l h = go (is_reply l n) refl
  where
    either : (test : Bool) (x y : NodeState M) → awaits l x ≡ false → awaits l y ≡ false → awaits l (if test then x else y) ≡ false
    either true x y e f = e
    either false x y e f = f

    reply : is_reply l n ≡ true → awaits l (reply_acknowledged n) ≡ false
    reply is =
        let none = none_before n h (ap is_over (replying n h l is)) l in
        either (n.expects.got == 4) _ _ (rw none refl) (rw is refl)

    engine : (e : Option Engine) → engine_of n.outputs l ≡ e → is_reply l n ≡ false → is_sent e ≡ true
        → awaits l (engine_acknowledged access l e n) ≡ false
    engine None at is sent_out = cc
    engine (Some e) at is sent_out =
        either (e.left == 0) _ _ (rw (is, set_same n.outputs l e None at) refl)
        (rw (is, set_same n.outputs l e (Some (record e { sent = false })) at) refl)

    go : (r : Bool) → is_reply l n ≡ r → (if r then n.expects.sent else is_sent (engine_of n.outputs l)) ≡ true
        → awaits l (if r then reply_acknowledged n else engine_acknowledged access l (engine_of n.outputs l) n) ≡ false
    go true is e = reply is
    go false is e = engine (engine_of n.outputs l) refl is e

-- and at no other link anything changes
pub acknowledged-others : {M : Type 0} (access : Access M) (n : NodeState M) (l m : ℕ) → m ≢ l
    → awaits m (acknowledged access l n) ≡ awaits m n
unfolding acknowledged
acknowledged-others {M = M} access n l m apart = go (is_reply l n) refl
  where
    either : (test : Bool) (x y : NodeState M) (b : Bool) → awaits m x ≡ b → awaits m y ≡ b → awaits m (if test then x else y) ≡ b
    either true x y b e f = e
    either false x y b e f = f

    reply : is_reply l n ≡ true → awaits m (reply_acknowledged n) ≡ awaits m n
    reply is =
        let other = one_reply n l m apart is in
        either (n.expects.got == 4) _ _ (awaits m n) (rw other refl) (rw other refl)

    engine : (e : Option Engine) → awaits m (engine_acknowledged access l e n) ≡ awaits m n
    engine None = refl
    engine (Some e) =
        either (e.left == 0) _ _ (awaits m n) (rw (set_other n.outputs l m None apart) refl)
        (rw (set_other n.outputs l m (Some (record e { sent = false })) apart) refl)

    go : (r : Bool) → is_reply l n ≡ r
        → awaits m (if r then reply_acknowledged n else engine_acknowledged access l (engine_of n.outputs l) n) ≡ awaits m n
    go true is = reply is
    go false is = engine (engine_of n.outputs l)

-- ---- offers

-- a node offers nothing by a link where a byte is not acknowledged
pub awaits-offers : {M : Type 0} (access : Access M) (n : NodeState M) (l : ℕ) → awaits l n ≡ true → offers access l n ≡ None
unfolding offers
awaits-offers access n l h = go (is_reply l n) h
  where
    unless_sent : (b s : Bool) (x : ℕ) → s ≡ true → (if b && not s then Some x else None) ≡ None
    unless_sent true true x e = refl
    unless_sent false true x e = refl
    unless_sent b false x e = cc

    engine : (x : Option Engine) → is_sent x ≡ true → output_byte access n.cpu.memory x ≡ None
    engine None e = refl
    engine (Some x) e = unless_sent (nat_lt 0 x.left) x.sent (result_unwrap_or (access.byte n.cpu.memory x.pointer) 0) e

    go : (r : Bool) → (if r then n.expects.sent else is_sent (engine_of n.outputs l)) ≡ true
        → (if r then reply_byte n.expects else output_byte access n.cpu.memory (engine_of n.outputs l)) ≡ None
    go true e = unless_sent (nat_lt n.expects.got 4) n.expects.sent (slice_index_or (to_le_bytes w32 n.expects.word) n.expects.got 0) e
    go false e = engine (engine_of n.outputs l) e

-- A node that has bytes to send by a link offers one or has one that is not acknowledged: a reply by
-- its link, and an output engine by its own.
pub offers_or_awaits : {M : Type 0} (access : Access M) (n : NodeState M) (l : ℕ) (e : Engine) → IsNode n → engine_of n.outputs l ≡ Some e
    → awaits l n ≡ false → offers access l n ≡ Some (result_unwrap_or (access.byte n.cpu.memory e.pointer) 0)
unfolding offers
offers_or_awaits access n l e h is = go (is_reply l n) refl
  where
    not_reply : is_reply l n ≡ true → ⊥
    not_reply at = let none : engine_of n.outputs l ≡ None = none_before n h (ap is_over (replying n h l at)) l in cc

    some : (x : ℕ) → 1 ≤ x → nat_lt 0 x ≡ true
    some x small = grind (arith, nat_tests)

    by_tests : (b s : Bool) (x : ℕ) → b ≡ true → s ≡ false → (if b && not s then Some x else None) ≡ Some x
    by_tests true false x t u = refl
    by_tests false s x t u = cc
    by_tests true true x t u = cc

    go : (r : Bool) → is_reply l n ≡ r → (if r then n.expects.sent else is_sent (engine_of n.outputs l)) ≡ false
        → (if r then reply_byte n.expects else output_byte access n.cpu.memory (engine_of n.outputs l)) ≡ Some
        (result_unwrap_or (access.byte n.cpu.memory e.pointer) 0)
    go true at t = absurd (not_reply at)
    go false at t =
        let unsent : e.sent ≡ false = ap is_sent (sym is) ∙ t in
        rw is (by_tests (nat_lt 0 e.left) e.sent (result_unwrap_or (access.byte n.cpu.memory e.pointer) 0)
        (some e.left (h.outputs.some l e is unsent)) unsent)
