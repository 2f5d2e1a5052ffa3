-- What a node allows that allows one kind of act only.
use Rattle.std.proofs.Common.{◌≡◌, ◌≢◌, ℕ, ◌==◌, ◌<◌, Bool, true, false, List, Option, Some, None, refl, sym, ◌∙◌, arith}
use Rattle.std.specs.Prelude.{◌&&◌, is_some, not}
use Rattle.std.proofs.lemmas.Bool.Decides.{nat_tests}
use Rattle.tn_mem.specs.Spaces.{Access}
use Rattle.tn_node.specs.declared.engines.Engine.{Engine}
use Rattle.tn_node.specs.declared.modes.Stage.{Stage}
use Rattle.tn_node.specs.declared.modes.Stage.TheVariants.{Reset, Poking, Peeking, Replying, Booting, Refused, Over}
use Rattle.tn_node.specs.Engines.{engine_of}
use Rattle.tn_node.specs.Nodes.{NodeState, is_over}
use Rattle.tn_node.specs.Links.{wants, offers, output_byte, is_sent, awaits}
use Rattle.tn_load.specs.Inner.NodeActs.{is_closed, all_shut, alone_at, only_at, only_steps, only_takes, only_takes_at, only_sends}
use Rattle.tn_load.proofs.Leading.{each_link}

-- what a node does with its links: it takes no byte, offers none, and waits for no acknowledge there
pub record IsMute {M : Type 0} (access : Access M) (n : NodeState M) (l : ℕ) : Type 0 where
  pub takes_none : wants l n ≡ false
  pub offers_none : offers access l n ≡ None
  pub awaits_none : awaits l n ≡ false

both : (a b : Bool) → a && b ≡ true → (a ≡ true) × (b ≡ true)
both true b e = (refl, e)
both false b e = cc

over : (s : Stage) → is_over s ≡ true → s ≡ Over
over Over e = refl
over Reset e = cc
over Poking e = cc
over Peeking e = cc
over Replying e = cc
over Booting e = cc
over (Refused why) e = cc

closed : (e : Option Engine) → is_closed e ≡ true → e ≡ None
closed None h = refl
closed (Some e) h = cc

shut : (engines : List (Option Engine)) → all_shut engines ≡ true → (l : ℕ) → l < 4 → engine_of engines l ≡ None
shut engines h =
    let a = both _ _ h in
    let b = both _ _ a.1 in
    let c = both _ _ b.1 in
    each_link (λ l. engine_of engines l ≡ None) (closed _ a.0) (closed _ b.0) (closed _ c.0) (closed _ c.1)

-- a node that steps alone is mute at each link
pub steps-mute : {M : Type 0} (access : Access M) (n : NodeState M) → only_steps n ≡ true → (l : ℕ) → l < 4 → IsMute access n l
unfolding offers
steps-mute access n h l link =
    let a = both _ _ h in
    let b = both _ _ a.1 in
    let c = both _ _ b.1 in
    let d = both _ _ c.1 in
    let stage = over n.stage a.0 in
    let ins = shut n.inputs d.0 l link in
    let outs = shut n.outputs d.1 l link in
    record { takes_none = rw (stage, ins) refl; offers_none = rw (stage, outs) refl; awaits_none = rw (stage, outs) refl }

-- of each link, whether its engine is open
alone : (k l : ℕ) (e : Option Engine) → alone_at k l e ≡ true → is_some e ≡ (l == k)
alone k l (Some e) h = sym h
alone k l None h = negated (l == k) h
  where
    negated : (b : Bool) → not b ≡ true → false ≡ b
    negated true e = cc
    negated false e = refl

only : (engines : List (Option Engine)) (k : ℕ) → only_at k engines ≡ true → (l : ℕ) → l < 4 → is_some (engine_of engines l) ≡ (l == k)
only engines k h =
    let a = both _ _ h in
    let b = both _ _ a.1 in
    let c = both _ _ b.1 in
    each_link (λ l. is_some (engine_of engines l) ≡ (l == k)) (alone k 0 _ a.0) (alone k 1 _ b.0) (alone k 2 _ c.0) (alone k 3 _ c.1)

-- a node that only takes on its boot link runs nothing, offers nothing and waits for no acknowledge; and
-- wants bytes of its boot link alone, but in reset
pub record IsTaker {M : Type 0} (access : Access M) (k : ℕ) (n : NodeState M) (l : ℕ) : Type 0 where
  pub wants_own : l ≡ k → wants l n ≡ true
  pub wants_other : n.stage ≢ Reset → l ≢ k → wants l n ≡ false
  pub offers_none : offers access l n ≡ None
  pub awaits_none : awaits l n ≡ false

pub takes-taker : {M : Type 0} (access : Access M) (k : ℕ) (n : NodeState M) → only_takes k n ≡ true → (l : ℕ) → l < 4
    → IsTaker access k n l
unfolding offers
takes-taker access k n h l link = go n.stage refl h
  where
    same : l ≡ k → l == k ≡ true
    same e = grind (arith, nat_tests)

    other : l ≢ k → l == k ≡ false
    other e = grind (arith, nat_tests)

    go : (s : Stage) → n.stage ≡ s → only_takes_at s k n ≡ true → IsTaker access k n l
    go Reset e t =
        let outs = shut n.outputs (both _ _ t).1 l link in
        record {
          wants_own = λ q. rw e refl;
          wants_other = λ q r. absurd (q e);
          offers_none = rw (e, outs) refl;
          awaits_none = rw (e, outs) refl;
        }
    go Poking e t =
        let a = both _ _ t in
        let outs = shut n.outputs (both _ _ a.1).1 l link in
        let at : k ≡ n.expects.link = grind (arith, nat_tests) in
        record {
          wants_own = λ q. rw (e, ← at) (same q);
          wants_other = λ q r. rw (e, ← at) (other r);
          offers_none = rw (e, outs) refl;
          awaits_none = rw (e, outs) refl;
        }
    go Peeking e t =
        let a = both _ _ t in
        let outs = shut n.outputs (both _ _ a.1).1 l link in
        let at : k ≡ n.expects.link = grind (arith, nat_tests) in
        record {
          wants_own = λ q. rw (e, ← at) (same q);
          wants_other = λ q r. rw (e, ← at) (other r);
          offers_none = rw (e, outs) refl;
          awaits_none = rw (e, outs) refl;
        }
    go Booting e t =
        let a = both _ _ t in
        let outs = shut n.outputs (both _ _ a.1).1 l link in
        let at : k ≡ n.expects.link = grind (arith, nat_tests) in
        record {
          wants_own = λ q. rw (e, ← at) (same q);
          wants_other = λ q r. rw (e, ← at) (other r);
          offers_none = rw (e, outs) refl;
          awaits_none = rw (e, outs) refl;
        }
    go Replying e t = cc
    go (Refused why) e t = cc
    go Over e t =
        let a = both _ _ t in
        let b = both _ _ a.1 in
        let outs = shut n.outputs b.0 l link in
        let ins = only n.inputs k b.1 l link in
        record {
          wants_own = λ q. rw e (ins ∙ same q);
          wants_other = λ q r. rw e (ins ∙ other r);
          offers_none = rw (e, outs) refl;
          awaits_none = rw (e, outs) refl;
        }

-- a node that only sends by a link takes nothing, and is silent on all other links
pub record IsSender {M : Type 0} (access : Access M) (link : ℕ) (n : NodeState M) (l : ℕ) : Type 0 where
  pub takes_none : wants l n ≡ false
  pub offers_none : l ≢ link → offers access l n ≡ None
  pub awaits_none : l ≢ link → awaits l n ≡ false

pub sends-sender : {M : Type 0} (access : Access M) (m : ℕ) (n : NodeState M) → only_sends m n ≡ true → (l : ℕ) → l < 4
    → IsSender access m n l
unfolding offers
sends-sender access m n h l link =
    let a = both _ _ h in
    let b = both _ _ a.1 in
    let c = both _ _ b.1 in
    let stage = over n.stage a.0 in
    let ins = shut n.inputs c.0 l link in
    let outs = only n.outputs m c.1 l link in
    record {
      takes_none = rw (stage, ins) refl;
      offers_none = λ q. rw stage (nothing (engine_of n.outputs l) (outs ∙ differ q));
      awaits_none = λ q. rw stage (unsent (engine_of n.outputs l) (outs ∙ differ q));
    }
  where
    differ : l ≢ m → l == m ≡ false
    differ e = grind (arith, nat_tests)

    nothing : (e : Option Engine) → is_some e ≡ false → output_byte access n.cpu.memory e ≡ None
    nothing None e = refl
    nothing (Some x) e = cc

    unsent : (e : Option Engine) → is_some e ≡ false → is_sent e ≡ false
    unsent None e = refl
    unsent (Some x) e = cc
