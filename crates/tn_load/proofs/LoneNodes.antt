-- The lone run of a node over a space is a lone run of it in any network.
use Rattle.std.proofs.Common.{◌≡◌, ◌≢◌, inl, inr, ℕ, ◌==◌, ◌<◌, ◌≤◌, Bool, true, false, List, [], ◌∷◌, refl}
use Rattle.std.proofs.Common.{arith}
use Rattle.std.specs.Prelude.{◌&&◌, not, nat_lt}
use Rattle.std.proofs.lemmas.Bool.Decides.{nat_tests}
use Rattle.tn_word.specs.Words.{load_base}
use Rattle.tn_mem.specs.Spaces.{Access}
use Rattle.tn_cpu.specs.declared.outcomes.Life.{Life}
use Rattle.tn_cpu.specs.declared.outcomes.Life.TheVariants.{Running, Idle, Stopped}
use Rattle.tn_node.specs.declared.modes.Stage.{Stage}
use Rattle.tn_node.specs.declared.modes.Stage.TheVariants.{Reset, Poking, Peeking, Replying, Booting, Refused, Over}
use Rattle.tn_node.specs.Nodes.{NodeState, is_over, mode_of}
use Rattle.tn_node.proofs.Awaiting.{awaits-offers}
use Rattle.tn_network.specs.Holds.{HoldState, entry_of}
use Rattle.tn_network.specs.NodeOps.{NodeOps, is_running as runs_in, stands_at, node_ops}
use Rattle.tn_load.specs.Acts.{Act, Post, WantsAlone, OnlySteps, OnlyTakes, OnlySends, Does}
use Rattle.tn_load.specs.Acts.Act.{Step, Takes, Sends, Acks}
use Rattle.tn_load.specs.LoneRuns.{Lone}
use Rattle.tn_load.specs.Inner.NodeActs.{is_running, is_idle, only_steps, only_takes, only_takes_at, only_sends, NodeDoes, NodeLone}
use Rattle.tn_load.proofs.Allows.{steps-mute, takes-taker, sends-sender}

both : (a b : Bool) → a && b ≡ true → (a ≡ true) × (b ≡ true)
both true b e = (refl, e)
both false b e = cc

over : (s : Stage) → is_over s ≡ true → s ≡ Over
over Over e = refl
over Reset e = cc
over Poking e = cc
over Peeking e = cc
over Replying e = cc
over Booting e = cc
over (Refused why) e = cc

runs_life : (life : Life) → is_running life ≡ true → life ≡ Running
runs_life Running e = refl
runs_life Idle e = cc
runs_life (Stopped why) e = cc

idle_life : (life : Life) → is_idle life ≡ true → life ≡ Idle
idle_life Idle e = refl
idle_life Running e = cc
idle_life (Stopped why) e = cc

not_held : (runs held stands : Bool) → runs ≡ true → stands ≡ false → runs && not (held && stands) ≡ true
not_held true true false r s = refl
not_held true false false r s = refl
not_held false held stands r s = cc
not_held runs held true r s = cc

still : (runs held stands : Bool) → runs ≡ false → runs && not (held && stands) ≡ false
still false held stands r = refl
still true held stands r = cc

unless_there : (a b c : Bool) → b ≡ false → a && (b && c) ≡ false
unless_there true false c e = refl
unless_there false false c e = refl
unless_there a true c e = cc

-- a node stands at an entry at the end of its acts alone
abbrev pub StandsLast : {M : Type 0} → ℕ → NodeState M → List Act → Type 0
StandsLast entry n [] = Unit {0}
StandsLast entry n (act ∷ acts) = stands_at entry n ≡ false

module _ {M : Type 0} (access : Access M) (holds : HoldState) (p k : ℕ) (link : k < 4) (above : load_base ≤ entry_of holds p) where
  abbrev post : Post
  post = record { holds = holds; processor = p; boot = k }

  abbrev ops : NodeOps (NodeState M)
  ops = node_ops access

  steps-only : (n : NodeState M) → only_steps n ≡ true → OnlySteps ops post n
  steps-only n h =
      let a = both _ _ h in
      let b = both _ _ a.1 in
      let c = both _ _ b.1 in
      let stage : n.stage ≡ Over = over n.stage a.0 in
      let life : n.cpu.life ≡ Running = runs_life n.cpu.life b.0 in
      let runs : runs_in (mode_of n) ≡ true = rw (stage, life) refl in
      let apart : n.cpu.iptr == entry_of holds p ≡ false = elsewhere n.cpu.iptr (entry_of holds p) c.0 above in
      let off : stands_at (entry_of holds p) n ≡ false =
      unless_there (runs_in (mode_of n)) (n.cpu.iptr == entry_of holds p) (n.cpu.oreg == 0) apart in
      record {
        may = not_held (runs_in (mode_of n)) holds.held (stands_at (entry_of holds p) n) runs off;
        wants = λ l low. (steps-mute access n h l low).takes_none;
        offers = λ l low. (steps-mute access n h l low).offers_none;
      }
    where
      elsewhere : (x y : ℕ) → nat_lt x load_base ≡ true → load_base ≤ y → x == y ≡ false
      elsewhere x y less more = grind (arith, nat_tests)

  -- a node that steps, takes or sends is not at its entry
  off-steps : (n : NodeState M) → only_steps n ≡ true → stands_at (entry_of holds p) n ≡ false
  off-steps n h =
      let a = both _ _ h in
      let b = both _ _ a.1 in
      let c = both _ _ b.1 in
      unless_there (runs_in (mode_of n)) (n.cpu.iptr == entry_of holds p) (n.cpu.oreg == 0)
      (elsewhere n.cpu.iptr (entry_of holds p) c.0 above)
    where
      elsewhere : (x y : ℕ) → nat_lt x load_base ≡ true → load_base ≤ y → x == y ≡ false
      elsewhere x y less more = grind (arith, nat_tests)

  off-asleep : (n : NodeState M) → runs_in (mode_of n) ≡ false → stands_at (entry_of holds p) n ≡ false
  off-asleep n asleep = rw asleep refl

  asleep-takes : (n : NodeState M) → only_takes k n ≡ true → runs_in (mode_of n) ≡ false
  asleep-takes n h = go n.stage refl h
    where
      go : (s : Stage) → n.stage ≡ s → only_takes_at s k n ≡ true → runs_in (mode_of n) ≡ false
      go Reset e t = rw e refl
      go Poking e t = rw e refl
      go Peeking e t = rw e refl
      go Booting e t = rw e refl
      go Replying e t = rw e refl
      go (Refused why) e t = rw e refl
      go Over e t = let life : n.cpu.life ≡ Idle = idle_life n.cpu.life (both _ _ t).0 in rw (e, life) refl

  asleep-sends : (l : ℕ) (n : NodeState M) → only_sends l n ≡ true → runs_in (mode_of n) ≡ false
  asleep-sends l n h =
      let a = both _ _ h in
      let stage : n.stage ≡ Over = over n.stage a.0 in
      let life : n.cpu.life ≡ Idle = idle_life n.cpu.life (both _ _ a.1).0 in
      rw (stage, life) refl

  off : (act : Act) (n t : NodeState M) → NodeDoes access k act n t → stands_at (entry_of holds p) n ≡ false
  off Step n t d = off-steps n d.0
  off (Takes byte) n t d = off-asleep n (asleep-takes n d.0)
  off (Sends l byte) n t d = off-asleep n (asleep-sends l n d.1)
  off (Acks l) n t d = off-asleep n (asleep-sends l n d.1)

  takes-only : (n : NodeState M) → only_takes k n ≡ true → OnlyTakes ops post n
  takes-only n h =
      record {
        still = still (runs_in (mode_of n)) holds.held (stands_at (entry_of holds p) n) (asleep n.stage refl h);
        wants = (takes-taker access k n h k link).wants_own refl;
        alone = alone n.stage refl;
        offers = λ l low. (takes-taker access k n h l low).offers_none;
      }
    where
      asleep : (s : Stage) → n.stage ≡ s → only_takes_at s k n ≡ true → runs_in (mode_of n) ≡ false
      asleep Reset e t = rw e refl
      asleep Poking e t = rw e refl
      asleep Peeking e t = rw e refl
      asleep Booting e t = rw e refl
      asleep Replying e t = rw e refl
      asleep (Refused why) e t = rw e refl
      asleep Over e t = let life : n.cpu.life ≡ Idle = idle_life n.cpu.life (both _ _ t).0 in rw (e, life) refl

      other : n.stage ≢ Reset → WantsAlone ops k n
      other booted = inl (λ l low apart. (takes-taker access k n h l low).wants_other booted apart)

      alone : (s : Stage) → n.stage ≡ s → WantsAlone ops k n
      alone Reset e = inr (λ l low. rw e refl)
      alone Poking e = other (λ r. cc (e, r))
      alone Peeking e = other (λ r. cc (e, r))
      alone Booting e = other (λ r. cc (e, r))
      alone Replying e = other (λ r. cc (e, r))
      alone (Refused why) e = other (λ r. cc (e, r))
      alone Over e = other (λ r. cc (e, r))

  sends-only : (l : ℕ) (n : NodeState M) → l < 4 → only_sends l n ≡ true → OnlySends ops post l n
  sends-only l n low h =
      let a = both _ _ h in
      let b = both _ _ a.1 in
      let stage : n.stage ≡ Over = over n.stage a.0 in
      let life : n.cpu.life ≡ Idle = idle_life n.cpu.life b.0 in
      let asleep : runs_in (mode_of n) ≡ false = rw (stage, life) refl in
      record {
        low = low;
        still = still (runs_in (mode_of n)) holds.held (stands_at (entry_of holds p) n) asleep;
        wants = λ m inside. (sends-sender access l n h m inside).takes_none;
        others = λ m inside apart. (sends-sender access l n h m inside).offers_none apart;
      }

  -- an act of a node, in a network
  does : (act : Act) (n t : NodeState M) → NodeDoes access k act n t → Does ops post act n t
  does Step n t d = (steps-only n d.0, d.1)
  does (Takes byte) n t d = (takes-only n d.0, d.1)
  does (Sends l byte) n t d = (sends-only l n d.0 d.1, d.2, d.3)
  does (Acks l) n t d = (sends-only l n d.0 d.1, awaits-offers access n l d.2, d.2, d.3)

  -- a lone run
  pub lone-run : (Q : NodeState M → List Act → Type 0) (acts : List Act) (n end : NodeState M) → NodeLone access k Q acts n end
      → Lone ops post (λ m left. Q m left × StandsLast (entry_of holds p) m left) acts n end
  lone-run Q [] n end run = ((run.0, tt), run.1)
  lone-run Q (act ∷ acts) n end run =
      ((run.0, off act n run.1.0 run.1.1.0), (run.1.0, (does act n run.1.0 run.1.1.0, lone-run Q acts run.1.0 end run.1.1.1)))
