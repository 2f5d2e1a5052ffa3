-- Acts of a processor, and when one is the only one that it allows.
use Rattle.std.specs.Prelude.{◌≡◌, ◌≢◌, ℕ, ◌<◌, ◌⊎◌, Bool, true, false, not, ◌&&◌, Some, None}
use Rattle.tn_network.specs.Holds.{HoldState, entry_of}
use Rattle.tn_network.specs.NodeOps.{NodeOps}

-- a step, of one instruction byte or of a whole instruction; the taking of a byte; the sending of a byte
-- by a link; and the acknowledge of that byte
pub data Act : Type 0 where
  Step : Act
  Takes : (byte : ℕ) → Act
  Sends : (link byte : ℕ) → Act
  Acks : (link : ℕ) → Act

-- what a processor is in a network: its number, the link that it takes bytes by, and where processors
-- are held
pub record Post : Type 0 where
  pub holds : HoldState
  pub processor : ℕ
  pub boot : ℕ

-- a node may step: it runs, and is not held at its entry
abbrev pub may_step : {N : Type 0} → NodeOps N → Post → N → Bool
may_step ops post n = ops.runs n && not (post.holds.held && ops.stands (entry_of post.holds post.processor) n)

-- it offers no byte, and it wants none
abbrev pub OffersNone : {N : Type 0} → NodeOps N → N → Type 0
OffersNone ops n = (l : ℕ) → l < 4 → ops.offers l n ≡ None

abbrev pub WantsNone : {N : Type 0} → NodeOps N → N → Type 0
WantsNone ops n = (l : ℕ) → l < 4 → ops.wants l n ≡ false

-- it wants a byte of one link alone, or one of any link, as after power-up
abbrev pub WantsAlone : {N : Type 0} → NodeOps N → ℕ → N → Type 0
WantsAlone ops k n = ((l : ℕ) → l < 4 → l ≢ k → ops.wants l n ≡ false) ⊎ ((l : ℕ) → l < 4 → ops.wants l n ≡ true)

-- it does nothing but step
pub record OnlySteps {N : Type 0} (ops : NodeOps N) (post : Post) (n : N) : Type 0 where
  pub may : may_step ops post n ≡ true
  pub wants : WantsNone ops n
  pub offers : OffersNone ops n

-- it does nothing but take a byte
pub record OnlyTakes {N : Type 0} (ops : NodeOps N) (post : Post) (n : N) : Type 0 where
  pub still : may_step ops post n ≡ false
  pub wants : ops.wants post.boot n ≡ true
  pub alone : WantsAlone ops post.boot n
  pub offers : OffersNone ops n

-- it does nothing but send by one link, and wait there for the acknowledge
pub record OnlySends {N : Type 0} (ops : NodeOps N) (post : Post) (link : ℕ) (n : N) : Type 0 where
  pub low : link < 4
  pub still : may_step ops post n ≡ false
  pub wants : WantsNone ops n
  pub others : (l : ℕ) → l < 4 → l ≢ link → ops.offers l n ≡ None

-- an act is the only one that a node allows, and leads to another node, whatever the timeslice and clock
abbrev pub Does : {N : Type 0} → NodeOps N → Post → Act → N → N → Type 0
Does ops post Step n t = OnlySteps ops post n × ((slice : Bool) (clock : ℕ) → ops.run post.processor slice clock n ≡ t)
Does ops post (Takes byte) n t = OnlyTakes ops post n × (ops.take post.boot byte n ≡ t)
Does ops post (Sends l byte) n t = OnlySends ops post l n × (ops.offers l n ≡ Some byte) × (ops.send l n ≡ t)
Does ops post (Acks l) n t =
    OnlySends ops post l n × (ops.offers l n ≡ None) × (ops.awaits l n ≡ true) × (ops.acknowledge l n ≡ t)

-- a node does nothing more by itself: it is held or does not run, and it offers nothing
pub record HasEnded {N : Type 0} (ops : NodeOps N) (post : Post) (n : N) : Type 0 where
  pub still : may_step ops post n ≡ false
  pub offers : OffersNone ops n
