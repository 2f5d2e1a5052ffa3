-- How a course goes on: what a node allows is the first act of what is left.
use Rattle.std.proofs.Common.{◌≡◌, ◌≢◌, ℕ, ◌<◌, ◌==◌, inl, inr, Bool, true, false, List, [], ◌∷◌, Some, None, refl, sym, ap, subst, ◌∙◌}
use Rattle.std.proofs.Common.{arith}
use Rattle.std.specs.Prelude.{if◌then◌else◌}
use Rattle.std.proofs.lemmas.Bool.{cases_eq}
use Rattle.std.proofs.lemmas.Bool.Decides.{nat_tests}
use Rattle.tn_network.specs.NodeOps.{NodeOps}
use Rattle.tn_network.specs.Holds.{HoldState}
use Rattle.tn_load.specs.Acts.{Act, Post, Does, may_step}
use Rattle.tn_load.specs.Acts.Act.{Step, Takes, Sends, Acks}
use Rattle.tn_load.specs.LoneRuns.{takes_of, is_sending, is_waiting, AreAnswered}
use Rattle.tn_load.specs.Plans.{Moment, Course, first_node, now, acts_of, acts_left, Follow, IsCourse, later, behind, advanced}
use Rattle.tn_load.specs.Shares.{taken_by}

pub same_number : (p : ℕ) → (p == p) ≡ true
same_number p = grind (arith, nat_tests)

pub other_number : (q p : ℕ) → q ≢ p → (q == p) ≡ false
other_number q p apart = grind (arith, nat_tests)

equal_numbers : (q p : ℕ) → (q == p) ≡ true → q ≡ p
equal_numbers q p test = grind (arith, nat_tests)

module _ {N : Type 0} (ops : NodeOps N) (post : Post) where
  -- ---- what the act that a node does must be

  stepping : (act : Act) (n t : N) → Does ops post act n t → may_step ops post n ≡ true → act ≡ Step
  stepping Step n t does may = refl
  stepping (Takes b) n t does may = let still = does.0.still in cc
  stepping (Sends l b) n t does may = let still = does.0.still in cc
  stepping (Acks l) n t does may = let still = does.0.still in cc

  sending : (act : Act) (n t : N) (l byte : ℕ) → l < 4 → Does ops post act n t → ops.offers l n ≡ Some byte → act ≡ Sends l byte
  sending Step n t l byte low does out = let mute = does.0.offers l low in cc
  sending (Takes b) n t l byte low does out = let mute = does.0.offers l low in cc
  sending (Sends m b) n t l byte low does out = elim (cases_eq l m) [
    | inl e ↦ let other : ops.offers l n ≡ Some b = rw e does.1 in cc
    | inr apart ↦ let mute = does.0.others l low apart in cc
  ]
  sending (Acks m) n t l byte low does out = elim (cases_eq l m) [
    | inl e ↦ let mute : ops.offers l n ≡ None = rw e does.1 in cc
    | inr apart ↦ let mute = does.0.others l low apart in cc
  ]

  taking : (act : Act) (acts : List Act) (n t : N) (l byte : ℕ) (bytes : List ℕ) → l < 4 → Does ops post act n t → ops.wants l n ≡ true
      → (if l == post.boot then takes_of (act ∷ acts) else []) ≡ byte ∷ bytes
      → (l ≡ post.boot) × (act ≡ Takes byte) × (takes_of acts ≡ bytes)
  unfolding takes_of
  taking Step acts n t l byte bytes low does wants is = let not_wanted = does.0.wants l low in cc
  taking (Sends m b) acts n t l byte bytes low does wants is = let not_wanted = does.0.wants l low in cc
  taking (Acks m) acts n t l byte bytes low does wants is = let not_wanted = does.0.wants l low in cc
  taking (Takes b) acts n t l byte bytes low does wants is = elim (cases_eq l post.boot) [
    | inl e ↦
        let test : (l == post.boot) ≡ true = rw e (same_number post.boot) in
        let bytes_are : b ∷ takes_of acts ≡ byte ∷ bytes = sym (rw test refl) ∙ is in
        (e, cc, cc)
    | inr apart ↦
        let test : (l == post.boot) ≡ false = other_number l post.boot apart in
        let none : [] ≡ byte ∷ bytes = sym (rw test refl) ∙ is in
        cc
  ]

  none_taken : (l byte : ℕ) (bytes : List ℕ) → (if l == post.boot then takes_of [] else []) ≡ byte ∷ bytes → ⊥
  unfolding takes_of
  none_taken l byte bytes is = go (l == post.boot) is
    where
      go : (test : Bool) → (if test then [] else []) ≡ byte ∷ bytes → ⊥
      go true e = cc
      go false e = cc

  module _ (Q : N → List Act → Type 0) where
    -- ---- and so the first of the moments left

    pub steps-next : (ms : List (Moment N)) (end : N) → Follow ops post Q ms end → may_step ops post (first_node end ms) ≡ true
        → acts_of ms ≡ Step ∷ acts_of (later ms)
    steps-next [] end follow may = let still = follow.1.still in cc
    steps-next (m ∷ ms) end follow may = ap (λ a. a ∷ acts_of ms) (stepping m.act m.node (first_node end ms) follow.1 may)

    pub sends-next : (ms : List (Moment N)) (end : N) (l byte : ℕ) → l < 4 → Follow ops post Q ms end
        → ops.offers l (first_node end ms) ≡ Some byte → acts_of ms ≡ Sends l byte ∷ acts_of (later ms)
    sends-next [] end l byte low follow out = let mute = follow.1.offers l low in cc
    sends-next (m ∷ ms) end l byte low follow out =
        ap (λ a. a ∷ acts_of ms) (sending m.act m.node (first_node end ms) l byte low follow.1 out)

    pub takes-next : (ms : List (Moment N)) (end : N) (l byte : ℕ) (bytes : List ℕ) → l < 4 → Follow ops post Q ms end
        → ops.wants l (first_node end ms) ≡ true → (if l == post.boot then takes_of (acts_of ms) else []) ≡ byte ∷ bytes
        → (l ≡ post.boot) × (acts_of ms ≡ Takes byte ∷ acts_of (later ms)) × (takes_of (acts_of (later ms)) ≡ bytes)
    takes-next [] end l byte bytes low follow wants is = absurd (none_taken l byte bytes is)
    takes-next (m ∷ ms) end l byte bytes low follow wants is =
        let next = taking m.act (acts_of ms) m.node (first_node end ms) l byte bytes low follow.1 wants is in
        (next.0, ap (λ a. a ∷ acts_of ms) next.1, next.2)

    -- where the acts begin with one, the node does that, and the others follow
    pub after-next : (ms : List (Moment N)) (end : N) (act : Act) → Follow ops post Q ms end → AreAnswered (acts_of ms)
        → acts_of ms ≡ act ∷ acts_of (later ms)
        → Does ops post act (first_node end ms) (first_node end (later ms)) × Follow ops post Q (later ms) end
        × AreAnswered (acts_of (later ms)) × ((l : ℕ) → is_waiting l (acts_of (later ms)) ≡ is_sending l act)
    after-next [] end act follow answered is = cc
    after-next (m ∷ ms) end act follow answered is =
        let e : m.act ≡ act = cc in (
          subst (λ a. Does ops post a m.node (first_node end ms)) e follow.1,
          follow.2,
          answered.1,
          λ l. answered.0 l ∙ ap (λ a. is_sending l a) e,
        )

-- acts that wait begin with the acknowledge
waiting_for : (act : Act) (acts : List Act) (l : ℕ) → is_waiting l (act ∷ acts) ≡ true → act ≡ Acks l
waiting_for Step acts l is = cc
waiting_for (Takes b) acts l is = cc
waiting_for (Sends m b) acts l is = cc
waiting_for (Acks m) acts l is = ap Acks (equal_numbers m l is)

pub acks-next : {N : Type 0} (ms : List (Moment N)) (l : ℕ) → is_waiting l (acts_of ms) ≡ true → acts_of ms ≡ Acks l ∷ acts_of (later ms)
acks-next [] l is = cc
acks-next (m ∷ ms) l is = ap (λ a. a ∷ acts_of ms) (waiting_for m.act (acts_of ms) l is)

-- ---- a course

-- what its first act leads to
pub record Goes {N : Type 0} (ops : NodeOps N) (holds : HoldState) (Q : ℕ → N → List Act → Type 0) (p : ℕ) (c : Course N) (act : Act) :
    Type 0 where
  pub is : acts_left c ≡ act ∷ acts_left (behind c)
  pub does : Does ops (record { holds = holds; processor = p; boot = c.boot }) act (now c) (now (behind c))
  pub course : IsCourse ops holds Q p (behind c)
  pub waits : (l : ℕ) → is_waiting l (acts_left (behind c)) ≡ is_sending l act

module _ {N : Type 0} (ops : NodeOps N) (holds : HoldState) (Q : ℕ → N → List Act → Type 0) (p : ℕ) (c : Course N)
    (h : IsCourse ops holds Q p c) where
  abbrev post : Post
  post = record { holds = holds; processor = p; boot = c.boot }

  pub goes : (act : Act) → acts_left c ≡ act ∷ acts_left (behind c) → Goes ops holds Q p c act
  goes act is =
      let next = after-next ops post (Q p) c.moments c.end act h.follow h.answered is in
      record { is = is; does = next.0; course = record { boot = h.boot; follow = next.1; answered = next.2 }; waits = next.3 }

  pub goes-step : may_step ops post (now c) ≡ true → Goes ops holds Q p c Step
  goes-step may = goes Step (steps-next ops post (Q p) c.moments c.end h.follow may)

  pub goes-send : (l byte : ℕ) → l < 4 → ops.offers l (now c) ≡ Some byte → Goes ops holds Q p c (Sends l byte)
  goes-send l byte low out = goes (Sends l byte) (sends-next ops post (Q p) c.moments c.end l byte low h.follow out)

  pub goes-take : (l byte : ℕ) (bytes : List ℕ) → l < 4 → ops.wants l (now c) ≡ true → taken_by l c ≡ byte ∷ bytes
      → (l ≡ c.boot) × Goes ops holds Q p c (Takes byte)
  goes-take l byte bytes low wants is =
      let next = takes-next ops post (Q p) c.moments c.end l byte bytes low h.follow wants is in
      (next.0, goes (Takes byte) next.1)

  pub goes-acknowledge : (l : ℕ) → is_waiting l (acts_left c) ≡ true → Goes ops holds Q p c (Acks l)
  goes-acknowledge l is = goes (Acks l) (acks-next c.moments l is)

-- ---- one course of many

module _ {N : Type 0} (p : ℕ) (courses : ℕ → Course N) where
  pub advanced-here : advanced p courses p ≡ behind (courses p)
  unfolding advanced
  advanced-here = rw (same_number p) refl

  pub advanced-other : (q : ℕ) → q ≢ p → advanced p courses q ≡ courses q
  unfolding advanced
  advanced-other q apart = rw (other_number q p apart) refl

  -- what holds of the one that goes on and of each other one
  pub each-advanced : (P : ℕ → Course N → Type 0) → P p (behind (courses p)) → ((q : ℕ) → q ≢ p → P q (courses q))
      → (q : ℕ) → P q (advanced p courses q)
  each-advanced P here others q = elim (cases_eq q p) [
    | inl e ↦ subst (λ k. P k (advanced p courses k)) (sym e) (subst (P p) (sym advanced-here) here)
    | inr apart ↦ subst (P q) (sym (advanced-other q apart)) (others q apart)
  ]
