-- What holds of courses goes on to hold, whatever picks were made.
use Rattle.std.proofs.Common.{ℕ, ◌==◌, Bool, true, false, List, [], ◌∷◌}
use Rattle.std.specs.Prelude.{if◌then◌else◌}
use Rattle.tn_net.specs.declared.networks.Far.{Far}
use Rattle.tn_net.specs.declared.networks.Far.TheVariants.{Nothing, Host, Link}
use Rattle.tn_net.specs.Networks.{NetworkState, far_at}
use Rattle.tn_network.specs.declared.picks.Pick.{Pick}
use Rattle.tn_network.specs.declared.picks.Pick.TheVariants.{HostSend, HostTake, Proc, Send, Take}
use Rattle.tn_network.specs.Holds.{HoldState}
use Rattle.tn_network.specs.NodeOps.{NodeOps}
use Rattle.tn_load.specs.Acts.{Act, Post}
use Rattle.tn_load.specs.LoneRuns.{AreAnswered}
use Rattle.tn_load.specs.Plans.{Moment, Course, Plan, Follow, IsCourse, acts_of, later, behind, advanced, advanced_at, plan_after}
use Rattle.tn_load.specs.Plans.{plan_behind}

module _ {N : Type 0} (P : ℕ → Course N → Type 0) (goes : (p : ℕ) (c : Course N) → P p c → P p (behind c)) where
  advanced-kept : (a : ℕ) (courses : ℕ → Course N) (q : ℕ) → P q (courses q) → P q (advanced a courses q)
  unfolding advanced
  advanced-kept a courses q h = go (q == a)
    where
      go : (test : Bool) → P q (if test then behind (courses q) else courses q)
      go true = goes q (courses q) h
      go false = h

  after-kept : (network : NetworkState) (pick : Pick) (plan : Plan N) (q : ℕ) → P q (plan.courses q)
      → P q ((plan_after network pick plan).courses q)
  after-kept network HostSend plan q h = h
  after-kept network HostTake plan q h = advanced-kept network.root plan.courses q h
  after-kept network (Proc p slice clock) plan q h = advanced-kept p plan.courses q h
  after-kept network (Send p l) plan q h = advanced-kept p plan.courses q h
  after-kept network (Take p l) plan q h = at (far_at network p l) (advanced-kept p plan.courses q h)
    where
      at : (far : Far) → P q (advanced p plan.courses q)
          → P q ((advanced_at far (record plan { courses = advanced p plan.courses })).courses q)
      at Nothing k = k
      at Host k = k
      at (Link r m) k = advanced-kept r (advanced p plan.courses) q k

  -- what holds of a course, and of what is left of it behind its first act
  pub behind-kept : (network : NetworkState) (picks : List Pick) (plan : Plan N) (q : ℕ) → P q (plan.courses q)
      → P q ((plan_behind network picks plan).courses q)
  behind-kept network [] plan q h = h
  behind-kept network (pick ∷ picks) plan q h =
      behind-kept network picks (plan_after network pick plan) q (after-kept network pick plan q h)

-- a course goes on to be one
pub course-goes : {N : Type 0} (ops : NodeOps N) (holds : HoldState) (Q : ℕ → N → List Act → Type 0) (p : ℕ) (c : Course N)
    → IsCourse ops holds Q p c → IsCourse ops holds Q p (behind c)
course-goes {N = N} ops holds Q p c is =
    record { boot = is.boot; follow = follows c.moments is.follow; answered = answers c.moments is.answered }
  where
    follows : (moments : List (Moment N)) → Follow ops (record { holds = holds; processor = p; boot = c.boot }) (Q p) moments c.end
        → Follow ops (record { holds = holds; processor = p; boot = c.boot }) (Q p) (later moments) c.end
    follows [] h = h
    follows (m ∷ moments) h = h.2

    answers : (moments : List (Moment N)) → AreAnswered (acts_of moments) → AreAnswered (acts_of (later moments))
    answers [] h = h
    answers (m ∷ moments) h = h.1

-- and a course of which something holds is one of which nothing is asked
pub follow-weaker : {N : Type 0} (ops : NodeOps N) (post : Post) (Q R : N → List Act → Type 0)
    → ((n : N) (left : List Act) → Q n left → R n left)
    → (moments : List (Moment N)) (end : N) → Follow ops post Q moments end → Follow ops post R moments end
follow-weaker ops post Q R weaker [] end h = (weaker end [] h.0, h.1)
follow-weaker ops post Q R weaker (m ∷ moments) end h =
    (weaker m.node (m.act ∷ acts_of moments) h.0, h.1, follow-weaker ops post Q R weaker moments end h.2)
