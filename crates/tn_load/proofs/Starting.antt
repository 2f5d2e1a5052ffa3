-- How a network comes under way: lone runs make courses, and wires are empty at first.
use Rattle.std.proofs.Common.{◌≡◌, ℕ, zero, suc, ◌+◌, ◌*◌, ◌<◌, inl, inr, false, List, [], ◌∷◌, ◌++◌, length, replicate, Option, Some}
use Rattle.std.proofs.Common.{None, refl, sym, ap, subst, ◌∙◌}
use Rattle.std.specs.Prelude.{slice_get, slice_index_or, is_some}
use Rattle.std.proofs.lemmas.List.{length-replicate}
use Rattle.tn_net.specs.declared.networks.Far.{Far}
use Rattle.tn_net.specs.declared.networks.Far.TheVariants.{Nothing, Host, Link}
use Rattle.tn_net.specs.Networks.{NetworkState, IsPairing}
use Rattle.tn_network.specs.NodeOps.{NodeOps}
use Rattle.tn_network.specs.Holds.{HoldState}
use Rattle.tn_network.specs.Resets.{new_board}
use Rattle.tn_load.specs.Acts.{Act, Post, Does, HasEnded}
use Rattle.tn_load.specs.LoneRuns.{Lone, AreAnswered}
use Rattle.tn_load.specs.Plans.{Moment, Course, Plan, IsCourse, Follow, first_node, now, acts_of, acts_left}
use Rattle.tn_load.specs.Shares.{IsWireEnd, other_end, outgoing, waiting, latch_of, bytes_in}
use Rattle.tn_load.specs.UnderWay.{IsUnderWay, FitsTogether}
use Rattle.tn_load.proofs.Latches.{other_end-twice, cases_far}

-- ---- a lone run as a course

module _ {N : Type 0} (ops : NodeOps N) (post : Post) (Q : N → List Act → Type 0) where
  pub moments_of : (acts : List Act) (n end : N) → Lone ops post Q acts n end → List (Moment N)
  moments_of [] n end run = []
  moments_of (act ∷ acts) n end run = record { node = n; act = act } ∷ moments_of acts run.1.0 end run.1.1.1

  pub acts-moments : (acts : List Act) (n end : N) (run : Lone ops post Q acts n end) → acts_of (moments_of acts n end run) ≡ acts
  unfolding moments_of
  acts-moments [] n end run = refl
  acts-moments (act ∷ acts) n end run = ap (λ a. act ∷ a) (acts-moments acts run.1.0 end run.1.1.1)

  pub first-moments : (acts : List Act) (n end : N) (run : Lone ops post Q acts n end) → first_node end (moments_of acts n end run) ≡ n
  unfolding moments_of
  first-moments [] n end run = sym run.1
  first-moments (act ∷ acts) n end run = refl

  pub follow-moments : (acts : List Act) (n end : N) (run : Lone ops post Q acts n end) → HasEnded ops post end
      → Follow ops post Q (moments_of acts n end run) end
  unfolding moments_of
  follow-moments [] n end run ended = (subst (λ m. Q m []) run.1 run.0, ended)
  follow-moments (act ∷ acts) n end run ended =
      let t = run.1.0 in
      let rest = run.1.1.1 in (
        subst (λ a. Q n (act ∷ a)) (sym (acts-moments acts t end rest)) run.0,
        subst (λ m. Does ops post act n m) (sym (first-moments acts t end rest)) run.1.1.0,
        follow-moments acts t end rest ended,
      )

module _ {N : Type 0} (ops : NodeOps N) (holds : HoldState) (Q : ℕ → N → List Act → Type 0) (p boot : ℕ) where
  abbrev pub post_of : Post
  post_of = record { holds = holds; processor = p; boot = boot }

  pub course_of : (acts : List Act) (n end : N) → Lone ops post_of (Q p) acts n end → Course N
  course_of acts n end run = record { boot = boot; moments = moments_of ops post_of (Q p) acts n end run; end = end }

  pub course-is : (acts : List Act) (n end : N) (run : Lone ops post_of (Q p) acts n end) → boot < 4 → HasEnded ops post_of end
      → AreAnswered acts → IsCourse ops holds Q p (course_of acts n end run)
  unfolding course_of
  course-is acts n end run low ended answered = record {
    boot = low;
    follow = follow-moments ops post_of (Q p) acts n end run ended;
    answered = subst AreAnswered (sym (acts-moments ops post_of (Q p) acts n end run)) answered;
  }

  pub course-now : (acts : List Act) (n end : N) (run : Lone ops post_of (Q p) acts n end) → now (course_of acts n end run) ≡ n
  unfolding course_of
  course-now acts n end run = first-moments ops post_of (Q p) acts n end run

  pub course-acts : (acts : List Act) (n end : N) (run : Lone ops post_of (Q p) acts n end) → acts_left (course_of acts n end run) ≡ acts
  unfolding course_of
  course-acts acts n end run = acts-moments ops post_of (Q p) acts n end run

-- ---- empty wires

none_at : (x : Option ℕ) (n k : ℕ) → slice_index_or (replicate n x) k x ≡ x
none_at x zero k = refl
none_at x (suc n) zero = refl
none_at x (suc n) (suc k) = none_at x n k

module _ {N : Type 0} (ops : NodeOps N) (network : NetworkState) (holds : HoldState) (Q : ℕ → N → List Act → Type 0)
    (missing : Far → List ℕ) (plan : Plan N) (nodes : List N) where
  latch_none : (e : Far) → latch_of (new_board nodes plan.sends) e ≡ None
  latch_none Nothing = refl
  latch_none Host = refl
  latch_none (Link p l) = none_at None (4 * length nodes) (4 * p + l)

  -- nothing waits, also where there is no wire
  none_waits : FitsTogether network missing plan → IsPairing network → (e : Far) → IsWireEnd network e → waiting plan
      (other_end network e) ≡ false
  none_waits fits pairing e place = elim (cases_far (other_end network e) Nothing) [
    | inl none ↦ ap (waiting plan) none
    | inr some ↦ fits.quiet (other_end network e) (other_end-twice network pairing e place some).0
  ]

  -- a network whose nodes stand where their courses begin, and whose host has the bytes of the plan, is under way
  pub begins : IsPairing network → length nodes ≡ length network.sizes
      → ((p : ℕ) → p < length network.sizes → slice_get nodes p ≡ Some (now (plan.courses p)))
      → ((p : ℕ) → p < length network.sizes → IsCourse ops holds Q p (plan.courses p))
      → plan.waits ≡ false → FitsTogether network missing plan
      → IsUnderWay ops network holds Q missing plan.keeps plan (new_board nodes plan.sends)
  begins pairing count are courses free fits = record {
    pairing = pairing;
    count = count;
    latches = length-replicate (4 * length nodes) None ∙ ap (λ n. 4 * n) count;
    nodes = are;
    courses = courses;
    bytes = λ e place. fits.bytes e place ∙ ap (λ o. bytes_in o ++ (outgoing plan (other_end network e) ++ missing e)) (sym (latch_none e));
    full = λ e place. ap (λ o. is_some o) (latch_none e) ∙ sym (none_waits fits pairing e place);
    wired = fits.wired;
    quiet = λ p l end none. fits.quiet (Link p l) end;
    sends = refl;
    waits = sym free;
    keeps = refl;
    room = fits.room;
  }
