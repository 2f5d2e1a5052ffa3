-- What an enabled step or sending is of the courses; and lists of nodes and courses, one of which goes on.
use Rattle.std.proofs.Common.{◌≡◌, ℕ, ◌+◌, ◌*◌, ◌<◌, Bool, true, false, List, length, Some, None, refl, sym, ap, ◌∙◌, arith}
use Rattle.std.specs.Prelude.{slice_get, is_some, nat_lt, ◌&&◌, ◌^◌, not}
use Rattle.std.proofs.lemmas.Bool.Decides.{nat_tests}
use Rattle.std.proofs.lemmas.Option.{slice_get_within}
use Rattle.tn_net.specs.declared.networks.Far.{Far}
use Rattle.tn_net.specs.Networks.{NetworkState, IsEnd, far_at}
use Rattle.tn_network.specs.declared.picks.Pick.TheVariants.{Proc, Send}
use Rattle.tn_network.specs.Boards.{BoardState, given, at_node, changed}
use Rattle.tn_network.specs.NodeOps.{NodeOps}
use Rattle.tn_network.specs.Holds.{HoldState, entry_of, enabled}
use Rattle.tn_network.specs.Steps.{is_wired, offered}
use Rattle.tn_network.proofs.NodeLists.{slice_get-changed_other, slice_get-changed_same, at_node-met, at_node-given}
use Rattle.tn_load.specs.Acts.{Act, may_step}
use Rattle.tn_load.specs.Acts.Act.{Step, Sends}
use Rattle.tn_load.specs.Plans.{Course, Plan, IsCourse, now, behind, advanced}
use Rattle.tn_load.specs.Shares.{IsWireEnd}
use Rattle.tn_load.specs.UnderWay.{IsUnderWay}
use Rattle.tn_load.proofs.Going.{Goes, goes-step, goes-send, each-advanced}
use Rattle.tn_load.proofs.Latches.{full-latch, Fits}

pub both : (a b : Bool) → (a && b) ≡ true → (a ≡ true) × (b ≡ true)
both true b h = (refl, h)
both false b h = cc

pub joined : (a b : Bool) → a ≡ true → b ≡ true → (a && b) ≡ true
joined true b h g = g
joined false b h g = cc

pub below_four : (l : ℕ) → nat_lt l 4 ≡ true → l < 4
below_four l h = grind (arith, nat_tests)

-- ---- nodes and courses, one of which goes on

pub nodes-advanced : {N : Type 0} (f : N → N) (nodes : List N) (courses : ℕ → Course N) (count p : ℕ) → p < count
    → ((q : ℕ) → q < count → slice_get nodes q ≡ Some (now (courses q))) → f (now (courses p)) ≡ now (behind (courses p))
    → (q : ℕ) → q < count → slice_get (changed f nodes p) q ≡ Some (now (advanced p courses q))
nodes-advanced f nodes courses count p within are goes =
    each-advanced p courses (λ q x. q < count → slice_get (changed f nodes p) q ≡ Some (now x))
    (λ h. slice_get-changed_same f nodes p (now (courses p)) (are p within) ∙ ap Some goes)
    (λ q apart h. slice_get-changed_other f nodes p q apart ∙ are q h)

module _ {N : Type 0} (ops : NodeOps N) (network : NetworkState) (holds : HoldState) (Q : ℕ → N → List Act → Type 0) where
  pub courses-advanced : (courses : ℕ → Course N) (count p : ℕ)
      → ((q : ℕ) → q < count → IsCourse ops holds Q q (courses q)) → IsCourse ops holds Q p (behind (courses p))
      → (q : ℕ) → q < count → IsCourse ops holds Q q (advanced p courses q)
  courses-advanced courses count p are goes =
      each-advanced p courses (λ q x. q < count → IsCourse ops holds Q q x) (λ h. goes) (λ q apart h. are q h)

  module _ (missing : Far → List ℕ) (kept : List ℕ) (plan : Plan N) (s : BoardState N)
      (u : IsUnderWay ops network holds Q missing kept plan s) where
    pub fits : (e : Far) → IsWireEnd network e → Fits network missing plan s e
    fits e place = record { bytes = u.bytes e place; full = u.full e place }

    pub within : (p : ℕ) (n : N) → slice_get s.nodes p ≡ Some n → p < length network.sizes
    within p n at = omega (arith, slice_get_within s.nodes p n at, u.count)

    pub room-for : (p l : ℕ) → IsEnd network p l → 4 * p + l < length s.latches
    room-for p l end = let few = end.processor in let low = end.link in omega (arith, u.latches)

    abbrev course_at : ℕ → Course N
    course_at p = plan.courses p

    -- ---- a step

    pub step-goes : (p clock : ℕ) (slice : Bool) → enabled ops network holds s (Proc p slice clock) ≡ true
        → (p < length network.sizes) × Goes ops holds Q p (plan.courses p) Step
    step-goes p clock slice on =
        let two = both (nat_lt clock (2 ^ 32) && at_node false ops.runs s.nodes p)
        (not (holds.held && at_node false (ops.stands (entry_of holds p)) s.nodes p)) on in
        let runs : at_node false ops.runs s.nodes p ≡ true = (both (nat_lt clock (2 ^ 32)) (at_node false ops.runs s.nodes p) two.0).1 in
        let node = at_node-met ops.runs s.nodes p runs in
        let inside : p < length network.sizes = within p node.0 node.1 in
        let at : slice_get s.nodes p ≡ Some (now (plan.courses p)) = u.nodes p inside in
        let may : may_step ops (record { holds = holds; processor = p; boot = (plan.courses p).boot }) (now (plan.courses p)) ≡ true =
        joined (ops.runs (now (plan.courses p))) (not (holds.held && ops.stands (entry_of holds p) (now (plan.courses p))))
        (ap (λ o. given false ops.runs o) (sym at) ∙ runs)
        (ap (λ o. not (holds.held && given false (ops.stands (entry_of holds p)) o)) (sym at) ∙ two.1) in
        (inside, goes-step ops holds Q p (plan.courses p) (u.courses p inside) may)

    -- ---- a byte that a processor sends

    pub record Sending (p l : ℕ) : Type 0 where
      pub inside : p < length network.sizes
      pub low : l < 4
      pub wired : is_wired (far_at network p l) ≡ true
      pub byte : ℕ
      pub out : offered ops s.nodes p l ≡ Some byte
      pub goes : Goes ops holds Q p (plan.courses p) (Sends l byte)

    pub send-goes : (p l : ℕ) → enabled ops network holds s (Send p l) ≡ true → Sending p l
    send-goes p l on =
        let two = both (nat_lt l 4) (is_some (offered ops s.nodes p l) && is_wired (far_at network p l)) on in
        let three = both (is_some (offered ops s.nodes p l)) (is_wired (far_at network p l)) two.1 in
        let low : l < 4 = below_four l two.0 in
        let out = full-latch (offered ops s.nodes p l) three.0 in
        let node = at_node-given (ops.offers l) s.nodes p out.0 out.1 in
        let inside : p < length network.sizes = within p node.0 node.1 in
        let at : slice_get s.nodes p ≡ Some (now (plan.courses p)) = u.nodes p inside in
        let offers : ops.offers l (now (plan.courses p)) ≡ Some out.0 = ap (λ o. given None (ops.offers l) o) (sym at) ∙ out.1 in
        record {
          inside = inside;
          low = low;
          wired = three.1;
          byte = out.0;
          out = out.1;
          goes = goes-send ops holds Q p (plan.courses p) (u.courses p inside) l out.0 low offers;
        }
