-- Keep: each enabled pick, and picks one after the other.
use Rattle.std.proofs.Common.{◌≡◌, ℕ, ◌+◌, true, List, [], ◌∷◌, length, refl, sym, ap, ◌∙◌, arith}
use Rattle.tn_net.specs.declared.networks.Far.{Far}
use Rattle.tn_net.specs.declared.networks.Far.TheVariants.{Nothing, Host, Link}
use Rattle.tn_net.specs.Networks.{NetworkState, far_at}
use Rattle.tn_network.specs.declared.picks.Pick.{Pick}
use Rattle.tn_network.specs.declared.picks.Pick.TheVariants.{HostSend, HostTake, Proc, Send, Take}
use Rattle.tn_network.specs.Boards.{BoardState}
use Rattle.tn_network.specs.Holds.{HoldState, enabled}
use Rattle.tn_network.specs.NodeOps.{NodeOps}
use Rattle.tn_network.specs.PickLists.{AreEnabled, after}
use Rattle.tn_network.specs.Steps.{step}
use Rattle.tn_load.specs.Acts.{Act}
use Rattle.tn_load.specs.Acts.Act.{Step, Takes, Sends, Acks}
use Rattle.tn_load.specs.LoneRuns.{weight, is_waiting}
use Rattle.tn_load.specs.Plans.{Plan, Course, acts_left, advanced, advanced_at, plan_after, plan_behind, picks_left, sum_below}
use Rattle.tn_load.specs.Shares.{waiting}
use Rattle.tn_load.specs.UnderWay.{IsUnderWay}
use Rattle.tn_load.proofs.Going.{Goes, goes-acknowledge}
use Rattle.tn_load.proofs.Totals.{sum-advanced}
use Rattle.tn_load.proofs.OnePick.{step-goes, Sending, send-goes, courses-advanced}
use Rattle.tn_load.proofs.Heads.{take-waits}
use Rattle.tn_load.proofs.Stepping.{under_way-step}
use Rattle.tn_load.proofs.Sending.{under_way-send}
use Rattle.tn_load.proofs.Taking.{Taking, take-goes, under_way-take}
use Rattle.tn_load.proofs.Hosting.{HostSending, host_send-goes, under_way-host_send, HostTaking, host_take-goes, under_way-host_take}

module _ {N : Type 0} (ops : NodeOps N) (network : NetworkState) (holds : HoldState) (Q : ℕ → N → List Act → Type 0)
    (missing : Far → List ℕ) (kept : List ℕ) where
  module _ (plan : Plan N) (s : BoardState N) (u : IsUnderWay ops network holds Q missing kept plan s) where
    pub keeps-on : (pick : Pick) → enabled ops network holds s pick ≡ true
        → IsUnderWay ops network holds Q missing kept (plan_after network pick plan) (step ops network pick s)
    keeps-on HostSend on = under_way-host_send ops network holds Q missing kept plan s u on
    keeps-on HostTake on = under_way-host_take ops network holds Q missing kept plan s u on
    keeps-on (Proc p slice clock) on = under_way-step ops network holds Q missing kept plan s u p clock slice on
    keeps-on (Send p l) on = under_way-send ops network holds Q missing kept plan s u p l on
    keeps-on (Take p l) on = under_way-take ops network holds Q missing kept plan s u p l on

    abbrev count : ℕ
    count = length network.sizes

    abbrev weights : (ℕ → Course N) → ℕ
    weights courses = sum_below count (λ q. weight (acts_left (courses q)))

    length-others : (bytes rest : List ℕ) (byte : ℕ) → bytes ≡ byte ∷ rest → length bytes ≡ 1 + length rest
    length-others bytes rest byte is = ap (λ x. length x) is ∙ omega arith

    takes-off : (p l : ℕ) (far : Far) → far_at network p l ≡ far → Taking ops network holds Q missing kept plan s u p l
        → picks_left count plan ≡ 1 + picks_left count (advanced_at far (record plan { courses = advanced p plan.courses }))
    takes-off p l Nothing is h = let never : waiting plan Nothing ≡ true = ap (waiting plan) (sym is) ∙ h.sender in cc
    takes-off p l Host is h =
        let sum : weights plan.courses ≡ 1 + weights (advanced p plan.courses) = sum-advanced count p plan.courses (Takes h.byte)
        h.inside h.goes.is in
        omega (arith, sum)
    takes-off p l (Link q m) is h =
        let sum : weights plan.courses ≡ 1 + weights (advanced p plan.courses) = sum-advanced count p plan.courses (Takes h.byte)
        h.inside h.goes.is in
        let end = u.pairing.ends p l q m (record { processor = h.inside; link = h.low }) is in
        let courses = courses-advanced ops network holds Q plan.courses count p u.courses h.goes.course in
        let waits : is_waiting m (acts_left (advanced p plan.courses q)) ≡ true =
        take-waits ops holds Q p plan.courses l h.byte h.boots h.goes q m ∙ ap (waiting plan) (sym is) ∙ h.sender in
        let g : Goes ops holds Q q (advanced p plan.courses q) (Acks m) =
        goes-acknowledge ops holds Q q (advanced p plan.courses q) (courses q end.processor) m waits in
        let then : weights (advanced p plan.courses) ≡ 0 + weights (advanced q (advanced p plan.courses)) =
        sum-advanced count q (advanced p plan.courses) (Acks m) end.processor g.is in
        omega (arith, sum, then)

    pub one-off : (pick : Pick) → enabled ops network holds s pick ≡ true
        → picks_left count plan ≡ 1 + picks_left count (plan_after network pick plan)
    one-off HostSend on =
        let h : HostSending ops network holds Q missing kept plan s u = host_send-goes ops network holds Q missing kept plan s u on in
        let bytes = length-others plan.sends (plan_after network HostSend plan).sends h.byte h.is in
        omega (arith, bytes)
    one-off HostTake on =
        let h : HostTaking ops network holds Q missing kept plan s u = host_take-goes ops network holds Q missing kept plan s u on in
        let bytes = length-others plan.keeps (plan_after network HostTake plan).keeps h.byte h.is in
        let sum : weights plan.courses ≡ 0 + weights (advanced network.root plan.courses) =
        sum-advanced count network.root plan.courses (Acks network.root_link) u.pairing.root.processor h.goes.is in
        omega (arith, bytes, sum)
    one-off (Proc p slice clock) on =
        let h = step-goes ops network holds Q missing kept plan s u p clock slice on in
        let sum : weights plan.courses ≡ 1 + weights (advanced p plan.courses) = sum-advanced count p plan.courses Step h.0 h.1.is in
        omega (arith, sum)
    one-off (Send p l) on =
        let h : Sending ops network holds Q missing kept plan s u p l = send-goes ops network holds Q missing kept plan s u p l on in
        let sum : weights plan.courses ≡ 1 + weights (advanced p plan.courses) =
        sum-advanced count p plan.courses (Sends l h.byte) h.inside h.goes.is in
        omega (arith, sum)
    one-off (Take p l) on = takes-off p l (far_at network p l) refl (take-goes ops network holds Q missing kept plan s u p l on)

  -- picks one after the other
  pub along : (plan : Plan N) (s : BoardState N) (picks : List Pick) → IsUnderWay ops network holds Q missing kept plan s
      → AreEnabled ops network holds s picks
      → IsUnderWay ops network holds Q missing kept (plan_behind network picks plan) (after ops network s picks)
      × (picks_left (length network.sizes) plan ≡ length picks + picks_left (length network.sizes) (plan_behind network picks plan))
  along plan s [] u on = (u, omega arith)
  along plan s (pick ∷ picks) u on =
      let next = keeps-on plan s u pick on.0 in
      let rest = along (plan_after network pick plan) (step ops network pick s) picks next on.1 in
      let off = one-off plan s u pick on.0 in
      let more = rest.1 in
      (rest.0, omega (arith, off, more))
