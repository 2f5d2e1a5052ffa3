-- An enabled step leaves the network under way.
use Rattle.std.proofs.Common.{◌≡◌, ℕ, ◌<◌, Bool, true, List, length, refl, ◌∙◌}
use Rattle.tn_net.specs.declared.networks.Far.{Far}
use Rattle.tn_net.specs.declared.networks.Far.TheVariants.{Nothing, Host, Link}
use Rattle.tn_net.specs.Networks.{NetworkState}
use Rattle.tn_network.specs.declared.picks.Pick.TheVariants.{Proc}
use Rattle.tn_network.specs.Boards.{BoardState}
use Rattle.tn_network.specs.NodeOps.{NodeOps}
use Rattle.tn_network.specs.Holds.{HoldState, enabled}
use Rattle.tn_network.specs.Steps.{step}
use Rattle.tn_network.proofs.NodeLists.{length-changed}
use Rattle.tn_load.specs.Acts.{Act}
use Rattle.tn_load.specs.Acts.Act.{Step}
use Rattle.tn_load.specs.Plans.{Plan, plan_after}
use Rattle.tn_load.specs.Shares.{IsWireEnd, other_end, incoming, outgoing, waiting}
use Rattle.tn_load.specs.UnderWay.{IsUnderWay}
use Rattle.tn_load.proofs.Going.{Goes}
use Rattle.tn_load.proofs.Latches.{Fits, fits-same}
use Rattle.tn_load.proofs.Heads.{step-takes, step-sends, step-waits}
use Rattle.tn_load.proofs.OnePick.{fits, step-goes, nodes-advanced, courses-advanced}

module _ {N : Type 0} (ops : NodeOps N) (network : NetworkState) (holds : HoldState) (Q : ℕ → N → List Act → Type 0)
    (missing : Far → List ℕ) (kept : List ℕ) (plan : Plan N) (s : BoardState N) (u : IsUnderWay ops network holds Q missing kept plan s)
  where
    module _ (p clock : ℕ) (slice : Bool) (on : enabled ops network holds s (Proc p slice clock) ≡ true) where
      inside : p < length network.sizes
      inside = (step-goes ops network holds Q missing kept plan s u p clock slice on).0

      g : Goes ops holds Q p (plan.courses p) Step
      g = (step-goes ops network holds Q missing kept plan s u p clock slice on).1

      abbrev step_new : Plan N
      step_new = plan_after network (Proc p slice clock) plan

      comes : (e : Far) → incoming step_new e ≡ incoming plan e
      comes Nothing = refl
      comes Host = refl
      comes (Link q l) = step-takes ops holds Q p plan.courses g q l

      goes : (e : Far) → outgoing step_new e ≡ outgoing plan e
      goes Nothing = refl
      goes Host = refl
      goes (Link q l) = step-sends ops holds Q p plan.courses g q l

      waits : (e : Far) → waiting step_new e ≡ waiting plan e
      waits Nothing = refl
      waits Host = refl
      waits (Link q l) = step-waits ops holds Q p plan.courses g q l

      all : (e : Far) → IsWireEnd network e → Fits network missing step_new (step ops network (Proc p slice clock) s) e
      all e place =
          fits-same network u.pairing missing plan step_new s (step ops network (Proc p slice clock) s)
          (fits ops network holds Q missing kept plan s u) e place (comes e)
          (goes (other_end network e)) (waits (other_end network e)) refl

      pub under_way-step : IsUnderWay ops network holds Q missing kept (plan_after network (Proc p slice clock) plan)
          (step ops network (Proc p slice clock) s)
      under_way-step = record {
        pairing = u.pairing;
        count = length-changed (ops.run p slice clock) s.nodes p ∙ u.count;
        latches = u.latches;
        nodes = nodes-advanced (ops.run p slice clock) s.nodes plan.courses (length network.sizes) p inside u.nodes (g.does.1 slice clock);
        courses = courses-advanced ops network holds Q plan.courses (length network.sizes) p u.courses g.course;
        bytes = λ e place. (all e place).bytes;
        full = λ e place. (all e place).full;
        wired = λ q l end none. step-sends ops holds Q p plan.courses g q l ∙ u.wired q l end none;
        quiet = λ q l end none. step-waits ops holds Q p plan.courses g q l ∙ u.quiet q l end none;
        sends = u.sends;
        waits = u.waits;
        keeps = u.keeps;
        room = u.room;
      }
