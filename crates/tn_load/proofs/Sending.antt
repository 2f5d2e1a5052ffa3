-- An enabled sending of a processor leaves the network under way.
use Rattle.std.proofs.Common.{◌≡◌, ◌≢◌, ℕ, ◌+◌, ◌*◌, true, List, ◌++◌, length, Some, refl, sym, ap, ◌∙◌}
use Rattle.std.proofs.Math.ListN.{length-set}
use Rattle.tn_net.specs.declared.networks.Far.{Far}
use Rattle.tn_net.specs.declared.networks.Far.TheVariants.{Nothing, Host, Link}
use Rattle.tn_net.specs.Networks.{NetworkState, IsEnd, far_at}
use Rattle.tn_network.specs.declared.picks.Pick.TheVariants.{Send}
use Rattle.tn_network.specs.Boards.{BoardState, changed}
use Rattle.tn_network.specs.NodeOps.{NodeOps}
use Rattle.tn_network.specs.Holds.{HoldState, enabled}
use Rattle.tn_network.specs.Steps.{is_wired, offered, step, latched, host_latched}
use Rattle.tn_network.proofs.NodeLists.{length-changed}
use Rattle.tn_network.proofs.NodeLists.{latch-set_same, latch-set_other}
use Rattle.tn_load.specs.Acts.{Act}
use Rattle.tn_load.specs.Plans.{Plan, plan_after}
use Rattle.tn_load.specs.Shares.{IsWireEnd, other_end, incoming, outgoing, waiting, latch_of}
use Rattle.tn_load.specs.UnderWay.{IsUnderWay}
use Rattle.tn_load.proofs.Latches.{other_end-twice, Sent, fits-sent}
use Rattle.tn_load.proofs.Heads.{send-takes, send-here, send-else, send-free, send-waits, send-waits_else}
use Rattle.tn_load.proofs.OnePick.{fits, room-for, Sending, send-goes, nodes-advanced, courses-advanced}

module _ {N : Type 0} (ops : NodeOps N) (network : NetworkState) (holds : HoldState) (Q : ℕ → N → List Act → Type 0)
    (missing : Far → List ℕ) (kept : List ℕ) (plan : Plan N) (s : BoardState N) (u : IsUnderWay ops network holds Q missing kept plan s)
  where
    module _ (p l : ℕ) (on : enabled ops network holds s (Send p l) ≡ true) where
      h : Sending ops network holds Q missing kept plan s u p l
      h = send-goes ops network holds Q missing kept plan s u p l on

      abbrev new : Plan N
      new = plan_after network (Send p l) plan

      abbrev t : BoardState N
      t = step ops network (Send p l) s

      wire : far_at network p l ≢ Nothing
      wire none = let bad : is_wired Nothing ≡ true = ap is_wired (sym none) ∙ h.wired in cc

      place_of : IsEnd network p l
      place_of = record { processor = h.inside; link = h.low }

      sizes : (far : Far) → length (latched far (offered ops s.nodes p l) s.latches) ≡ 4 * length network.sizes
      sizes Nothing = u.latches
      sizes Host = u.latches
      sizes (Link q m) = length-set s.latches (4 * q + m) (offered ops s.nodes p l) ∙ u.latches

      left : (far : Far) → (host_latched far (offered ops s.nodes p l) s.host).left ≡ s.host.left
      left Nothing = refl
      left Host = refl
      left (Link q m) = refl

      waits : (far : Far) → (host_latched far (offered ops s.nodes p l) s.host).sent ≡ s.host.sent
      waits Nothing = refl
      waits Host = refl
      waits (Link q m) = refl

      keeps : (far : Far) → (host_latched far (offered ops s.nodes p l) s.host).kept ≡ s.host.kept
      keeps Nothing = refl
      keeps Host = refl
      keeps (Link q m) = refl

      abbrev with_far : Far → BoardState N
      with_far far = record {
        nodes = changed (ops.send l) s.nodes p;
        latches = latched far (offered ops s.nodes p l) s.latches;
        host = host_latched far (offered ops s.nodes p l) s.host;
      }

      here : (far : Far) → IsWireEnd network far → far ≢ Nothing → latch_of (with_far far) far ≡ Some h.byte
      here Nothing place some = absurd (some refl)
      here Host place some = h.out
      here (Link q m) place some = latch-set_same s.latches q m (offered ops s.nodes p l)
          (room-for ops network holds Q missing kept plan s u q m place) ∙ h.out

      other : (far : Far) → IsWireEnd network far → (e : Far) → IsWireEnd network e → e ≢ far → latch_of (with_far far) e ≡ latch_of s e
      other Nothing there e place apart = same_latches e
        where
          same_latches : (e : Far) → latch_of (with_far Nothing) e ≡ latch_of s e
          same_latches Nothing = refl
          same_latches Host = refl
          same_latches (Link k j) = refl
      other Host there Nothing place apart = refl
      other Host there Host place apart = absurd (apart refl)
      other Host there (Link k j) place apart = refl
      other (Link q m) there Nothing place apart = refl
      other (Link q m) there Host place apart = refl
      other (Link q m) there (Link k j) place apart =
          latch-set_other s.latches q m k j (offered ops s.nodes p l) there.link place.link
          (λ e. apart (ap (λ x. Link x j) e.0 ∙ ap (Link q) e.1))

      comes : (e : Far) → incoming new e ≡ incoming plan e
      comes Nothing = refl
      comes Host = refl
      comes (Link q m) = send-takes ops holds Q p plan.courses l h.byte h.goes q m

      goes_else : (e : Far) → e ≢ Link p l → outgoing new e ≡ outgoing plan e
      goes_else Nothing apart = refl
      goes_else Host apart = refl
      goes_else (Link q m) apart = send-else ops holds Q p plan.courses l h.byte h.goes q m apart

      waits_else : (e : Far) → e ≢ Link p l → waiting new e ≡ waiting plan e
      waits_else Nothing apart = refl
      waits_else Host apart = refl
      waits_else (Link q m) apart = send-waits_else ops holds Q p plan.courses l h.byte h.goes q m apart

      twice : IsWireEnd network (far_at network p l)
      twice = (other_end-twice network u.pairing (Link p l) place_of wire).0

      sent : Sent network u.pairing missing plan new s t (fits ops network holds Q missing kept plan s u) (Link p l) h.byte
      sent = record {
        place = place_of;
        wired = wire;
        comes = comes;
        goes = send-here ops holds Q p plan.courses l h.byte h.goes;
        goes_else = goes_else;
        free = send-free ops holds Q p plan.courses l h.byte h.goes;
        waits = send-waits ops holds Q p plan.courses l h.byte h.goes;
        waits_else = waits_else;
        latch = here (far_at network p l) twice wire;
        latch_else = other (far_at network p l) twice;
      }

      pub under_way-send : IsUnderWay ops network holds Q missing kept (plan_after network (Send p l) plan) (step ops network (Send p l) s)
      under_way-send = record {
        pairing = u.pairing;
        count = length-changed (ops.send l) s.nodes p ∙ u.count;
        latches = sizes (far_at network p l);
        nodes = nodes-advanced (ops.send l) s.nodes plan.courses (length network.sizes) p h.inside u.nodes h.goes.does.2;
        courses = courses-advanced ops network holds Q plan.courses (length network.sizes) p u.courses h.goes.course;
        bytes = λ e place. (fits-sent network u.pairing missing plan new s t (fits ops network holds Q missing kept plan s u) (Link p l)
            h.byte sent e place).bytes;
        full = λ e place. (fits-sent network u.pairing missing plan new s t (fits ops network holds Q missing kept plan s u) (Link p l)
            h.byte sent e place).full;
        wired = λ q m end none. send-else ops holds Q p plan.courses l h.byte h.goes q m (λ e. wire (ap (other_end network) (sym e) ∙ none))
            ∙ u.wired q m end none;
        quiet = λ q m end none. send-waits_else ops holds Q p plan.courses l h.byte h.goes q m
            (λ e. wire (ap (other_end network) (sym e) ∙ none))
            ∙ u.quiet q m end none;
        sends = left (far_at network p l) ∙ u.sends;
        waits = waits (far_at network p l) ∙ u.waits;
        keeps = ap (λ bs. bs ++ plan.keeps) (keeps (far_at network p l)) ∙ u.keeps;
        room = u.room;
      }
