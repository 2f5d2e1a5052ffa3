-- An enabled taking of a processor leaves the network under way.
use Rattle.std.proofs.Common.{◌≡◌, ◌≢◌, ℕ, ◌+◌, ◌*◌, ◌<◌, true, false, List, ◌∷◌, ◌++◌, length, Some, None, refl, sym, ap, ◌∙◌}
use Rattle.std.specs.Prelude.{slice_get, slice_set, is_some, unwrap_or, nat_lt, ◌&&◌}
use Rattle.std.proofs.Math.ListN.{length-set}
use Rattle.tn_net.specs.declared.networks.Far.{Far}
use Rattle.tn_net.specs.declared.networks.Far.TheVariants.{Nothing, Host, Link}
use Rattle.tn_net.specs.Networks.{NetworkState, IsEnd, far_at}
use Rattle.tn_network.specs.declared.picks.Pick.TheVariants.{Take}
use Rattle.tn_network.specs.Boards.{BoardState, given, at_node, changed, latch_at}
use Rattle.tn_network.specs.NodeOps.{NodeOps}
use Rattle.tn_network.specs.Holds.{HoldState, enabled}
use Rattle.tn_network.specs.Steps.{step, nodes_acknowledged, host_acknowledged}
use Rattle.tn_network.proofs.NodeLists.{length-changed, at_node-met}
use Rattle.tn_network.proofs.NodeLists.{latch-set_same, latch-set_other}
use Rattle.tn_load.specs.Acts.{Act}
use Rattle.tn_load.specs.Acts.Act.{Takes, Acks}
use Rattle.tn_load.specs.LoneRuns.{is_waiting}
use Rattle.tn_load.specs.Plans.{Plan, IsCourse, now, acts_left, behind, advanced, advanced_at, plan_after}
use Rattle.tn_load.specs.Shares.{IsWireEnd, other_end, taken_by, incoming, outgoing, waiting, latch_of, bytes_in}
use Rattle.tn_load.specs.UnderWay.{IsUnderWay}
use Rattle.tn_load.proofs.Going.{Goes, goes-take, goes-acknowledge}
use Rattle.tn_load.proofs.Latches.{full-latch, Fits, Taken, fits-taken}
use Rattle.tn_load.proofs.Heads.{take-here, take-else, take-sends, take-waits, acknowledge-takes, acknowledge-sends}
use Rattle.tn_load.proofs.Heads.{acknowledge-free, acknowledge-else}
use Rattle.tn_load.proofs.OnePick.{fits, within, room-for, both, below_four, nodes-advanced, courses-advanced}

module _ {N : Type 0} (ops : NodeOps N) (network : NetworkState) (holds : HoldState) (Q : ℕ → N → List Act → Type 0)
    (missing : Far → List ℕ) (kept : List ℕ) (plan : Plan N) (s : BoardState N) (u : IsUnderWay ops network holds Q missing kept plan s)
  where
    -- the byte that is taken, and that the sender waits
    pub record Taking (p l : ℕ) : Type 0 where
      pub inside : p < length network.sizes
      pub low : l < 4
      pub byte : ℕ
      pub held : latch_at s.latches p l ≡ Some byte
      pub boots : l ≡ (plan.courses p).boot
      pub goes : Goes ops holds Q p (plan.courses p) (Takes byte)
      pub sender : waiting plan (far_at network p l) ≡ true

    pub take-goes : (p l : ℕ) → enabled ops network holds s (Take p l) ≡ true → Taking p l
    take-goes p l on =
        let two = both (nat_lt l 4) (at_node false (ops.wants l) s.nodes p && is_some (latch_at s.latches p l)) on in
        let three = both (at_node false (ops.wants l) s.nodes p) (is_some (latch_at s.latches p l)) two.1 in
        let low : l < 4 = below_four l two.0 in
        let held = full-latch (latch_at s.latches p l) three.1 in
        let node = at_node-met (ops.wants l) s.nodes p three.0 in
        let inside : p < length network.sizes = within ops network holds Q missing kept plan s u p node.0 node.1 in
        let at : slice_get s.nodes p ≡ Some (now (plan.courses p)) = u.nodes p inside in
        let wants : ops.wants l (now (plan.courses p)) ≡ true = ap (λ o. given false (ops.wants l) o) (sym at) ∙ three.0 in
        let end : IsEnd network p l = record { processor = inside; link = low } in
        let rest : List ℕ = outgoing plan (far_at network p l) ++ missing (Link p l) in
        let bytes : taken_by l (plan.courses p) ≡ held.0 ∷ rest = u.bytes (Link p l) end ∙ ap (λ o. bytes_in o ++ rest) held.1 in
        let next = goes-take ops holds Q p (plan.courses p) (u.courses p inside) l held.0 rest low wants bytes in
        record {
          inside = inside;
          low = low;
          byte = held.0;
          held = held.1;
          boots = next.0;
          goes = next.1;
          sender = sym (u.full (Link p l) end) ∙ three.1;
        }

    module _ (p l : ℕ) (on : enabled ops network holds s (Take p l) ≡ true) where
      h : Taking p l
      h = take-goes p l on

      abbrev once : Plan N
      once = record plan { courses = advanced p plan.courses }

      abbrev nodes_once : List N
      nodes_once = changed (ops.take l (unwrap_or (latch_at s.latches p l) 0)) s.nodes p

      abbrev board : Far → BoardState N
      board far = record {
        nodes = nodes_acknowledged ops far nodes_once;
        latches = slice_set s.latches (4 * p + l) None;
        host = host_acknowledged far s.host;
      }

      place_of : IsEnd network p l
      place_of = record { processor = h.inside; link = h.low }

      nodes_are : (q : ℕ) → q < length network.sizes → slice_get nodes_once q ≡ Some (now (once.courses q))
      nodes_are =
          let byte : unwrap_or (latch_at s.latches p l) 0 ≡ h.byte = ap (λ o. unwrap_or o 0) h.held in
          let same : ops.take l (unwrap_or (latch_at s.latches p l) 0) (now (plan.courses p)) ≡ now (behind (plan.courses p)) =
          ap (λ b. ops.take l b (now (plan.courses p))) byte ∙ ap (λ k. ops.take k h.byte (now (plan.courses p))) h.boots ∙ h.goes.does.1 in
          nodes-advanced (ops.take l (unwrap_or (latch_at s.latches p l) 0)) s.nodes plan.courses (length network.sizes) p h.inside u.nodes
          same

      courses_are : (q : ℕ) → q < length network.sizes → IsCourse ops holds Q q (once.courses q)
      courses_are = courses-advanced ops network holds Q plan.courses (length network.sizes) p u.courses h.goes.course

      count_is : length nodes_once ≡ length network.sizes
      count_is = length-changed (ops.take l (unwrap_or (latch_at s.latches p l) 0)) s.nodes p ∙ u.count

      latches_are : length (slice_set s.latches (4 * p + l) None) ≡ 4 * length network.sizes
      latches_are = length-set s.latches (4 * p + l) None ∙ u.latches

      empty : (far : Far) → latch_of (board far) (Link p l) ≡ None
      empty far = latch-set_same s.latches p l None (room-for ops network holds Q missing kept plan s u p l place_of)

      same_host : (far : Far) → (host_acknowledged far s.host).latch ≡ s.host.latch
      same_host Nothing = refl
      same_host Host = refl
      same_host (Link q m) = refl

      others : (far : Far) (e : Far) → IsWireEnd network e → e ≢ Link p l → latch_of (board far) e ≡ latch_of s e
      others far Nothing place apart = refl
      others far Host place apart = same_host far
      others far (Link q m) place apart =
          latch-set_other s.latches p l q m None h.low place.link (λ e. apart (ap (λ x. Link x m) e.0 ∙ ap (Link p) e.1))

      once_comes : (e : Far) → e ≢ Link p l → incoming once e ≡ incoming plan e
      once_comes Nothing apart = refl
      once_comes Host apart = refl
      once_comes (Link q m) apart = take-else ops holds Q p plan.courses l h.byte h.boots h.goes q m apart

      once_goes : (e : Far) → outgoing once e ≡ outgoing plan e
      once_goes Nothing = refl
      once_goes Host = refl
      once_goes (Link q m) = take-sends ops holds Q p plan.courses l h.byte h.boots h.goes q m

      once_waits : (e : Far) → waiting once e ≡ waiting plan e
      once_waits Nothing = refl
      once_waits Host = refl
      once_waits (Link q m) = take-waits ops holds Q p plan.courses l h.byte h.boots h.goes q m

      -- ---- from the host

      abbrev from_host : Plan N
      from_host = advanced_at Host once

      module _ (is : far_at network p l ≡ Host) where
        host_waits_else : (e : Far) → e ≢ far_at network p l → waiting from_host e ≡ waiting plan e
        host_waits_else Nothing apart = refl
        host_waits_else Host apart = absurd (apart (sym is))
        host_waits_else (Link q m) apart = once_waits (Link q m)

        host_comes_else : (e : Far) → e ≢ Link p l → incoming from_host e ≡ incoming plan e
        host_comes_else Nothing apart = refl
        host_comes_else Host apart = refl
        host_comes_else (Link q m) apart = once_comes (Link q m) apart

        host_goes : (e : Far) → outgoing from_host e ≡ outgoing plan e
        host_goes Nothing = refl
        host_goes Host = refl
        host_goes (Link q m) = once_goes (Link q m)

        host_taken : Taken network u.pairing missing plan from_host s (board Host) (fits ops network holds Q missing kept plan s u)
            (Link p l) h.byte
        host_taken = record {
          place = place_of;
          comes = take-here ops holds Q p plan.courses l h.byte h.boots h.goes;
          comes_else = host_comes_else;
          goes = host_goes;
          waits = ap (waiting from_host) is;
          waits_else = host_waits_else;
          held = h.held;
          latch = empty Host;
          latch_else = others Host;
        }

        host_fits : (e : Far) → IsWireEnd network e → Fits network missing from_host (board Host) e
        host_fits =
            fits-taken network u.pairing missing plan from_host s (board Host) (fits ops network holds Q missing kept plan s u) (Link p l)
            h.byte
            host_taken

        by_host : IsUnderWay ops network holds Q missing kept from_host (board Host)
        by_host = record {
          pairing = u.pairing;
          count = count_is;
          latches = latches_are;
          nodes = nodes_are;
          courses = courses_are;
          bytes = λ e place. (host_fits e place).bytes;
          full = λ e place. (host_fits e place).full;
          wired = λ q m end none. once_goes (Link q m) ∙ u.wired q m end none;
          quiet = λ q m end none. once_waits (Link q m) ∙ u.quiet q m end none;
          sends = u.sends;
          waits = refl;
          keeps = u.keeps;
          room = u.room;
        }

      -- ---- from another processor

      module _ (q m : ℕ) (is : far_at network p l ≡ Link q m) where
        abbrev from_other : Plan N
        from_other = advanced_at (Link q m) once

        sender_end : IsEnd network q m
        sender_end = u.pairing.ends p l q m place_of is

        sender_waits : is_waiting m (acts_left (once.courses q)) ≡ true
        sender_waits = once_waits (Link q m) ∙ ap (waiting plan) (sym is) ∙ h.sender

        g : Goes ops holds Q q (once.courses q) (Acks m)
        g = goes-acknowledge ops holds Q q (once.courses q) (courses_are q sender_end.processor) m sender_waits

        wire : other_end network (Link q m) ≢ Nothing
        wire none = let back : Link p l ≡ Nothing = sym (u.pairing.ways p l q m place_of is) ∙ none in cc

        other_waits_else : (e : Far) → e ≢ far_at network p l → waiting from_other e ≡ waiting plan e
        other_waits_else Nothing apart = refl
        other_waits_else Host apart = refl
        other_waits_else (Link k j) apart =
            acknowledge-else ops holds Q q once.courses m g k j (λ e. apart (e ∙ sym is)) ∙ once_waits (Link k j)

        other_comes : (e : Far) → incoming from_other e ≡ incoming once e
        other_comes Nothing = refl
        other_comes Host = refl
        other_comes (Link k j) = acknowledge-takes ops holds Q q once.courses m g k j

        other_goes : (e : Far) → outgoing from_other e ≡ outgoing once e
        other_goes Nothing = refl
        other_goes Host = refl
        other_goes (Link k j) = acknowledge-sends ops holds Q q once.courses m g k j

        other_taken : Taken network u.pairing missing plan from_other s (board (Link q m)) (fits ops network holds Q missing kept plan s u)
            (Link p l) h.byte
        other_taken = record {
          place = place_of;
          comes = take-here ops holds Q p plan.courses l h.byte h.boots h.goes ∙ ap (λ bs. h.byte ∷ bs) (sym (other_comes (Link p l)));
          comes_else = λ e apart. other_comes e ∙ once_comes e apart;
          goes = λ e. other_goes e ∙ once_goes e;
          waits = ap (waiting from_other) is ∙ acknowledge-free ops holds Q q once.courses m g;
          waits_else = other_waits_else;
          held = h.held;
          latch = empty (Link q m);
          latch_else = others (Link q m);
        }

        other_fits : (e : Far) → IsWireEnd network e → Fits network missing from_other (board (Link q m)) e
        other_fits =
            fits-taken network u.pairing missing plan from_other s (board (Link q m)) (fits ops network holds Q missing kept plan s u)
            (Link p l)
            h.byte other_taken

        by_other : IsUnderWay ops network holds Q missing kept from_other (board (Link q m))
        by_other = record {
          pairing = u.pairing;
          count = length-changed (ops.acknowledge m) nodes_once q ∙ count_is;
          latches = latches_are;
          nodes = nodes-advanced (ops.acknowledge m) nodes_once once.courses (length network.sizes) q sender_end.processor nodes_are g.does.3;
          courses = courses-advanced ops network holds Q once.courses (length network.sizes) q courses_are g.course;
          bytes = λ e place. (other_fits e place).bytes;
          full = λ e place. (other_fits e place).full;
          wired = λ k j end none. other_goes (Link k j) ∙ once_goes (Link k j) ∙ u.wired k j end none;
          quiet = λ k j end none. other_waits_else (Link k j) (λ e. wire (ap (other_end network) (sym (e ∙ is)) ∙ none)) ∙ u.quiet k j end
              none;
          sends = u.sends;
          waits = u.waits;
          keeps = u.keeps;
          room = u.room;
        }

      by_far : (far : Far) → far_at network p l ≡ far → IsUnderWay ops network holds Q missing kept (advanced_at far once) (board far)
      by_far Nothing is = let never : waiting plan Nothing ≡ true = ap (waiting plan) (sym is) ∙ h.sender in cc
      by_far Host is = by_host is
      by_far (Link q m) is = by_other q m is

      pub under_way-take : IsUnderWay ops network holds Q missing kept (plan_after network (Take p l) plan) (step ops network (Take p l) s)
      under_way-take = by_far (far_at network p l) refl
