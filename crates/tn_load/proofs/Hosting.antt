-- An enabled pick of the host leaves the network under way.
use Rattle.std.proofs.Common.{◌≡◌, ◌≢◌, ℕ, ◌+◌, ◌*◌, Bool, true, false, List, [], ◌∷◌, ◌++◌, length, Some, refl, sym, ap, ◌∙◌}
use Rattle.std.specs.Prelude.{is_some, nat_lt, not}
use Rattle.std.proofs.Math.ListN.{length-set}
use Rattle.std.proofs.lemmas.List.{append_assoc}
use Rattle.tn_net.specs.declared.networks.Far.{Far}
use Rattle.tn_net.specs.declared.networks.Far.TheVariants.{Nothing, Host, Link}
use Rattle.tn_net.specs.Networks.{NetworkState}
use Rattle.tn_network.specs.declared.picks.Pick.TheVariants.{HostSend, HostTake}
use Rattle.tn_network.specs.Hosts.{next_byte, other_bytes, kept_with}
use Rattle.tn_network.specs.Boards.{BoardState}
use Rattle.tn_network.specs.NodeOps.{NodeOps}
use Rattle.tn_network.specs.Holds.{HoldState, enabled}
use Rattle.tn_network.specs.Steps.{step}
use Rattle.tn_network.proofs.NodeLists.{length-changed}
use Rattle.tn_network.proofs.NodeLists.{latch-set_same, latch-set_other}
use Rattle.tn_load.specs.Acts.{Act}
use Rattle.tn_load.specs.Acts.Act.{Acks}
use Rattle.tn_load.specs.Plans.{Plan, plan_after}
use Rattle.tn_load.specs.Shares.{IsWireEnd, other_end, incoming, outgoing, waiting, latch_of, bytes_in}
use Rattle.tn_load.specs.UnderWay.{IsUnderWay}
use Rattle.tn_load.proofs.Going.{Goes, goes-acknowledge}
use Rattle.tn_load.proofs.Latches.{full-latch, Fits, Sent, fits-sent, Taken, fits-taken}
use Rattle.tn_load.proofs.Heads.{acknowledge-takes, acknowledge-sends}
use Rattle.tn_load.proofs.Heads.{acknowledge-free, acknowledge-else}
use Rattle.tn_load.proofs.OnePick.{fits, room-for, both, nodes-advanced, courses-advanced}

module _ {N : Type 0} (ops : NodeOps N) (network : NetworkState) (holds : HoldState) (Q : ℕ → N → List Act → Type 0)
    (missing : Far → List ℕ) (kept : List ℕ) (plan : Plan N) (s : BoardState N) (u : IsUnderWay ops network holds Q missing kept plan s)
  where
    next-first : (bytes : List ℕ) (byte : ℕ) → next_byte bytes ≡ Some byte → bytes ≡ byte ∷ other_bytes bytes
    next-first [] byte is = cc
    next-first (b ∷ bytes) byte is = cc

    others-first : (bytes rest : List ℕ) (byte : ℕ) → bytes ≡ byte ∷ rest → bytes ≡ byte ∷ other_bytes bytes
    others-first [] rest byte is = cc
    others-first (b ∷ bytes) rest byte is = cc

    unset : (x : Bool) → not x ≡ true → x ≡ false
    unset true h = cc
    unset false h = refl

    -- ---- it sends

    pub record HostSending : Type 0 where
      pub byte : ℕ
      pub is : plan.sends ≡ byte ∷ other_bytes plan.sends
      pub next : next_byte s.host.left ≡ Some byte
      pub free : plan.waits ≡ false

    pub host_send-goes : enabled ops network holds s HostSend ≡ true → HostSending
    host_send-goes on =
        let two = both (is_some (next_byte s.host.left)) (not s.host.sent) on in
        let next = full-latch (next_byte s.host.left) two.0 in
        record {
          byte = next.0;
          is = next-first plan.sends next.0 (ap next_byte (sym u.sends) ∙ next.1);
          next = next.1;
          free = sym u.waits ∙ unset s.host.sent two.1;
        }

    module _ (on : enabled ops network holds s HostSend ≡ true) where
      h : HostSending
      h = host_send-goes on

      abbrev new : Plan N
      new = plan_after network HostSend plan

      abbrev t : BoardState N
      t = step ops network HostSend s

      comes : (e : Far) → incoming new e ≡ incoming plan e
      comes Nothing = refl
      comes Host = refl
      comes (Link q m) = refl

      goes_else : (e : Far) → e ≢ Host → outgoing new e ≡ outgoing plan e
      goes_else Nothing apart = refl
      goes_else Host apart = absurd (apart refl)
      goes_else (Link q m) apart = refl

      waits_else : (e : Far) → e ≢ Host → waiting new e ≡ waiting plan e
      waits_else Nothing apart = refl
      waits_else Host apart = absurd (apart refl)
      waits_else (Link q m) apart = refl

      latch_else : (e : Far) → IsWireEnd network e → e ≢ Link network.root network.root_link → latch_of t e ≡ latch_of s e
      latch_else Nothing place apart = refl
      latch_else Host place apart = refl
      latch_else (Link k j) place apart =
          latch-set_other s.latches network.root network.root_link k j (next_byte s.host.left) u.pairing.root.link place.link
          (λ e. apart (ap (λ x. Link x j) e.0 ∙ ap (Link network.root) e.1))

      sent : Sent network u.pairing missing plan new s t (fits ops network holds Q missing kept plan s u) Host h.byte
      sent = record {
        place = tt;
        wired = λ is. cc;
        comes = comes;
        goes = h.is;
        goes_else = goes_else;
        free = h.free;
        waits = refl;
        waits_else = waits_else;
        latch = latch-set_same s.latches network.root network.root_link (next_byte s.host.left)
            (room-for ops network holds Q missing kept plan s u network.root network.root_link u.pairing.root) ∙ h.next;
        latch_else = latch_else;
      }

      all : (e : Far) → IsWireEnd network e → Fits network missing new t e
      all = fits-sent network u.pairing missing plan new s t (fits ops network holds Q missing kept plan s u) Host h.byte sent

      pub under_way-host_send : IsUnderWay ops network holds Q missing kept (plan_after network HostSend plan) (step ops network HostSend s)
      under_way-host_send = record {
        pairing = u.pairing;
        count = u.count;
        latches = length-set s.latches (4 * network.root + network.root_link) (next_byte s.host.left) ∙ u.latches;
        nodes = u.nodes;
        courses = u.courses;
        bytes = λ e place. (all e place).bytes;
        full = λ e place. (all e place).full;
        wired = u.wired;
        quiet = u.quiet;
        sends = ap other_bytes u.sends;
        waits = refl;
        keeps = u.keeps;
        room = u.room;
      }

    -- ---- it takes

    pub record HostTaking : Type 0 where
      pub byte : ℕ
      pub held : s.host.latch ≡ Some byte
      pub is : plan.keeps ≡ byte ∷ other_bytes plan.keeps
      pub goes : Goes ops holds Q network.root (plan.courses network.root) (Acks network.root_link)

    pub host_take-goes : enabled ops network holds s HostTake ≡ true → HostTaking
    host_take-goes on =
        let two = both (is_some s.host.latch) (nat_lt (length s.host.kept) 65536) on in
        let held = full-latch s.host.latch two.0 in
        let rest : List ℕ = outgoing plan (Link network.root network.root_link) ++ missing Host in
        let bytes : plan.keeps ≡ held.0 ∷ rest = u.bytes Host tt ∙ ap (λ o. bytes_in o ++ rest) held.1 in
        record {
          byte = held.0;
          held = held.1;
          is = others-first plan.keeps rest held.0 bytes;
          goes = goes-acknowledge ops holds Q network.root (plan.courses network.root) (u.courses network.root u.pairing.root.processor)
              network.root_link (sym (u.full Host tt) ∙ two.0);
        }

    module _ (on : enabled ops network holds s HostTake ≡ true) where
      k : HostTaking
      k = host_take-goes on

      abbrev take_new : Plan N
      take_new = plan_after network HostTake plan

      abbrev take_t : BoardState N
      take_t = step ops network HostTake s

      root_wired : other_end network (Link network.root network.root_link) ≢ Nothing
      root_wired none = let bad : Host ≡ Nothing = sym u.pairing.hosted ∙ none in cc

      take_comes : (e : Far) → e ≢ Host → incoming take_new e ≡ incoming plan e
      take_comes Nothing apart = refl
      take_comes Host apart = absurd (apart refl)
      take_comes (Link q m) apart = acknowledge-takes ops holds Q network.root plan.courses network.root_link k.goes q m

      take_goes : (e : Far) → outgoing take_new e ≡ outgoing plan e
      take_goes Nothing = refl
      take_goes Host = refl
      take_goes (Link q m) = acknowledge-sends ops holds Q network.root plan.courses network.root_link k.goes q m

      take_waits : (e : Far) → e ≢ Link network.root network.root_link → waiting take_new e ≡ waiting plan e
      take_waits Nothing apart = refl
      take_waits Host apart = refl
      take_waits (Link q m) apart = acknowledge-else ops holds Q network.root plan.courses network.root_link k.goes q m apart

      take_latches : (e : Far) → IsWireEnd network e → e ≢ Host → latch_of take_t e ≡ latch_of s e
      take_latches Nothing place apart = refl
      take_latches Host place apart = absurd (apart refl)
      take_latches (Link q m) place apart = refl

      taken : Taken network u.pairing missing plan take_new s take_t (fits ops network holds Q missing kept plan s u) Host k.byte
      taken = record {
        place = tt;
        comes = k.is;
        comes_else = take_comes;
        goes = take_goes;
        waits = acknowledge-free ops holds Q network.root plan.courses network.root_link k.goes;
        waits_else = take_waits;
        held = k.held;
        latch = refl;
        latch_else = take_latches;
      }

      all_taken : (e : Far) → IsWireEnd network e → Fits network missing take_new take_t e
      all_taken = fits-taken network u.pairing missing plan take_new s take_t (fits ops network holds Q missing kept plan s u) Host k.byte
          taken

      pub under_way-host_take : IsUnderWay ops network holds Q missing kept (plan_after network HostTake plan) (step ops network HostTake s)
      under_way-host_take = record {
        pairing = u.pairing;
        count = length-changed (ops.acknowledge network.root_link) s.nodes network.root ∙ u.count;
        latches = u.latches;
        nodes = nodes-advanced (ops.acknowledge network.root_link) s.nodes plan.courses (length network.sizes) network.root
            u.pairing.root.processor u.nodes k.goes.does.3;
        courses = courses-advanced ops network holds Q plan.courses (length network.sizes) network.root u.courses k.goes.course;
        bytes = λ e place. (all_taken e place).bytes;
        full = λ e place. (all_taken e place).full;
        wired = λ q m end none. take_goes (Link q m) ∙ u.wired q m end none;
        quiet = λ q m end none. take_waits (Link q m) (λ e. root_wired (ap (other_end network) (sym e) ∙ none)) ∙ u.quiet q m end none;
        sends = u.sends;
        waits = u.waits;
        keeps = ap (λ o. kept_with o s.host.kept ++ other_bytes plan.keeps) k.held
            ∙ append_assoc s.host.kept (k.byte ∷ []) (other_bytes plan.keeps)
            ∙ ap (λ bs. s.host.kept ++ bs) (sym k.is) ∙ u.keeps;
        room = u.room;
      }
