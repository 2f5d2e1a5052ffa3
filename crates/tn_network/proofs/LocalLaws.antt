-- What a pick leaves as it was.
use Rattle.std.proofs.Common.{◌≡◌, ◌≢◌, ℕ, ◌+◌, ◌*◌, ◌<◌, inl, inr, Bool, true, false, List, length, Option, Some, None, refl, sym, ap}
use Rattle.std.proofs.Common.{subst, ◌∙◌, arith}
use Rattle.std.specs.Prelude.{slice_get, slice_set, is_some, nat_lt, ◌&&◌}
use Rattle.std.proofs.lemmas.Bool.{cases_lt}
use Rattle.std.proofs.lemmas.Bool.Decides.{nat_tests}
use Rattle.std.proofs.lemmas.List.{get_or_past}
use Rattle.tn_net.specs.declared.networks.Far.{Far}
use Rattle.tn_net.specs.declared.networks.Far.TheVariants.{Nothing, Host, Link}
use Rattle.tn_net.specs.Networks.{NetworkState, IsEnd, IsPairing, far_at}
use Rattle.tn_network.specs.declared.picks.Pick.{Pick}
use Rattle.tn_network.specs.declared.picks.Pick.TheVariants.{HostSend, HostTake, Proc, Send, Take}
use Rattle.tn_network.specs.Boards.{BoardState, WiredBoard, changed, latch_at}
use Rattle.tn_network.specs.NodeOps.{NodeOps}
use Rattle.tn_network.specs.Steps.{offered, ready, step, after_pick, latched, host_latched, nodes_acknowledged, host_acknowledged}
use Rattle.tn_network.specs.Wires.{IsBoard}
use Rattle.tn_network.specs.Locality.{actor, other_end, IsNotAt, IsSameAt, IsLocal}
use Rattle.tn_network.proofs.NodeLists.{slice_get-changed_other, latch-set_other}
use Rattle.tn_network.proofs.WireLaws.{both}

module _ {N : Type 0} (ops : NodeOps N) (network : NetworkState) (s : BoardState N) (pairing : IsPairing network) where
  -- a latch of another processor is not set
  latch_apart : (latches : List (Option ℕ)) (p l q m : ℕ) (x : Option ℕ) → l < 4 → m < 4 → q ≢ p
      → latch_at (slice_set latches (4 * p + l) x) q m ≡ latch_at latches q m
  latch_apart latches p l q m x low below apart = latch-set_other latches p l q m x low below (λ same. apart same.0)

  low_link : (l : ℕ) (rest : Bool) → (nat_lt l 4 && rest) ≡ true → l < 4
  low_link l rest r = let low : nat_lt l 4 ≡ true = (both (nat_lt l 4) rest r).0 in grind (arith, nat_tests)

  sent_latches : (p l q m : ℕ) (far : Far) (x : Option ℕ) → ((t k : ℕ) → far ≡ Link t k → k < 4) → IsNotAt q far → m < 4
      → latch_at (latched far x s.latches) q m ≡ latch_at s.latches q m
  sent_latches p l q m Nothing x low apart below = refl
  sent_latches p l q m Host x low apart below = refl
  sent_latches p l q m (Link t k) x low apart below = latch_apart s.latches t k q m x (low t k refl) below apart

  acknowledged_nodes : (q : ℕ) (far : Far) (nodes : List N) → IsNotAt q far
      → slice_get (nodes_acknowledged ops far nodes) q ≡ slice_get nodes q
  acknowledged_nodes q Nothing nodes apart = refl
  acknowledged_nodes q Host nodes apart = refl
  acknowledged_nodes q (Link t k) nodes apart = slice_get-changed_other (ops.acknowledge k) nodes t q apart

  latched_host : (far : Far) (x : Option ℕ) → far ≢ Host → host_latched far x s.host ≡ s.host
  latched_host Nothing x apart = refl
  latched_host Host x apart = absurd (apart refl)
  latched_host (Link t k) x apart = refl

  acknowledged_host : (far : Far) → far ≢ Host → host_acknowledged far s.host ≡ s.host
  acknowledged_host Nothing apart = refl
  acknowledged_host Host apart = absurd (apart refl)
  acknowledged_host (Link t k) apart = refl

  -- a link that is wired to another is a link of a processor
  far_low : (p l t k : ℕ) → l < 4 → far_at network p l ≡ Link t k → k < 4
  far_low p l t k low is = (pairing.ends p l t k (record { processor = inside; link = low }) is).link
    where
      inside : p < length network.sizes
      inside = elim (cases_lt p (length network.sizes)) [
        | inl small ↦ small
        | inr large ↦ absurd
            (let none : far_at network p l ≡ Nothing = get_or_past network.fars (4 * p + l) Nothing (omega (arith, pairing.room)) in
            cc)
      ]

  pub step-local : (pick : Pick) → ready ops network s pick ≡ true → IsLocal network pick s (step ops network pick s)
  step-local HostSend r = record {
    others = λ q apart far. record {
      node = refl;
      latches = λ m below. latch_apart s.latches network.root network.root_link q m _ pairing.root.link below apart;
    };
    host = λ apart. absurd (apart refl);
  }
  step-local HostTake r = record {
    others = λ q apart far. record {
      node = slice_get-changed_other (ops.acknowledge network.root_link) s.nodes network.root q apart;
      latches = λ m below. refl;
    };
    host = λ apart. absurd (apart refl);
  }
  step-local (Proc p slice clock) r = record {
    others = λ q apart far. record {
      node = slice_get-changed_other (ops.run p slice clock) s.nodes p q apart;
      latches = λ m below. refl;
    };
    host = λ apart. refl;
  }
  step-local (Send p l) r =
      let low : l < 4 = low_link l _ r in
      record {
        others = λ q apart far. record {
          node = slice_get-changed_other (ops.send l) s.nodes p q apart;
          latches = λ m below. sent_latches p l q m (far_at network p l) _ (λ t k is. far_low p l t k low is) far below;
        };
        host = λ apart. latched_host (far_at network p l) _ apart;
      }
  step-local (Take p l) r =
      let low : l < 4 = low_link l _ r in
      record {
        others = λ q apart far. record {
          node = acknowledged_nodes q (far_at network p l) _ far ∙ slice_get-changed_other (ops.take l _) s.nodes p q apart;
          latches = λ m below. latch_apart s.latches p l q m None low below apart;
        };
        host = λ apart. acknowledged_host (far_at network p l) apart;
      }

pub local_after : {N : Type 0} (ops : NodeOps N) (IsSound : N → Type 0) (pick : Pick) (b t : WiredBoard N)
    → IsBoard ops IsSound b.network b.state → ready ops b.network b.state pick ≡ true → t ≡ after_pick ops pick b
    → IsLocal b.network pick b.state t.state
local_after {N = N} ops IsSound pick b t board r is =
    subst (λ (x : WiredBoard N). IsLocal b.network pick b.state x.state) (sym is) (step-local ops b.network b.state board.pairing pick r)
