-- Exchange: where some picks end at rest, all others go the same way, in another order.
use Rattle.std.proofs.Common.{◌≡◌, ℕ, suc, ◌+◌, ◌≤◌, inl, inr, true, false, List, [], ◌∷◌, length, refl, sym, ap, subst, ◌∙◌, arith}
use Rattle.std.specs.Prelude.{◌↔◌}
use Rattle.tn_net.specs.declared.networks.Far.{Far}
use Rattle.tn_net.specs.Networks.{NetworkState}
use Rattle.tn_network.specs.declared.picks.Pick.{Pick}
use Rattle.tn_network.specs.Boards.{BoardState}
use Rattle.tn_network.specs.NodeOps.{NodeOps}
use Rattle.tn_network.specs.Holds.{HoldState, enabled}
use Rattle.tn_network.specs.PickLists.{AreEnabled, after, AtRest}
use Rattle.tn_network.specs.Steps.{step}
use Rattle.tn_load.specs.Acts.{Act}
use Rattle.tn_load.specs.Plans.{Plan, plan_after}
use Rattle.tn_load.specs.UnderWay.{IsUnderWay}
use Rattle.tn_load.proofs.Keeping.{keeps-on}
use Rattle.tn_load.proofs.Diamonds.{joins}

no_picks : (picks : List Pick) → length picks ≡ 0 → picks ≡ []
no_picks [] is = refl
no_picks (pick ∷ picks) is = absurd (let bad : suc (length picks) ≡ 0 = is in omega (arith, bad))

module _ {N : Type 0} (ops : NodeOps N) (network : NetworkState) (holds : HoldState) (Q : ℕ → N → List Act → Type 0)
    (missing : Far → List ℕ) (kept : List ℕ) where
  -- so many picks lead from a board to another
  pub record Leads (s end : BoardState N) (count : ℕ) : Type 0 where
    pub picks : List Pick
    pub on : AreEnabled ops network holds s picks
    pub there : after ops network s picks ≡ end
    pub length : length picks ≡ count

  -- a pick is the first of picks that lead to the same rest
  one-first : (all : List Pick) (plan : Plan N) (s : BoardState N) → IsUnderWay ops network holds Q missing kept plan s
      → AreEnabled ops network holds s all → AtRest ops network holds (after ops network s all) → (pick : Pick)
      → enabled ops network holds s pick ≡ true
      → (count : ℕ) × (length all ≡ 1 + count) × Leads (step ops network pick s) (after ops network s all) count
  one-first [] plan s u on rest pick pick_on =
      let still : enabled ops network holds s pick ≡ false = rest pick in
      absurd (let bad : true ≡ false = sym pick_on ∙ still in cc)
  one-first (first ∷ all) plan s u on rest pick pick_on = elim (joins ops network holds Q missing kept plan s u first pick on.0 pick_on) [
    | inl alike ↦ (
      length all,
      omega arith,
      record {
        picks = all;
        on = subst (λ t. AreEnabled ops network holds t all) alike on.1;
        there = ap (λ t. after ops network t all) (sym alike);
        length = refl;
      },
    )
    | inr (pick_then, first_then, swap) ↦
        let more = one-first all (plan_after network first plan) (step ops network first s)
        (keeps-on ops network holds Q missing kept plan s u first on.0) on.1 rest pick pick_then in
        let size : length all ≡ 1 + more.0 = more.1 in (
          suc more.0,
          omega (arith, size),
          record {
            picks = first ∷ more.2.picks;
            on = (first_then, subst (λ t. AreEnabled ops network holds t more.2.picks) swap more.2.on);
            there = ap (λ t. after ops network t more.2.picks) (sym swap) ∙ more.2.there;
            length = ap suc more.2.length;
          },
        )
  ]

  -- and so are picks
  pub goes-on-to : (picks all : List Pick) (plan : Plan N) (s : BoardState N) → IsUnderWay ops network holds Q missing kept plan s
      → AreEnabled ops network holds s all → AtRest ops network holds (after ops network s all) → AreEnabled ops network holds s picks
      → (count : ℕ) × (length all ≡ length picks + count) × Leads (after ops network s picks) (after ops network s all) count
  goes-on-to [] all plan s u on rest picks_on =
      (length all, omega arith, record { picks = all; on = on; there = refl; length = refl })
  goes-on-to (pick ∷ picks) all plan s u on rest picks_on =
      let one = one-first all plan s u on rest pick picks_on.0 in
      let then = goes-on-to picks one.2.picks (plan_after network pick plan) (step ops network pick s)
      (keeps-on ops network holds Q missing kept plan s u pick picks_on.0) one.2.on
      (subst (λ t. AtRest ops network holds t) (sym one.2.there) rest) picks_on.1 in
      let size : length all ≡ 1 + one.0 = one.1 in
      let rest_size : length one.2.picks ≡ one.0 = one.2.length in
      let then_size : length one.2.picks ≡ length picks + then.0 = then.1 in (
        then.0,
        omega (arith, size, rest_size, then_size),
        record { picks = then.2.picks; on = then.2.on; there = then.2.there ∙ one.2.there; length = then.2.length },
      )

  module _ (all picks : List Pick) (plan : Plan N) (s : BoardState N) (u : IsUnderWay ops network holds Q missing kept plan s)
      (on : AreEnabled ops network holds s all) (rest : AtRest ops network holds (after ops network s all))
      (picks_on : AreEnabled ops network holds s picks) where
    more : (count : ℕ) × (length all ≡ length picks + count) × Leads (after ops network s picks) (after ops network s all) count
    more = goes-on-to picks all plan s u on rest picks_on

    pub at_most : length picks ≤ length all
    at_most = let size = more.1 in omega (arith, size)

    pub same : length picks ≡ length all → after ops network s picks ≡ after ops network s all
    same full =
        let size = more.1 in
        let count : length more.2.picks ≡ 0 = more.2.length ∙ (let e : more.0 ≡ 0 = omega (arith, size, full) in e) in
        ap (λ ps. after ops network (after ops network s picks) ps) (sym (no_picks more.2.picks count)) ∙ more.2.there

    pub rests : AtRest ops network holds (after ops network s picks) ↔ (length picks ≡ length all)
    rests = (
      λ still. by_picks more.2.picks more.2.on more.2.length still,
      λ full. subst (λ t. AtRest ops network holds t) (sym (same full)) rest,
    )
      where
        by_picks : (ps : List Pick) → AreEnabled ops network holds (after ops network s picks) ps → length ps ≡ more.0
            → AtRest ops network holds (after ops network s picks) → length picks ≡ length all
        by_picks [] ps_on count still = let size = more.1 in let none : 0 ≡ more.0 = count in omega (arith, size, none)
        by_picks (p ∷ ps) ps_on count still =
            let off : enabled ops network holds (after ops network s picks) p ≡ false = still p in
            absurd (let bad : true ≡ false = sym ps_on.0 ∙ off in cc)
