-- What is enabled in a network under way, as the acts that are left tell it.
use Rattle.std.proofs.Common.{◌≡◌, ◌≢◌, ℕ, suc, ◌+◌, ◌<◌, ◌≤◌, Bool, true, false, List, [], ◌∷◌, length, Some, None, refl, sym, ap, subst}
use Rattle.std.proofs.Common.{◌∙◌, arith, length-append}
use Rattle.std.specs.Prelude.{slice_get, is_some, nat_lt, ◌&&◌, ◌^◌, not}
use Rattle.std.proofs.lemmas.Bool.Decides.{nat_tests}
use Rattle.tn_net.specs.declared.networks.Far.{Far}
use Rattle.tn_net.specs.declared.networks.Far.TheVariants.{Nothing, Host, Link}
use Rattle.tn_net.specs.Networks.{NetworkState, far_at}
use Rattle.tn_network.specs.declared.picks.Pick.TheVariants.{HostSend, HostTake, Proc, Send, Take}
use Rattle.tn_network.specs.Hosts.{next_byte}
use Rattle.tn_network.specs.Boards.{BoardState, given, at_node, latch_at}
use Rattle.tn_network.specs.NodeOps.{NodeOps}
use Rattle.tn_network.specs.Holds.{HoldState, entry_of, enabled}
use Rattle.tn_network.specs.Steps.{is_wired, offered}
use Rattle.tn_load.specs.Acts.{Act}
use Rattle.tn_load.specs.Acts.Act.{Step, Takes, Sends}
use Rattle.tn_load.specs.Plans.{Plan, now}
use Rattle.tn_load.specs.Shares.{outgoing}
use Rattle.tn_load.specs.UnderWay.{IsUnderWay}
use Rattle.tn_load.proofs.Going.{Goes}
use Rattle.tn_load.proofs.OnePick.{both, joined}
use Rattle.tn_load.proofs.Heads.{send-here}

module _ {N : Type 0} (ops : NodeOps N) (network : NetworkState) (holds : HoldState) (Q : ℕ → N → List Act → Type 0)
    (missing : Far → List ℕ) (kept : List ℕ) (plan : Plan N) (s : BoardState N) (u : IsUnderWay ops network holds Q missing kept plan s)
  where
    low_test : (l : ℕ) → l < 4 → nat_lt l 4 ≡ true
    low_test l h = grind (arith, nat_tests)

    pub step-enabled : (p clock : ℕ) (slice : Bool) → p < length network.sizes → clock < 2 ^ 32 → Goes ops holds Q p (plan.courses p) Step
        → enabled ops network holds s (Proc p slice clock) ≡ true
    step-enabled p clock slice inside small g =
        let at : slice_get s.nodes p ≡ Some (now (plan.courses p)) = u.nodes p inside in
        let two = both (ops.runs (now (plan.courses p))) (not (holds.held && ops.stands (entry_of holds p) (now (plan.courses p))))
        g.does.0.may in
        let word : nat_lt clock (2 ^ 32) ≡ true = word_test clock small in
        joined (nat_lt clock (2 ^ 32) && at_node false ops.runs s.nodes p)
        (not (holds.held && at_node false (ops.stands (entry_of holds p)) s.nodes p))
        (joined (nat_lt clock (2 ^ 32)) (at_node false ops.runs s.nodes p) word (ap (λ o. given false ops.runs o) at ∙ two.0))
        (ap (λ o. not (holds.held && given false (ops.stands (entry_of holds p)) o)) at ∙ two.1)
      where
        word_test : (clock : ℕ) → clock < 2 ^ 32 → nat_lt clock (2 ^ 32) ≡ true
        word_test clock h = grind (arith, nat_tests)

    pub wired-far : (far : Far) → far ≢ Nothing → is_wired far ≡ true
    wired-far Nothing some = absurd (some refl)
    wired-far Host some = refl
    wired-far (Link q m) some = refl

    pub send-enabled : (p l byte : ℕ) → p < length network.sizes → Goes ops holds Q p (plan.courses p) (Sends l byte)
        → enabled ops network holds s (Send p l) ≡ true
    send-enabled p l byte inside g =
        let at : slice_get s.nodes p ≡ Some (now (plan.courses p)) = u.nodes p inside in
        let out : offered ops s.nodes p l ≡ Some byte = ap (λ o. given None (ops.offers l) o) at ∙ g.does.1 in
        let wire : far_at network p l ≢ Nothing = λ none.
        let nothing : outgoing plan (Link p l) ≡ [] = u.wired p l (record { processor = inside; link = g.does.0.low }) none in
        let some = send-here ops holds Q p plan.courses l byte g in
        cc in
        joined (nat_lt l 4) (is_some (offered ops s.nodes p l) && is_wired (far_at network p l)) (low_test l g.does.0.low)
        (joined (is_some (offered ops s.nodes p l)) (is_wired (far_at network p l)) (ap (λ o. is_some o) out)
        (wired-far (far_at network p l) wire))

    pub take-enabled : (p l byte : ℕ) → p < length network.sizes → l ≡ (plan.courses p).boot → Goes ops holds Q p (plan.courses p)
        (Takes byte)
        → is_some (latch_at s.latches p l) ≡ true → enabled ops network holds s (Take p l) ≡ true
    take-enabled p l byte inside boots g full =
        let at : slice_get s.nodes p ≡ Some (now (plan.courses p)) = u.nodes p inside in
        let low : l < 4 = subst (λ k. k < 4) (sym boots) (u.courses p inside).boot in
        let wants : ops.wants l (now (plan.courses p)) ≡ true = ap (λ k. ops.wants k (now (plan.courses p))) boots ∙ g.does.0.wants in
        joined (nat_lt l 4) (at_node false (ops.wants l) s.nodes p && is_some (latch_at s.latches p l)) (low_test l low)
        (joined (at_node false (ops.wants l) s.nodes p) (is_some (latch_at s.latches p l))
        (ap (λ o. given false (ops.wants l) o) at ∙ wants) full)

    pub host_send-enabled : (byte : ℕ) (rest : List ℕ) → plan.sends ≡ byte ∷ rest → plan.waits ≡ false
        → enabled ops network holds s HostSend ≡ true
    host_send-enabled byte rest is free =
        joined (is_some (next_byte s.host.left)) (not s.host.sent) (ap (λ bs. is_some (next_byte bs)) (u.sends ∙ is))
        (ap not (u.waits ∙ free))

    pub host_take-enabled : (byte : ℕ) (rest : List ℕ) → plan.keeps ≡ byte ∷ rest → is_some s.host.latch ≡ true
        → enabled ops network holds s HostTake ≡ true
    host_take-enabled byte rest is full =
        let some : length plan.keeps ≡ suc (length rest) = ap (λ bs. length bs) is in
        let all : length s.host.kept + length plan.keeps ≡ length kept =
        sym (length-append s.host.kept plan.keeps) ∙ ap (λ bs. length bs) u.keeps in
        let most : length kept ≤ 65536 = u.room in
        let few : length s.host.kept < 65536 = omega (arith, some, all, most) in
        joined (is_some s.host.latch) (nat_lt (length s.host.kept) 65536) full (few_test (length s.host.kept) few)
      where
        few_test : (n : ℕ) → n < 65536 → nat_lt n 65536 ≡ true
        few_test n h = grind (arith, nat_tests)
