-- The bits of the picks that are renewed.
use Rattle.std.proofs.Common.{◌≡◌, ◌≢◌, ℕ, zero, suc, ◌+◌, ◌-◌, ◌*◌, ◌/◌, ◌%◌, ◌<◌, ◌≤◌, ◌==◌, ◌⊎◌, inl, inr, Bool, true, false, List}
use Rattle.std.proofs.Common.{length}
use Rattle.std.proofs.Common.{refl, sym, ap, subst, ◌∙◌, arith}
use Rattle.std.specs.Prelude.{nat_lt, nat_le, not, is_some, ◌&&◌, ◌||◌, if◌then◌else◌}
use Rattle.std.proofs.lemmas.Bool.{cases_eq, cases_lt}
use Rattle.std.proofs.lemmas.Bool.Decides.{nat_tests}
use Rattle.tn_net.specs.declared.networks.Far.{Far}
use Rattle.tn_net.specs.declared.networks.Far.TheVariants.{Nothing, Host, Link}
use Rattle.tn_network.specs.declared.picks.Pick.{Pick}
use Rattle.tn_network.specs.declared.picks.Pick.TheVariants.{HostSend, HostTake, Proc, Send, Take}
use Rattle.tn_net.specs.Networks.{far_at}
use Rattle.tn_network.specs.Boards.{WiredBoard, at_node, latch_at}
use Rattle.tn_network.specs.Steps.{offered, is_wired, ready, step, after_pick}
use Rattle.tn_network.specs.Holds.{is_held}
use Rattle.tn_network.specs.Locality.{actor, other_end, IsNotAt, IsLocal}
use Rattle.tn_network.specs.Nets.{NetState, memory_ops, net_enabled, net_after, net_of, released}
use Rattle.tn_network.specs.Inner.PickBits.{has_bit, pick_of, numbered, first_number, is_host, is_below, is_of, is_at, is_touched}
use Rattle.tn_network.specs.Inner.PickBits.{HasRoom, TellPicks}
use Rattle.tn_network.specs.Inner.PickBits.{IsRenewed, IsAmong, kind_enabled, IsNet}
use Rattle.tn_network.proofs.PickOrder.{numbered-pick, parts}
use Rattle.tn_network.specs.Hosts.{host_sends, host_takes}
use Rattle.tn_network.proofs.EnabledLaws.{enabled-same, enabled-past, host-numbers}

-- ---- tests of numbers

test_both : (a b : Bool) → (a && b) ≡ true → (a ≡ true) × (b ≡ true)
test_both true b h = (refl, h)
test_both false b h = cc

is_below-parts : (p kind k : ℕ) → is_below p kind k ≡ true → (first_number p ≤ k) × (k < first_number p + kind)
is_below-parts p kind k h =
    let low : nat_le (first_number p) k ≡ true = (test_both (nat_le (first_number p) k) (nat_lt k (first_number p + kind)) h).0 in
    let high : nat_lt k (first_number p + kind) ≡ true = (test_both (nat_le (first_number p) k) (nat_lt k (first_number p + kind)) h).1 in
    (grind (arith, nat_tests), grind (arith, nat_tests))

is_of-kind : (p kind : ℕ) → kind < 9 → is_of p (first_number p + kind) ≡ true
is_of-kind p kind small =
    let low : nat_le (first_number p) (first_number p + kind) ≡ true = grind (arith, nat_tests) in
    let high : nat_lt (first_number p + kind) (first_number p + 9) ≡ true = grind (arith, nat_tests) in
    rw (low, high) refl

-- ---- the picks of one processor

low_link : (kind : ℕ) → kind == 0 ≡ false → nat_lt kind 5 ≡ true → nat_lt (kind - 1) 4 ≡ true
low_link kind some low = grind (arith, nat_tests)

high_link : (kind : ℕ) → nat_lt kind 5 ≡ false → kind < 9 → nat_lt (kind - 5) 4 ≡ true
high_link kind high small = grind (arith, nat_tests)

-- whether it is enabled is what its node tells
pub kind_enabled-pick : (n : NetState) (p kind : ℕ) → kind < 9 → kind_enabled n p kind ≡ net_enabled n (pick_of p kind)
kind_enabled-pick n p kind small = go (kind == 0) (nat_lt kind 5) refl refl
  where
    go : (a b : Bool) → kind == 0 ≡ a → nat_lt kind 5 ≡ b
        → (if a
        then at_node false memory_ops.runs n.board.state.nodes p && not (is_held memory_ops n.holds n.board.state.nodes p)
        else
        (if b
        then is_some (offered memory_ops n.board.state.nodes p (kind - 1)) && is_wired (far_at n.board.network p (kind - 1))
        else at_node false (memory_ops.wants (kind - 5)) n.board.state.nodes p && is_some (latch_at n.board.state.latches p (kind - 5))))
        ≡ net_enabled n (if a then Proc p false 0 else (if b then Send p (kind - 1) else Take p (kind - 5)))
    go true b ha hb = refl
    go false true ha hb = rw (low_link kind ha hb) refl
    go false false ha hb = rw (high_link kind hb small) refl

-- with one more of them renewed
pub renewed-more : (n : NetState) (p kind : ℕ) (old between new : List ℕ) (on : Bool) → kind < 9 → length between ≡ length old
    → on ≡ kind_enabled n p kind → IsRenewed (is_below p kind) n old between → (first : ℕ) → first ≡ first_number p
    → ((j : ℕ) → j < 64 * length between → has_bit new j ≡ (if j == first + kind then on else has_bit between j))
    → IsRenewed (is_below p (kind + 1)) n old new
renewed-more n p kind old between new on small same is_on before first is_first set k within =
    set_at k (omega arith) ∙ go (k == first_number p + kind) refl
  where
    set_at : (j : ℕ) → j < 64 * length between → has_bit new j ≡ (if j == first_number p + kind then on else has_bit between j)
    set_at =
        subst (λ (x : ℕ). (j : ℕ) → j < 64 * length between
        → has_bit new j ≡ (if j == x + kind then on else has_bit between j)) is_first set

    other : k == first_number p + kind ≡ false → nat_lt k (first_number p + kind) ≡ nat_lt k (first_number p + (kind + 1))
    other apart = grind (arith, nat_tests)

    go : (test : Bool) → k == first_number p + kind ≡ test
        → (if test then on else has_bit between k) ≡ (if is_below p (kind + 1) k then net_enabled n (numbered k) else has_bit old k)
    go true is =
        let here : k ≡ first_number p + kind = grind (arith, nat_tests) in
        let low : nat_le (first_number p) k ≡ true = grind (arith, nat_tests) in
        let high : nat_lt k (first_number p + (kind + 1)) ≡ true = grind (arith, nat_tests) in
        rw (low, high)
        (is_on ∙ kind_enabled-pick n p kind small
        ∙ ap (λ pick. net_enabled n pick) (sym (numbered-pick p kind small) ∙ ap numbered (sym here)))
    go false is = rw (sym (other is)) (before k within)

-- the last of them is the ninth
pub renewed-start : (n : NetState) (p : ℕ) (old : List ℕ) → IsRenewed (is_below p 0) n old old
renewed-start n p old k within = go (is_below p 0 k) refl
  where
    go : (test : Bool) → is_below p 0 k ≡ test → has_bit old k ≡ (if test then net_enabled n (numbered k) else has_bit old k)
    go true is =
        let bounds = is_below-parts p 0 k is in
        absurd (omega (arith, bounds.0, bounds.1))
    go false is = refl

-- ---- the picks of several

-- two renewals one after the other
pub renewed-both : (n : NetState) (a b : ℕ → Bool) (old between new : List ℕ) → length between ≡ length old → IsRenewed a n old between
    → IsRenewed b n between new → IsRenewed (λ k. a k || b k) n old new
renewed-both n a b old between new same first second k within =
    let inside : k < 64 * length between = omega arith in
    second k inside ∙ go (a k) (b k) (first k within)
  where
    go : (x y : Bool) → has_bit between k ≡ (if x then net_enabled n (numbered k) else has_bit old k)
        → (if y then net_enabled n (numbered k) else has_bit between k) ≡ (if x || y then net_enabled n (numbered k) else has_bit old k)
    go true true h = refl
    go true false h = h
    go false true h = refl
    go false false h = h

-- a test that agrees
pub renewed-agree : (n : NetState) (a b : ℕ → Bool) (old new : List ℕ) → ((k : ℕ) → a k ≡ b k) → IsRenewed a n old new
    → IsRenewed b n old new
renewed-agree n a b old new same h k within =
    h k within ∙ ap (λ (test : Bool). if test then net_enabled n (numbered k) else has_bit old k) (same k)

-- ---- after a pick

-- where the bits of those that it touches are renewed, all tell
pub tell-after : (n : NetState) (pick : Pick) (old new : List ℕ) → length new ≡ length old → TellPicks old n
    → IsLocal n.board.network pick n.board.state (net_after pick n).board.state
    → IsRenewed (is_touched (actor n.board.network pick) (other_end n.board.network pick)) (net_after pick n) old new
    → TellPicks new (net_after pick n)
tell-after n pick old new same tell local renewed k within =
    renewed k inside ∙ go (is_host k) (is_of (actor n.board.network pick) k) (is_at (other_end n.board.network pick) k) refl refl refl
  where
    inside : k < 64 * length old
    inside = omega arith

    not_at : (f : Far) (q kind : ℕ) → kind < 9 → k ≡ first_number q + kind → is_at f k ≡ false → IsNotAt q f
    not_at Nothing q kind small number none = tt
    not_at Host q kind small number none = tt
    not_at (Link t m) q kind small number none = λ e.
        let here : is_of t k ≡ true = rw number (subst (λ (x : ℕ). is_of x (first_number q + kind) ≡ true) e (is_of-kind q kind small)) in
        cc

    go : (a b c : Bool) → is_host k ≡ a → is_of (actor n.board.network pick) k ≡ b → is_at (other_end n.board.network pick) k ≡ c
        → (if a || (b || c) then net_enabled (net_after pick n) (numbered k) else has_bit old k) ≡ net_enabled (net_after pick n)
        (numbered k)
    go true b c ha hb hc = refl
    go false true c ha hb hc = refl
    go false false true ha hb hc = refl
    go false false false ha hb hc =
        let large : 2 ≤ k = grind (arith, nat_tests) in
        let part = parts k large in
        let q : ℕ = part.0 in
        let number : k ≡ first_number part.0 + part.1 = part.3 in
        let apart : part.0 ≢ actor n.board.network pick = λ e.
        (let here : is_of (actor n.board.network pick) k ≡ true =
        rw number (subst (λ (x : ℕ). is_of x (first_number part.0 + part.1) ≡ true) e (is_of-kind part.0 part.1 part.2)) in
        let clash : true ≡ false = sym here ∙ hb in
        cc) in
        let same_there = local.others part.0 apart (not_at (other_end n.board.network pick) part.0 part.1 part.2 number hc) in
        let kept = enabled-same memory_ops n.board.network n.holds n.board.state
        (net_after pick n).board.state part.0 part.1 part.2 same_there in
        let pick_there : numbered k ≡ pick_of part.0 part.1 = ap numbered number ∙ numbered-pick part.0 part.1 part.2 in
        tell k inside ∙ ap (net_enabled n) pick_there ∙ sym kept ∙ ap (net_enabled (net_after pick n)) (sym pick_there)

-- ---- all picks

-- no pick from the number of the picks on is enabled
pub none_above : (n : NetState) (k : ℕ) → first_number (length n.board.state.nodes) ≤ k → net_enabled n (numbered k) ≡ false
none_above n k above =
    let large : 2 ≤ k = omega arith in
    let part = parts k large in
    let past : length n.board.state.nodes ≤ part.0 = omega (arith, part.2, part.3) in
    ap (net_enabled n) (ap numbered part.3 ∙ numbered-pick part.0 part.1 part.2)
    ∙ enabled-past memory_ops n.board.network n.holds n.board.state part.0 part.1 past

-- the numbers below those of one more processor
pub below_more : (p k : ℕ) → (nat_lt k (first_number p) || is_of p k) ≡ nat_lt k (first_number (p + 1))
below_more p k = grind (arith, nat_tests)

-- where the bits of all processors are renewed, and the others clear, all tell
pub tell-all : (n : NetState) (old new : List ℕ) → length new ≡ length old
    → ((k : ℕ) → first_number (length n.board.state.nodes) ≤ k → k < 64 * length old → has_bit old k ≡ false)
    → IsRenewed (λ k. nat_lt k (first_number (length n.board.state.nodes))) n old new → TellPicks new n
tell-all n old new same clear renewed k within = renewed k inside ∙ go (nat_lt k (first_number (length n.board.state.nodes))) refl
  where
    inside : k < 64 * length old
    inside = omega arith

    go : (test : Bool) → nat_lt k (first_number (length n.board.state.nodes)) ≡ test
        → (if test then net_enabled n (numbered k) else has_bit old k) ≡ net_enabled n (numbered k)
    go true is = refl
    go false is =
        let above : first_number (length n.board.state.nodes) ≤ k = grind (arith, nat_tests) in
        clear k above inside ∙ sym (none_above n k above)

-- where all tell, those that no pick has are clear
pub clear-above : (n : NetState) (words : List ℕ) → TellPicks words n → (k : ℕ) → first_number (length n.board.state.nodes) ≤ k
    → k < 64 * length words → has_bit words k ≡ false
clear-above n words tell k above within = tell k within ∙ none_above n k above

-- where the two bits of the host are set, they are renewed
pub host-renewed : (n : NetState) (old between new : List ℕ) (send take : Bool) → length between ≡ length old
    → send ≡ host_sends n.board.state.host → take ≡ host_takes n.board.state.host
    → ((j : ℕ) → j < 64 * length old → has_bit between j ≡ (if j == 0 then send else has_bit old j))
    → ((j : ℕ) → j < 64 * length between → has_bit new j ≡ (if j == 1 then take else has_bit between j)) → IsRenewed is_host n old new
host-renewed n old between new send take same is_send is_take first second zero within =
    second 0 (omega arith) ∙ first 0 within ∙ is_send ∙ sym (host-numbers memory_ops n.board.network n.holds n.board.state).0
host-renewed n old between new send take same is_send is_take first second (suc zero) within =
    second 1 (omega arith) ∙ is_take ∙ sym (host-numbers memory_ops n.board.network n.holds n.board.state).1
host-renewed n old between new send take same is_send is_take first second (suc (suc k)) within =
    let one : suc (suc k) == 1 ≡ false = grind (arith, nat_tests) in
    let none : suc (suc k) == 0 ≡ false = grind (arith, nat_tests) in
    let host : is_host (suc (suc k)) ≡ false = grind (arith, nat_tests) in
    second (suc (suc k)) (omega arith) ∙ rw (one, host) (first (suc (suc k)) within ∙ rw none refl)
