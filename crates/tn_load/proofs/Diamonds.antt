-- Two enabled picks are the same act, or neither minds the other.
use Rattle.std.proofs.Common.{◌≡◌, ◌≢◌, ℕ, zero, suc, ◌+◌, ◌<◌, ◌==◌, ◌⊎◌, inl, inr, Bool, true, false, List, ◌∷◌, Option, Some, None}
use Rattle.std.proofs.Common.{refl, sym, ap, subst, ◌∙◌, arith}
use Rattle.std.specs.Prelude.{slice_get, slice_set, is_some, if◌then◌else◌, nat_lt, ◌&&◌, ◌^◌, not}
use Rattle.std.proofs.lemmas.Bool.{cases_eq}
use Rattle.std.proofs.lemmas.Bool.Decides.{nat_tests}
use Rattle.tn_net.specs.declared.networks.Far.{Far}
use Rattle.tn_net.specs.declared.networks.Far.TheVariants.{Nothing, Host, Link}
use Rattle.tn_net.specs.Networks.{NetworkState, far_at}
use Rattle.tn_network.specs.declared.picks.Pick.{Pick}
use Rattle.tn_network.specs.declared.picks.Pick.TheVariants.{HostSend, HostTake, Proc, Send, Take}
use Rattle.tn_network.specs.Hosts.{other_bytes}
use Rattle.tn_network.specs.Boards.{BoardState, at_node, changed}
use Rattle.tn_network.specs.NodeOps.{NodeOps}
use Rattle.tn_network.specs.Holds.{HoldState, entry_of, enabled}
use Rattle.tn_network.specs.Steps.{step}
use Rattle.tn_network.proofs.NodeLists.{changed-set}
use Rattle.tn_load.specs.Acts.{Act}
use Rattle.tn_load.specs.Acts.Act.{Step, Takes, Sends, Acks}
use Rattle.tn_load.specs.LoneRuns.{is_waiting}
use Rattle.tn_load.specs.Plans.{Course, Plan, now, acts_left, behind, advanced, advanced_at, plan_after}
use Rattle.tn_load.specs.Shares.{waiting}
use Rattle.tn_load.specs.UnderWay.{IsUnderWay}
use Rattle.tn_load.specs.Exchange.{Joins}
use Rattle.tn_load.proofs.Going.{Goes, goes-acknowledge, advanced-other}
use Rattle.tn_load.proofs.OnePick.{both, step-goes, Sending, send-goes}
use Rattle.tn_load.proofs.Taking.{Taking, take-goes}
use Rattle.tn_load.proofs.Hosting.{HostSending, host_send-goes, HostTaking, host_take-goes}
use Rattle.tn_load.proofs.Enabling.{step-enabled, send-enabled, take-enabled, host_send-enabled, host_take-enabled}
use Rattle.tn_load.proofs.Keeping.{keeps-on}
use Rattle.tn_load.proofs.Latches.{cases_far}
use Rattle.tn_load.proofs.Sameness.{same-state}

-- ---- plans, whatever the order

behinds : {N : Type 0} → ℕ → Course N → Course N
behinds zero c = c
behinds (suc k) c = behind (behinds k c)

behinds-add : {N : Type 0} (a b : ℕ) (c : Course N) → behinds a (behinds b c) ≡ behinds (a + b) c
unfolding behinds
behinds-add zero b c = ap (λ n. behinds n c) (let e : b ≡ 0 + b = omega arith in e)
behinds-add (suc a) b c =
    ap (λ x. behind x) (behinds-add a b c) ∙ ap (λ n. behinds n c) (let e : suc (a + b) ≡ suc a + b = omega arith in e)

behinds-swap : {N : Type 0} (a b : ℕ) (c : Course N) → behinds a (behinds b c) ≡ behinds b (behinds a c)
behinds-swap a b c = behinds-add a b c ∙ ap (λ n. behinds n c) (let e : a + b ≡ b + a = omega arith in e) ∙ sym (behinds-add b a c)

hit : ℕ → ℕ → ℕ
hit p q = if q == p then 1 else 0

advanced-hit : {N : Type 0} (p : ℕ) (courses : ℕ → Course N) (q : ℕ) → advanced p courses q ≡ behinds (hit p q) (courses q)
unfolding advanced behinds hit
advanced-hit p courses q = go (q == p)
  where
    go : (test : Bool) → (if test then behind (courses q) else courses q) ≡ behinds (if test then 1 else 0) (courses q)
    go true = refl
    go false = refl

far_hit : Far → ℕ → ℕ
far_hit Nothing q = 0
far_hit Host q = 0
far_hit (Link p l) q = hit p q

advanced_at-hit : {N : Type 0} (far : Far) (plan : Plan N) (q : ℕ) → (advanced_at far plan).courses q ≡ behinds (far_hit far q)
    (plan.courses q)
unfolding behinds far_hit
advanced_at-hit Nothing plan q = refl
advanced_at-hit Host plan q = refl
advanced_at-hit (Link p l) plan q = advanced-hit p plan.courses q

hits : NetworkState → Pick → ℕ → ℕ
hits network HostSend q = 0
hits network HostTake q = hit network.root q
hits network (Proc p slice clock) q = hit p q
hits network (Send p l) q = hit p q
hits network (Take p l) q = far_hit (far_at network p l) q + hit p q

after-hits : {N : Type 0} (network : NetworkState) (pick : Pick) (plan : Plan N) (q : ℕ)
    → (plan_after network pick plan).courses q ≡ behinds (hits network pick q) (plan.courses q)
unfolding behinds hits
after-hits network HostSend plan q = refl
after-hits network HostTake plan q = advanced-hit network.root plan.courses q
after-hits network (Proc p slice clock) plan q = advanced-hit p plan.courses q
after-hits network (Send p l) plan q = advanced-hit p plan.courses q
after-hits network (Take p l) plan q =
    advanced_at-hit (far_at network p l) (record plan { courses = advanced p plan.courses }) q
    ∙ ap (λ c. behinds (far_hit (far_at network p l) q) c) (advanced-hit p plan.courses q)
    ∙ behinds-add (far_hit (far_at network p l) q) (hit p q) (plan.courses q)

pub courses-swap : {N : Type 0} (network : NetworkState) (one two : Pick) (plan : Plan N) (q : ℕ)
    → (plan_after network two (plan_after network one plan)).courses q ≡ (plan_after network one (plan_after network two plan)).courses q
courses-swap network one two plan q =
    after-hits network two (plan_after network one plan) q ∙ ap (λ c. behinds (hits network two q) c) (after-hits network one plan q)
    ∙ behinds-swap (hits network two q) (hits network one q) (plan.courses q)
    ∙ ap (λ c. behinds (hits network one q) c) (sym (after-hits network two plan q)) ∙ sym
    (after-hits network one (plan_after network two plan) q)

at-sends : {N : Type 0} (far : Far) (plan : Plan N) → (advanced_at far plan).sends ≡ plan.sends
at-sends Nothing plan = refl
at-sends Host plan = refl
at-sends (Link q m) plan = refl

at-keeps : {N : Type 0} (far : Far) (plan : Plan N) → (advanced_at far plan).keeps ≡ plan.keeps
at-keeps Nothing plan = refl
at-keeps Host plan = refl
at-keeps (Link q m) plan = refl

at-waits : {N : Type 0} (far : Far) (plan : Plan N) → far ≢ Host → (advanced_at far plan).waits ≡ plan.waits
at-waits Nothing plan apart = refl
at-waits Host plan apart = absurd (apart refl)
at-waits (Link q m) plan apart = refl

-- ---- a change of the one place is known by what it makes there

changed-alike : {N : Type 0} (f g : N → N) (nodes : List N) (p : ℕ) (n : N) → slice_get nodes p ≡ Some n → f n ≡ g n
    → changed f nodes p ≡ changed g nodes p
changed-alike f g nodes p n at alike =
    changed-set f nodes p n at ∙ ap (λ m. slice_set nodes p m) alike ∙ sym (changed-set g nodes p n at)

module _ {N : Type 0} (ops : NodeOps N) (network : NetworkState) (holds : HoldState) (Q : ℕ → N → List Act → Type 0)
    (missing : Far → List ℕ) (kept : List ℕ) (plan : Plan N) (s : BoardState N) (u : IsUnderWay ops network holds Q missing kept plan s)
  where
    -- ---- the pick that an act of a processor is

    acks_pick : Far → Pick
    acks_pick Nothing = HostTake
    acks_pick Host = HostTake
    acks_pick (Link p l) = Take p l

    pick_of : ℕ → Act → Pick
    pick_of q Step = Proc q false 0
    pick_of q (Takes b) = Take q (plan.courses q).boot
    pick_of q (Sends l b) = Send q l
    pick_of q (Acks m) = acks_pick (far_at network q m)

    record Touches (pick : Pick) (q : ℕ) : Type 0 where
      act : Act
      is : acts_left (plan.courses q) ≡ act ∷ acts_left (behind (plan.courses q))
      same : step ops network pick s ≡ step ops network (pick_of q act) s

    same-touch : (one two : Pick) (q : ℕ) → Touches one q → Touches two q → step ops network one s ≡ step ops network two s
    same-touch one two q a b =
        let acts : a.act ≡ b.act = first_same a.act b.act (acts_left (behind (plan.courses q))) (sym a.is ∙ b.is) in
        a.same ∙ ap (λ x. step ops network (pick_of q x) s) acts ∙ sym b.same
      where
        first_same : (x y : Act) (rest : List Act) → x ∷ rest ≡ y ∷ rest → x ≡ y
        first_same x y rest e = cc

    abbrev Touch : Pick → ℕ → Type 0
    Touch pick q = ((plan_after network pick plan).courses q ≡ plan.courses q) ⊎ Touches pick q

    touch-taken : (p l q : ℕ) → Taking ops network holds Q missing kept plan s u p l → (far : Far) → far_at network p l ≡ far → q ≢ p
        → ((advanced_at far (record plan { courses = advanced p plan.courses })).courses q ≡ plan.courses q) ⊎ Touches (Take p l) q
    unfolding pick_of acks_pick
    touch-taken p l q h Nothing is apart = inl (advanced-other p plan.courses q apart)
    touch-taken p l q h Host is apart = inl (advanced-other p plan.courses q apart)
    touch-taken p l q h (Link r m) is apart = elim (cases_eq q r) [
      | inl e ↦ inr
          (let end = u.pairing.ends p l r m (record { processor = h.inside; link = h.low }) is in
          let back : far_at network r m ≡ Link p l = u.pairing.ways p l r m (record { processor = h.inside; link = h.low }) is in
          let waits : is_waiting m (acts_left (plan.courses r)) ≡ true = ap (waiting plan) (sym is) ∙ h.sender in
          let g : Goes ops holds Q r (plan.courses r) (Acks m) =
          goes-acknowledge ops holds Q r (plan.courses r) (u.courses r end.processor) m waits in
          subst (λ k. Touches (Take p l) k) (sym e)
          (record { act = Acks m; is = g.is; same = ap (λ f. step ops network (acks_pick f) s) (sym back) }))
      | inr other ↦ inl (advanced-other r (advanced p plan.courses) q other ∙ advanced-other p plan.courses q apart)
    ]

    touch : (pick : Pick) → enabled ops network holds s pick ≡ true → (q : ℕ) → Touch pick q
    unfolding pick_of acks_pick
    touch HostSend on q = inl refl
    touch HostTake on q = elim (cases_eq q network.root) [
      | inl e ↦ inr
          (let h : HostTaking ops network holds Q missing kept plan s u = host_take-goes ops network holds Q missing kept plan s u on in
          subst (λ k. Touches HostTake k) (sym e)
          (record { act = Acks network.root_link; is = h.goes.is; same = ap (λ f. step ops network (acks_pick f) s) (sym u.pairing.hosted) }))
      | inr apart ↦ inl (advanced-other network.root plan.courses q apart)
    ]
    touch (Proc p slice clock) on q = elim (cases_eq q p) [
      | inl e ↦ inr
          (let h = step-goes ops network holds Q missing kept plan s u p clock slice on in
          let alike : changed (ops.run p slice clock) s.nodes p ≡ changed (ops.run p false 0) s.nodes p =
          changed-alike (ops.run p slice clock) (ops.run p false 0) s.nodes p (now (plan.courses p)) (u.nodes p h.0)
          (h.1.does.1 slice clock ∙ sym (h.1.does.1 false 0)) in
          subst (λ k. Touches (Proc p slice clock) k) (sym e)
          (record { act = Step; is = h.1.is; same = ap (λ nodes. record s { nodes = nodes }) alike }))
      | inr apart ↦ inl (advanced-other p plan.courses q apart)
    ]
    touch (Send p l) on q = elim (cases_eq q p) [
      | inl e ↦ inr
          (let h : Sending ops network holds Q missing kept plan s u p l = send-goes ops network holds Q missing kept plan s u p l on in
          subst (λ k. Touches (Send p l) k) (sym e) (record { act = Sends l h.byte; is = h.goes.is; same = refl }))
      | inr apart ↦ inl (advanced-other p plan.courses q apart)
    ]
    touch (Take p l) on q = elim (cases_eq q p) [
      | inl e ↦ inr
          (let h : Taking ops network holds Q missing kept plan s u p l = take-goes ops network holds Q missing kept plan s u p l on in
          subst (λ k. Touches (Take p l) k) (sym e)
          (record { act = Takes h.byte; is = h.goes.is; same = ap (λ k. step ops network (Take p k) s) h.boots }))
      | inr apart ↦ touch-taken p l q (take-goes ops network holds Q missing kept plan s u p l on) (far_at network p l) refl apart
    ]

    -- ---- what the picks themselves touch

    own-step : (p clock : ℕ) (slice : Bool) → enabled ops network holds s (Proc p slice clock) ≡ true → Touches (Proc p slice clock) p
    unfolding pick_of
    own-step p clock slice on =
        let h = step-goes ops network holds Q missing kept plan s u p clock slice on in
        let alike : changed (ops.run p slice clock) s.nodes p ≡ changed (ops.run p false 0) s.nodes p =
        changed-alike (ops.run p slice clock) (ops.run p false 0) s.nodes p (now (plan.courses p)) (u.nodes p h.0)
        (h.1.does.1 slice clock ∙ sym (h.1.does.1 false 0)) in
        record { act = Step; is = h.1.is; same = ap (λ nodes. record s { nodes = nodes }) alike }

    own-send : (p l : ℕ) → Sending ops network holds Q missing kept plan s u p l → Touches (Send p l) p
    unfolding pick_of
    own-send p l h = record { act = Sends l h.byte; is = h.goes.is; same = refl }

    own-take : (p l : ℕ) → Taking ops network holds Q missing kept plan s u p l → Touches (Take p l) p
    unfolding pick_of
    own-take p l h = record { act = Takes h.byte; is = h.goes.is; same = ap (λ k. step ops network (Take p k) s) h.boots }

    own-sender : (p l r m : ℕ) → Taking ops network holds Q missing kept plan s u p l → far_at network p l ≡ Link r m → Touches (Take p l) r
    unfolding pick_of acks_pick
    own-sender p l r m h is =
        let end = u.pairing.ends p l r m (record { processor = h.inside; link = h.low }) is in
        let back : far_at network r m ≡ Link p l = u.pairing.ways p l r m (record { processor = h.inside; link = h.low }) is in
        let waits : is_waiting m (acts_left (plan.courses r)) ≡ true = ap (waiting plan) (sym is) ∙ h.sender in
        let g : Goes ops holds Q r (plan.courses r) (Acks m) =
        goes-acknowledge ops holds Q r (plan.courses r) (u.courses r end.processor) m waits in
        record { act = Acks m; is = g.is; same = ap (λ f. step ops network (acks_pick f) s) (sym back) }

    own-root : HostTaking ops network holds Q missing kept plan s u → Touches HostTake network.root
    unfolding pick_of acks_pick
    own-root h =
        record { act = Acks network.root_link; is = h.goes.is; same = ap (λ f. step ops network (acks_pick f) s) (sym u.pairing.hosted) }

    -- ---- the host's parts

    abbrev Alike : Pick → Pick → Type 0
    Alike one two = step ops network one s ≡ step ops network two s

    true_false : (x : Bool) → x ≡ true → x ≡ false → ⊥
    true_false x a b = cc

    sends-part : (one : Pick) → enabled ops network holds s one ≡ true → HostSending ops network holds Q missing kept plan s u
        → Alike one HostSend ⊎ (((plan_after network one plan).sends ≡ plan.sends) × ((plan_after network one plan).waits ≡ plan.waits))
    sends-part HostSend on h = inl refl
    sends-part HostTake on h = inr (refl, refl)
    sends-part (Proc p slice clock) on h = inr (refl, refl)
    sends-part (Send p l) on h = inr (refl, refl)
    sends-part (Take p l) on h =
        let k : Taking ops network holds Q missing kept plan s u p l = take-goes ops network holds Q missing kept plan s u p l on in
        let apart : far_at network p l ≢ Host = λ is. true_false plan.waits (ap (waiting plan) (sym is) ∙ k.sender) h.free in
        inr (
          at-sends (far_at network p l) (record plan { courses = advanced p plan.courses }),
          at-waits (far_at network p l) (record plan { courses = advanced p plan.courses }) apart,
        )

    waits-part : (one : Pick) → enabled ops network holds s one ≡ true → (p l : ℕ) → Taking ops network holds Q missing kept plan s u p l
        → far_at network p l ≡ Host → Alike one (Take p l) ⊎ ((plan_after network one plan).waits ≡ plan.waits)
    waits-part HostSend on p l k is =
        let h : HostSending ops network holds Q missing kept plan s u = host_send-goes ops network holds Q missing kept plan s u on in
        absurd (true_false plan.waits (ap (waiting plan) (sym is) ∙ k.sender) h.free)
    waits-part HostTake on p l k is = inr refl
    waits-part (Proc q slice clock) on p l k is = inr refl
    waits-part (Send q m) on p l k is = inr refl
    waits-part (Take q m) on p l k is = elim (cases_far (far_at network q m) Host) [
      | inl e ↦ inl
          (let j : Taking ops network holds Q missing kept plan s u q m = take-goes ops network holds Q missing kept plan s u q m on in
          let here = u.pairing.once p l (record { processor = k.inside; link = k.low }) is in
          let there = u.pairing.once q m (record { processor = j.inside; link = j.low }) e in
          ap (λ x. step ops network (Take x m) s) (there.0 ∙ sym here.0) ∙ ap (λ x. step ops network (Take p x) s) (there.1 ∙ sym here.1))
      | inr apart ↦ inr (at-waits (far_at network q m) (record plan { courses = advanced q plan.courses }) apart)
    ]

    keeps-part : (one : Pick) → Alike one HostTake ⊎ ((plan_after network one plan).keeps ≡ plan.keeps)
    keeps-part HostSend = inr refl
    keeps-part HostTake = inl refl
    keeps-part (Proc p slice clock) = inr refl
    keeps-part (Send p l) = inr refl
    keeps-part (Take p l) = inr (at-keeps (far_at network p l) (record plan { courses = advanced p plan.courses }))

    -- ---- what a pick rests on, where another leaves it as it was

    module _ (first : Pick) (first_on : enabled ops network holds s first ≡ true) where
      abbrev new : Plan N
      new = plan_after network first plan

      abbrev t : BoardState N
      t = step ops network first s

      v : IsUnderWay ops network holds Q missing kept new t
      v = keeps-on ops network holds Q missing kept plan s u first first_on

      abbrev Result : Pick → Type 0
      Result second = Alike first second ⊎ (enabled ops network holds t second ≡ true)

      moved : (p : ℕ) (act : Act) → new.courses p ≡ plan.courses p → Goes ops holds Q p (plan.courses p) act → Goes ops holds Q p
          (new.courses p) act
      moved p act same g = subst (λ c. Goes ops holds Q p c act) (sym same) g

      word : (clock : ℕ) → nat_lt clock (2 ^ 32) ≡ true → clock < 2 ^ 32
      word clock h = grind (arith, nat_tests)

      take-again : (p l : ℕ) (h : Taking ops network holds Q missing kept plan s u p l) → new.courses p ≡ plan.courses p
          → waiting new (far_at network p l) ≡ waiting plan (far_at network p l) → enabled ops network holds t (Take p l) ≡ true
      take-again p l h same waits =
          take-enabled ops network holds Q missing kept new t v p l h.byte h.inside (h.boots ∙ ap (λ c. c.boot) (sym same))
          (moved p (Takes h.byte) same h.goes)
          (v.full (Link p l) (record { processor = h.inside; link = h.low }) ∙ waits ∙ h.sender)

      take-far : (p l : ℕ) (h : Taking ops network holds Q missing kept plan s u p l) → new.courses p ≡ plan.courses p
          → (far : Far) → far_at network p l ≡ far → Result (Take p l)
      take-far p l h same Nothing is = let never : waiting plan Nothing ≡ true = ap (waiting plan) (sym is) ∙ h.sender in cc
      take-far p l h same Host is = elim (waits-part first first_on p l h is) [
        | inl alike ↦ inl alike
        | inr waits ↦ inr (take-again p l h same (ap (waiting new) is ∙ waits ∙ ap (waiting plan) (sym is)))
      ]
      take-far p l h same (Link q m) is = elim (touch first first_on q) [
        | inl other ↦ inr
            (take-again p l h same (ap (waiting new) is ∙ ap (λ c. is_waiting m (acts_left c)) other ∙ ap (waiting plan) (sym is)))
        | inr touches ↦ inl (same-touch first (Take p l) q touches (own-sender p l q m h is))
      ]

      stays : (second : Pick) → enabled ops network holds s second ≡ true → Result second
      stays HostSend on =
          let h : HostSending ops network holds Q missing kept plan s u = host_send-goes ops network holds Q missing kept plan s u on in
          elim (sends-part first first_on h) [
            | inl alike ↦ inl alike
            | inr same ↦ inr (host_send-enabled ops network holds Q missing kept new t v h.byte (plan_after network HostSend plan).sends
                (same.0 ∙ h.is) (same.1 ∙ h.free))
          ]
      stays HostTake on =
          let h : HostTaking ops network holds Q missing kept plan s u = host_take-goes ops network holds Q missing kept plan s u on in
          elim (keeps-part first) [
            | inl alike ↦ inl alike
            | inr keeps ↦ elim (touch first first_on network.root) [
              | inl same ↦ inr (host_take-enabled ops network holds Q missing kept new t v h.byte (plan_after network HostTake plan).keeps
                  (keeps ∙ h.is)
                  (v.full Host tt ∙ ap (λ c. is_waiting network.root_link (acts_left c)) same ∙ sym (u.full Host tt) ∙ ap (λ o. is_some o)
                  h.held))
              | inr touches ↦ inl (same-touch first HostTake network.root touches (own-root h))
            ]
          ]
      stays (Proc p slice clock) on =
          let h = step-goes ops network holds Q missing kept plan s u p clock slice on in
          let two = both (nat_lt clock (2 ^ 32) && at_node false ops.runs s.nodes p)
          (not (holds.held && at_node false (ops.stands (entry_of holds p)) s.nodes p)) on in
          let small : clock < 2 ^ 32 = word clock (both (nat_lt clock (2 ^ 32)) (at_node false ops.runs s.nodes p) two.0).0 in
          elim (touch first first_on p) [
            | inl same ↦ inr (step-enabled ops network holds Q missing kept new t v p clock slice h.0 small (moved p Step same h.1))
            | inr touches ↦ inl (same-touch first (Proc p slice clock) p touches (own-step p clock slice on))
          ]
      stays (Send p l) on =
          let h : Sending ops network holds Q missing kept plan s u p l = send-goes ops network holds Q missing kept plan s u p l on in
          elim (touch first first_on p) [
            | inl same ↦ inr (send-enabled ops network holds Q missing kept new t v p l h.byte h.inside
                (moved p (Sends l h.byte) same h.goes))
            | inr touches ↦ inl (same-touch first (Send p l) p touches (own-send p l h))
          ]
      stays (Take p l) on =
          let h : Taking ops network holds Q missing kept plan s u p l = take-goes ops network holds Q missing kept plan s u p l on in
          elim (touch first first_on p) [
            | inl same ↦ take-far p l h same (far_at network p l) refl
            | inr touches ↦ inl (same-touch first (Take p l) p touches (own-take p l h))
          ]

    -- ---- both orders make the same plan

    -- what a pick does to the bytes that the host sends, and keeps
    dropped : Bool → List ℕ → List ℕ
    dropped true bytes = other_bytes bytes
    dropped false bytes = bytes

    dropped-swap : (a b : Bool) (bytes : List ℕ) → dropped a (dropped b bytes) ≡ dropped b (dropped a bytes)
    unfolding dropped
    dropped-swap true true bytes = refl
    dropped-swap true false bytes = refl
    dropped-swap false true bytes = refl
    dropped-swap false false bytes = refl

    drops-sent : Pick → Bool
    drops-sent HostSend = true
    drops-sent HostTake = false
    drops-sent (Proc p slice clock) = false
    drops-sent (Send p l) = false
    drops-sent (Take p l) = false

    sends-after : (pick : Pick) (x : Plan N) → (plan_after network pick x).sends ≡ dropped (drops-sent pick) x.sends
    unfolding dropped drops-sent
    sends-after HostSend x = refl
    sends-after HostTake x = refl
    sends-after (Proc p slice clock) x = refl
    sends-after (Send p l) x = refl
    sends-after (Take p l) x = at-sends (far_at network p l) (record x { courses = advanced p x.courses })

    sends-swap : (one two : Pick) → (plan_after network two (plan_after network one plan)).sends ≡
        (plan_after network one (plan_after network two plan)).sends
    sends-swap one two =
        sends-after two (plan_after network one plan) ∙ ap (λ bs. dropped (drops-sent two) bs) (sends-after one plan)
        ∙ dropped-swap (drops-sent two) (drops-sent one) plan.sends
        ∙ ap (λ bs. dropped (drops-sent one) bs) (sym (sends-after two plan)) ∙ sym (sends-after one (plan_after network two plan))

    drops-kept : Pick → Bool
    drops-kept HostSend = false
    drops-kept HostTake = true
    drops-kept (Proc p slice clock) = false
    drops-kept (Send p l) = false
    drops-kept (Take p l) = false

    keeps-after : (pick : Pick) (x : Plan N) → (plan_after network pick x).keeps ≡ dropped (drops-kept pick) x.keeps
    unfolding dropped drops-kept
    keeps-after HostSend x = refl
    keeps-after HostTake x = refl
    keeps-after (Proc p slice clock) x = refl
    keeps-after (Send p l) x = refl
    keeps-after (Take p l) x = at-keeps (far_at network p l) (record x { courses = advanced p x.courses })

    keeps-swap : (one two : Pick) → (plan_after network two (plan_after network one plan)).keeps ≡
        (plan_after network one (plan_after network two plan)).keeps
    keeps-swap one two =
        keeps-after two (plan_after network one plan) ∙ ap (λ bs. dropped (drops-kept two) bs) (keeps-after one plan)
        ∙ dropped-swap (drops-kept two) (drops-kept one) plan.keeps
        ∙ ap (λ bs. dropped (drops-kept one) bs) (sym (keeps-after two plan)) ∙ sym (keeps-after one (plan_after network two plan))

    -- what it does to the mark of the host's byte that is not acknowledged: it sets it, clears it, or leaves it
    marked : Option Bool → Bool → Bool
    marked None x = x
    marked (Some b) x = b

    mark_far : Far → Option Bool
    mark_far Nothing = None
    mark_far Host = Some false
    mark_far (Link q m) = None

    mark : Pick → Option Bool
    mark HostSend = Some true
    mark HostTake = None
    mark (Proc p slice clock) = None
    mark (Send p l) = None
    mark (Take p l) = mark_far (far_at network p l)

    far-marked : (far : Far) (x : Plan N) → (advanced_at far x).waits ≡ marked (mark_far far) x.waits
    unfolding marked mark_far
    far-marked Nothing x = refl
    far-marked Host x = refl
    far-marked (Link q m) x = refl

    waits-after : (pick : Pick) (x : Plan N) → (plan_after network pick x).waits ≡ marked (mark pick) x.waits
    unfolding marked mark
    waits-after HostSend x = refl
    waits-after HostTake x = refl
    waits-after (Proc p slice clock) x = refl
    waits-after (Send p l) x = refl
    waits-after (Take p l) x = far-marked (far_at network p l) (record x { courses = advanced p x.courses })

    -- a mark is set where it is clear, and cleared where it is set
    far-told : (far : Far) (b : Bool) → waiting plan far ≡ true → mark_far far ≡ Some b → b ≡ not plan.waits
    unfolding mark_far
    far-told Nothing b waits is = cc
    far-told Host b waits is =
        let clear : false ≡ b = cc in
        sym clear ∙ ap not (sym waits)
    far-told (Link q m) b waits is = cc

    mark-told : (pick : Pick) (b : Bool) → enabled ops network holds s pick ≡ true → mark pick ≡ Some b → b ≡ not plan.waits
    unfolding mark
    mark-told HostSend b on is =
        let h : HostSending ops network holds Q missing kept plan s u = host_send-goes ops network holds Q missing kept plan s u on in
        let set : true ≡ b = cc in
        sym set ∙ ap not (sym h.free)
    mark-told HostTake b on is = cc
    mark-told (Proc p slice clock) b on is = cc
    mark-told (Send p l) b on is = cc
    mark-told (Take p l) b on is =
        let h : Taking ops network holds Q missing kept plan s u p l = take-goes ops network holds Q missing kept plan s u p l on in
        far-told (far_at network p l) b h.sender is

    marked-swap : (a b : Option Bool) (x : Bool) → ((c d : Bool) → a ≡ Some c → b ≡ Some d → c ≡ d) → marked a (marked b x) ≡ marked b
        (marked a x)
    unfolding marked
    marked-swap None b x agree = refl
    marked-swap (Some c) None x agree = refl
    marked-swap (Some c) (Some d) x agree = agree c d refl refl

    waits-swap : (one two : Pick) → enabled ops network holds s one ≡ true → enabled ops network holds s two ≡ true
        → (plan_after network two (plan_after network one plan)).waits ≡ (plan_after network one (plan_after network two plan)).waits
    waits-swap one two one_on two_on =
        waits-after two (plan_after network one plan) ∙ ap (λ b. marked (mark two) b) (waits-after one plan)
        ∙ marked-swap (mark two) (mark one) plan.waits (λ c d is also. mark-told two c two_on is ∙ sym (mark-told one d one_on also))
        ∙ ap (λ b. marked (mark one) b) (sym (waits-after two plan)) ∙ sym (waits-after one (plan_after network two plan))

    -- ---- the diamond

    pub joins : (one two : Pick) → enabled ops network holds s one ≡ true → enabled ops network holds s two ≡ true
        → Joins ops network holds s one two
    joins one two one_on two_on = elim (stays one one_on two two_on) [
      | inl alike ↦ inl alike
      | inr two_then ↦ elim (stays two two_on one one_on) [
        | inl alike ↦ inl (sym alike)
        | inr one_then ↦ inr (
          two_then,
          one_then,
          same-state ops network holds Q missing kept (plan_after network one (plan_after network two plan))
              (plan_after network two (plan_after network one plan)) (step ops network one (step ops network two s))
              (step ops network two (step ops network one s))
              (keeps-on ops network holds Q missing kept (plan_after network two plan) (step ops network two s)
              (keeps-on ops network holds Q missing kept plan s u two two_on) one one_then)
              (keeps-on ops network holds Q missing kept (plan_after network one plan) (step ops network one s)
              (keeps-on ops network holds Q missing kept plan s u one one_on) two two_then)
              (record {
                courses = λ q. courses-swap network one two plan q;
                sends = sends-swap one two;
                waits = waits-swap one two one_on two_on;
                keeps = keeps-swap one two;
              }),
        )
      ]
    ]
