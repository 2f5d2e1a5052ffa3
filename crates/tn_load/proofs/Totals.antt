-- What a pick leaves as it was, and how many picks are left once a processor's first act is done.
use Rattle.std.proofs.Common.{◌≡◌, ◌≢◌, ℕ, zero, suc, ◌+◌, ◌<◌, inl, inr, List, ◌∷◌, refl, sym, ap, ◌∙◌, arith}
use Rattle.std.proofs.lemmas.Bool.{cases_eq}
use Rattle.tn_load.specs.Acts.{Act}
use Rattle.tn_load.specs.Acts.Act.{Step, Takes, Sends, Acks}
use Rattle.tn_load.specs.LoneRuns.{weight}
use Rattle.tn_net.specs.declared.networks.Far.{Far}
use Rattle.tn_net.specs.declared.networks.Far.TheVariants.{Nothing, Host, Link}
use Rattle.tn_net.specs.Networks.{NetworkState, far_at}
use Rattle.tn_network.specs.declared.picks.Pick.{Pick}
use Rattle.tn_network.specs.declared.picks.Pick.TheVariants.{HostSend, HostTake, Proc, Send, Take}
use Rattle.tn_load.specs.Plans.{Course, Plan, acts_left, behind, advanced, advanced_at, plan_after, sum_below}
use Rattle.tn_load.proofs.Going.{advanced-here, advanced-other, each-advanced}

pub sum-same : (n : ℕ) (f g : ℕ → ℕ) → ((q : ℕ) → q < n → f q ≡ g q) → sum_below n f ≡ sum_below n g
unfolding sum_below
sum-same zero f g same = refl
sum-same (suc n) f g same =
    let rest : sum_below n f ≡ sum_below n g = sum-same n f g (λ q h. same q (omega (arith, h))) in
    let last : f n ≡ g n = same n (omega arith) in
    omega (arith, rest, last)

-- one of the numbers is greater by k, and the others are the same
pub sum-greater : (n p k : ℕ) (f g : ℕ → ℕ) → p < n → f p ≡ k + g p → ((q : ℕ) → q ≢ p → f q ≡ g q)
    → sum_below n f ≡ k + sum_below n g
unfolding sum_below
sum-greater zero p k f g within here others = absurd (omega arith)
sum-greater (suc n) p k f g within here others = elim (cases_eq p n) [
  | inl e ↦
      let rest : sum_below n f ≡ sum_below n g = sum-same n f g (λ q h. others q (λ is. omega (arith, h, e, is))) in
      let last : f n ≡ k + g n = ap f (sym e) ∙ here ∙ ap (λ x. k + g x) e in
      omega (arith, rest, last)
  | inr apart ↦
      let rest : sum_below n f ≡ k + sum_below n g = sum-greater n p k f g (omega (arith, within, apart)) here others in
      let last : f n ≡ g n = others n (λ is. apart (sym is)) in
      omega (arith, rest, last)
]

-- what a pick takes off the sum
abbrev pub act_weight : Act → ℕ
act_weight Step = 1
act_weight (Takes b) = 1
act_weight (Sends l b) = 1
act_weight (Acks l) = 0

weight-first : (act : Act) (acts : List Act) → weight (act ∷ acts) ≡ act_weight act + weight acts
unfolding weight
weight-first Step acts = refl
weight-first (Takes b) acts = refl
weight-first (Sends l b) acts = refl
weight-first (Acks l) acts = omega arith

pub sum-advanced : {N : Type 0} (n p : ℕ) (courses : ℕ → Course N) (act : Act) → p < n
    → acts_left (courses p) ≡ act ∷ acts_left (behind (courses p))
    → sum_below n (λ q. weight (acts_left (courses q))) ≡ act_weight act + sum_below n (λ q. weight (acts_left (advanced p courses q)))
sum-advanced n p courses act within is =
    sum-greater n p (act_weight act) (λ q. weight (acts_left (courses q))) (λ q. weight (acts_left (advanced p courses q))) within
    (ap (λ a. weight a) is ∙ weight-first act (acts_left (behind (courses p)))
    ∙ ap (λ x. act_weight act + weight (acts_left x)) (sym (advanced-here p courses)))
    (λ q apart. ap (λ x. weight (acts_left x)) (sym (advanced-other p courses q apart)))

-- ---- no pick changes a boot link

pub boot-advanced : {N : Type 0} (p : ℕ) (courses : ℕ → Course N) (q : ℕ) → (advanced p courses q).boot ≡ (courses q).boot
boot-advanced p courses q = each-advanced p courses (λ k c. c.boot ≡ (courses k).boot) refl (λ k apart. refl) q

boot-at : {N : Type 0} (far : Far) (plan : Plan N) (q : ℕ) → ((advanced_at far plan).courses q).boot ≡ (plan.courses q).boot
boot-at Nothing plan q = refl
boot-at Host plan q = refl
boot-at (Link p l) plan q = boot-advanced p plan.courses q

pub boot-after : {N : Type 0} (network : NetworkState) (pick : Pick) (plan : Plan N) (q : ℕ)
    → ((plan_after network pick plan).courses q).boot ≡ (plan.courses q).boot
boot-after network HostSend plan q = refl
boot-after network HostTake plan q = boot-advanced network.root plan.courses q
boot-after network (Proc p slice clock) plan q = boot-advanced p plan.courses q
boot-after network (Send p l) plan q = boot-advanced p plan.courses q
boot-after network (Take p l) plan q =
    boot-at (far_at network p l) (record plan { courses = advanced p plan.courses }) q ∙ boot-advanced p plan.courses q

-- nor the end of a course
pub end-advanced : {N : Type 0} (p : ℕ) (courses : ℕ → Course N) (q : ℕ) → (advanced p courses q).end ≡ (courses q).end
end-advanced p courses q = each-advanced p courses (λ k c. c.end ≡ (courses k).end) refl (λ k apart. refl) q

end-at : {N : Type 0} (far : Far) (plan : Plan N) (q : ℕ) → ((advanced_at far plan).courses q).end ≡ (plan.courses q).end
end-at Nothing plan q = refl
end-at Host plan q = refl
end-at (Link p l) plan q = end-advanced p plan.courses q

pub end-after : {N : Type 0} (network : NetworkState) (pick : Pick) (plan : Plan N) (q : ℕ)
    → ((plan_after network pick plan).courses q).end ≡ (plan.courses q).end
end-after network HostSend plan q = refl
end-after network HostTake plan q = end-advanced network.root plan.courses q
end-after network (Proc p slice clock) plan q = end-advanced p plan.courses q
end-after network (Send p l) plan q = end-advanced p plan.courses q
end-after network (Take p l) plan q =
    end-at (far_at network p l) (record plan { courses = advanced p plan.courses }) q ∙ end-advanced p plan.courses q
