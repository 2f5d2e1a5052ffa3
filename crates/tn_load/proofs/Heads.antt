-- What the first act of a course does to the bytes that its processor still takes and sends.
use Rattle.std.proofs.Common.{◌≡◌, ◌≢◌, ℕ, ◌==◌, true, false, List, [], ◌∷◌, refl, sym, ap, ◌∙◌}
use Rattle.std.specs.Prelude.{if◌then◌else◌}
use Rattle.tn_net.specs.declared.networks.Far.TheVariants.{Link}
use Rattle.tn_network.specs.NodeOps.{NodeOps}
use Rattle.tn_network.specs.Holds.{HoldState}
use Rattle.tn_load.specs.Acts.{Act}
use Rattle.tn_load.specs.Acts.Act.{Step, Takes, Sends, Acks}
use Rattle.tn_load.specs.LoneRuns.{takes_of, sends_of, is_waiting}
use Rattle.tn_load.specs.Plans.{Course, acts_left, behind, advanced}
use Rattle.tn_load.specs.Shares.{taken_by}
use Rattle.tn_load.proofs.Going.{Goes, same_number, other_number, each-advanced, advanced-here}

module _ {N : Type 0} (ops : NodeOps N) (holds : HoldState) (Q : ℕ → N → List Act → Type 0) (p : ℕ) (courses : ℕ → Course N) where
  -- ---- a step

  module _ (g : Goes ops holds Q p (courses p) Step) where
    pub step-takes : (q l : ℕ) → taken_by l (advanced p courses q) ≡ taken_by l (courses q)
    unfolding takes_of
    step-takes q l =
        each-advanced p courses (λ k x. taken_by l x ≡ taken_by l (courses k))
        (sym (ap (λ a. if l == (courses p).boot then takes_of a else []) g.is)) (λ k apart. refl) q

    pub step-sends : (q l : ℕ) → sends_of l (acts_left (advanced p courses q)) ≡ sends_of l (acts_left (courses q))
    unfolding sends_of
    step-sends q l =
        each-advanced p courses (λ k x. sends_of l (acts_left x) ≡ sends_of l (acts_left (courses k)))
        (sym (ap (λ a. sends_of l a) g.is)) (λ k apart. refl) q

    pub step-waits : (q l : ℕ) → is_waiting l (acts_left (advanced p courses q)) ≡ is_waiting l (acts_left (courses q))
    step-waits q l =
        each-advanced p courses (λ k x. is_waiting l (acts_left x) ≡ is_waiting l (acts_left (courses k)))
        (g.waits l ∙ sym (ap (λ a. is_waiting l a) g.is)) (λ k apart. refl) q

  -- ---- a byte that is sent

  module _ (l byte : ℕ) (g : Goes ops holds Q p (courses p) (Sends l byte)) where
    pub send-takes : (q m : ℕ) → taken_by m (advanced p courses q) ≡ taken_by m (courses q)
    unfolding takes_of
    send-takes q m =
        each-advanced p courses (λ k x. taken_by m x ≡ taken_by m (courses k))
        (sym (ap (λ a. if m == (courses p).boot then takes_of a else []) g.is)) (λ k apart. refl) q

    pub send-here : sends_of l (acts_left (courses p)) ≡ byte ∷ sends_of l (acts_left (advanced p courses p))
    unfolding sends_of
    send-here =
        ap (λ a. sends_of l a) g.is ∙ rw (same_number l) refl
        ∙ ap (λ x. byte ∷ sends_of l (acts_left x)) (sym (advanced-here p courses))

    pub send-else : (q m : ℕ) → Link q m ≢ Link p l
        → sends_of m (acts_left (advanced p courses q)) ≡ sends_of m (acts_left (courses q))
    unfolding sends_of
    send-else q m =
        each-advanced p courses (λ k x. Link k m ≢ Link p l → sends_of m (acts_left x) ≡ sends_of m (acts_left (courses k)))
        (λ apart.
        let test : (l == m) ≡ false = other_number l m (λ e. apart (ap (Link p) (sym e))) in
        sym (ap (λ a. sends_of m a) g.is ∙ rw test refl))
        (λ k other apart. refl) q

    pub send-free : is_waiting l (acts_left (courses p)) ≡ false
    send-free = ap (λ a. is_waiting l a) g.is

    pub send-waits : is_waiting l (acts_left (advanced p courses p)) ≡ true
    send-waits = ap (λ x. is_waiting l (acts_left x)) (advanced-here p courses) ∙ g.waits l ∙ same_number l

    pub send-waits_else : (q m : ℕ) → Link q m ≢ Link p l
        → is_waiting m (acts_left (advanced p courses q)) ≡ is_waiting m (acts_left (courses q))
    send-waits_else q m =
        each-advanced p courses (λ k x. Link k m ≢ Link p l → is_waiting m (acts_left x) ≡ is_waiting m (acts_left (courses k)))
        (λ apart.
        let test : (l == m) ≡ false = other_number l m (λ e. apart (ap (Link p) (sym e))) in
        g.waits m ∙ test ∙ sym (ap (λ a. is_waiting m a) g.is))
        (λ k other apart. refl) q

  -- ---- a byte that is taken

  module _ (l byte : ℕ) (boots : l ≡ (courses p).boot) (g : Goes ops holds Q p (courses p) (Takes byte)) where
    pub take-here : taken_by l (courses p) ≡ byte ∷ taken_by l (advanced p courses p)
    unfolding takes_of
    take-here =
        let test : (l == (courses p).boot) ≡ true = rw boots (same_number (courses p).boot) in
        let old : taken_by l (courses p) ≡ byte ∷ takes_of (acts_left (behind (courses p))) =
        rw test (ap (λ a. takes_of a) g.is) in
        let new : taken_by l (behind (courses p)) ≡ takes_of (acts_left (behind (courses p))) = rw test refl in
        old ∙ ap (λ bs. byte ∷ bs) (sym new) ∙ ap (λ x. byte ∷ taken_by l x) (sym (advanced-here p courses))

    pub take-else : (q m : ℕ) → Link q m ≢ Link p l → taken_by m (advanced p courses q) ≡ taken_by m (courses q)
    take-else q m =
        each-advanced p courses (λ k x. Link k m ≢ Link p l → taken_by m x ≡ taken_by m (courses k))
        (λ apart.
        let test : (m == (courses p).boot) ≡ false = other_number m (courses p).boot (λ e. apart (ap (Link p) (e ∙ sym boots))) in
        let old : taken_by m (courses p) ≡ [] = rw test refl in
        let new : taken_by m (behind (courses p)) ≡ [] = rw test refl in
        new ∙ sym old)
        (λ k other apart. refl) q

    pub take-sends : (q m : ℕ) → sends_of m (acts_left (advanced p courses q)) ≡ sends_of m (acts_left (courses q))
    unfolding sends_of
    take-sends q m =
        each-advanced p courses (λ k x. sends_of m (acts_left x) ≡ sends_of m (acts_left (courses k)))
        (sym (ap (λ a. sends_of m a) g.is)) (λ k apart. refl) q

    pub take-waits : (q m : ℕ) → is_waiting m (acts_left (advanced p courses q)) ≡ is_waiting m (acts_left (courses q))
    take-waits q m =
        each-advanced p courses (λ k x. is_waiting m (acts_left x) ≡ is_waiting m (acts_left (courses k)))
        (g.waits m ∙ sym (ap (λ a. is_waiting m a) g.is)) (λ k apart. refl) q

  -- ---- an acknowledge

  module _ (l : ℕ) (g : Goes ops holds Q p (courses p) (Acks l)) where
    pub acknowledge-takes : (q m : ℕ) → taken_by m (advanced p courses q) ≡ taken_by m (courses q)
    unfolding takes_of
    acknowledge-takes q m =
        each-advanced p courses (λ k x. taken_by m x ≡ taken_by m (courses k))
        (sym (ap (λ a. if m == (courses p).boot then takes_of a else []) g.is)) (λ k apart. refl) q

    pub acknowledge-sends : (q m : ℕ) → sends_of m (acts_left (advanced p courses q)) ≡ sends_of m (acts_left (courses q))
    unfolding sends_of
    acknowledge-sends q m =
        each-advanced p courses (λ k x. sends_of m (acts_left x) ≡ sends_of m (acts_left (courses k)))
        (sym (ap (λ a. sends_of m a) g.is)) (λ k apart. refl) q

    pub acknowledge-free : is_waiting l (acts_left (advanced p courses p)) ≡ false
    acknowledge-free = ap (λ x. is_waiting l (acts_left x)) (advanced-here p courses) ∙ g.waits l

    pub acknowledge-else : (q m : ℕ) → Link q m ≢ Link p l
        → is_waiting m (acts_left (advanced p courses q)) ≡ is_waiting m (acts_left (courses q))
    acknowledge-else q m =
        each-advanced p courses (λ k x. Link k m ≢ Link p l → is_waiting m (acts_left x) ≡ is_waiting m (acts_left (courses k)))
        (λ apart.
        let test : (l == m) ≡ false = other_number l m (λ e. apart (ap (Link p) (sym e))) in
        g.waits m ∙ sym (ap (λ a. is_waiting m a) g.is ∙ test))
        (λ k other apart. refl) q
