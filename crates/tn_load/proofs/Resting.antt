-- Progress: while picks are left some pick is enabled.
use Rattle.std.proofs.Common.{◌≡◌, ℕ, zero, suc, ◌+◌, ◌<◌, ◌==◌, ◌⊎◌, inl, inr, Bool, true, false, List, [], ◌∷◌, ◌++◌, length, Option}
use Rattle.std.proofs.Common.{Some, None, refl, sym, ap, ◌∙◌, arith}
use Rattle.std.specs.Prelude.{is_some, if◌then◌else◌}
use Rattle.std.proofs.lemmas.Bool.{cases_eq}
use Rattle.tn_net.specs.declared.networks.Far.{Far}
use Rattle.tn_net.specs.declared.networks.Far.TheVariants.{Nothing, Host, Link}
use Rattle.tn_net.specs.Networks.{NetworkState, IsEnd, far_at}
use Rattle.tn_network.specs.declared.picks.Pick.{Pick}
use Rattle.tn_network.specs.declared.picks.Pick.TheVariants.{HostSend, HostTake, Proc, Send, Take}
use Rattle.tn_network.specs.Boards.{BoardState, latch_at}
use Rattle.tn_network.specs.NodeOps.{NodeOps}
use Rattle.tn_network.specs.Holds.{HoldState, enabled}
use Rattle.tn_load.specs.Acts.{Act}
use Rattle.tn_load.specs.Acts.Act.{Step, Takes, Sends, Acks}
use Rattle.tn_load.specs.LoneRuns.{takes_of, sends_of, is_waiting}
use Rattle.tn_load.specs.Plans.{Course, Moment, Plan, acts_of, acts_left, behind, later}
use Rattle.tn_load.specs.Shares.{IsWireEnd, other_end, taken_by, incoming, outgoing, waiting, latch_of, bytes_in}
use Rattle.tn_load.specs.UnderWay.{IsUnderWay}
use Rattle.tn_load.specs.Keep.{IsRooted, IsWhole}
use Rattle.tn_load.proofs.Going.{Goes, goes, same_number, other_number}
use Rattle.tn_load.proofs.Latches.{full-latch}
use Rattle.tn_load.proofs.Enabling.{step-enabled, send-enabled, take-enabled, host_send-enabled, host_take-enabled}

-- ---- what is left, or nothing

pub left_or_not : {N : Type 0} (c : Course N) → (acts_left c ≡ []) ⊎ ((act : Act) × (acts_left c ≡ act ∷ acts_left (behind c)))
left_or_not {N = N} c = go c.moments
  where
    go : (ms : List (Moment N)) → (acts_of ms ≡ []) ⊎ ((act : Act) × (acts_of ms ≡ act ∷ acts_of (later ms)))
    go [] = inl refl
    go (m ∷ ms) = inr (m.act, refl)

-- a course that takes or sends a byte has acts left
takes-left : {N : Type 0} (c : Course N) (l byte : ℕ) (bytes : List ℕ) → taken_by l c ≡ byte ∷ bytes → acts_left c ≡ [] → ⊥
unfolding takes_of
takes-left c l byte bytes is none =
    let empty : (if l == c.boot then takes_of [] else []) ≡ byte ∷ bytes = sym (ap (λ a. if l == c.boot then takes_of a else []) none) ∙
    is in
    go (l == c.boot) empty
  where
    go : (test : Bool) → (if test then [] else []) ≡ byte ∷ bytes → ⊥
    go true e = cc
    go false e = cc

-- and takes it by its boot link
takes-boot : {N : Type 0} (c : Course N) (l byte : ℕ) (bytes : List ℕ) → taken_by l c ≡ byte ∷ bytes → l ≡ c.boot
takes-boot c l byte bytes is = elim (cases_eq l c.boot) [
  | inl e ↦ e
  | inr apart ↦ absurd
      (let test : (l == c.boot) ≡ false = other_number l c.boot apart in
      let none : [] ≡ byte ∷ bytes = sym (rw test refl) ∙ is in
      cc)
]

sends-left : {N : Type 0} (c : Course N) (l byte : ℕ) (bytes : List ℕ) → sends_of l (acts_left c) ≡ byte ∷ bytes → acts_left c ≡ [] → ⊥
unfolding sends_of
sends-left c l byte bytes is none = let empty : [] ≡ byte ∷ bytes = sym (ap (λ a. sends_of l a) none) ∙ is in cc

module _ {N : Type 0} (ops : NodeOps N) (network : NetworkState) (holds : HoldState) (Q : ℕ → N → List Act → Type 0)
    (missing : Far → List ℕ) (kept : List ℕ) (plan : Plan N) (s : BoardState N) (u : IsUnderWay ops network holds Q missing kept plan s)
    (rooted : IsRooted network plan) (whole : IsWhole network missing) where
  abbrev pub Some_pick : Type 0
  Some_pick = (pick : Pick) × (enabled ops network holds s pick ≡ true)

  fit : (e : Far) → IsWireEnd network e → incoming plan e ≡ bytes_in (latch_of s e) ++ (outgoing plan (other_end network e) ++ [])
  fit e place = u.bytes e place ∙ ap (λ bs. bytes_in (latch_of s e) ++ (outgoing plan (other_end network e) ++ bs)) (whole e place)

  goes_at : (p : ℕ) → p < length network.sizes → (act : Act) → acts_left (plan.courses p) ≡ act ∷ acts_left (behind (plan.courses p))
      → Goes ops holds Q p (plan.courses p) act
  goes_at p inside act is = goes ops holds Q p (plan.courses p) (u.courses p inside) act is

  steps : (p : ℕ) → p < length network.sizes → Goes ops holds Q p (plan.courses p) Step → Some_pick
  steps p inside g = (Proc p false 0, step-enabled ops network holds Q missing kept plan s u p 0 false inside (omega arith) g)

  sends : (p l byte : ℕ) → p < length network.sizes → Goes ops holds Q p (plan.courses p) (Sends l byte) → Some_pick
  sends p l byte inside g = (Send p l, send-enabled ops network holds Q missing kept plan s u p l byte inside g)

  -- what waits for an acknowledge has its byte in a latch, and whoever is there does something
  abbrev Down : ℕ → Type 0
  Down fuel = (p l : ℕ) → IsEnd network p l → rooted.most < rooted.rank p + fuel → waiting plan (Link p l) ≡ true → Some_pick

  down_act : (fuel q m : ℕ) → Down fuel → IsEnd network q m → rooted.most < rooted.rank q + fuel → m ≡ (plan.courses q).boot
      → is_some (latch_at s.latches q m) ≡ true → (act : Act) → Goes ops holds Q q (plan.courses q) act → Some_pick
  down_act fuel q m again there much boots full Step g = steps q there.processor g
  down_act fuel q m again there much boots full (Takes b) g =
      (Take q m, take-enabled ops network holds Q missing kept plan s u q m b there.processor boots g full)
  down_act fuel q m again there much boots full (Sends k b) g = sends q k b there.processor g
  down_act fuel q m again there much boots full (Acks k) g =
      again q k (record { processor = there.processor; link = g.does.0.low }) much (ap (λ a. is_waiting k a) g.is ∙ same_number k)

  down_far : (fuel p l : ℕ) → Down fuel → IsEnd network p l → rooted.most < rooted.rank p + suc fuel → waiting plan (Link p l) ≡ true
      → (far : Far) → far_at network p l ≡ far → Some_pick
  down_far fuel p l again end much waits Nothing is = let still = u.quiet p l end is in cc
  down_far fuel p l again end much waits Host is =
      let root = u.pairing.once p l end is in
      let back : waiting plan (Link network.root network.root_link) ≡ true =
      ap (λ q. waiting plan (Link q network.root_link)) (sym root.0) ∙ ap (λ m. waiting plan (Link p m)) (sym root.1) ∙ waits in
      let full : is_some s.host.latch ≡ true = u.full Host tt ∙ back in
      let byte = full-latch s.host.latch full in
      let rest : List ℕ = outgoing plan (Link network.root network.root_link) ++ missing Host in
      let keeps : plan.keeps ≡ byte.0 ∷ rest = u.bytes Host tt ∙ ap (λ o. bytes_in o ++ rest) byte.1 in
      (HostTake, host_take-enabled ops network holds Q missing kept plan s u byte.0 rest keeps full)
  down_far fuel p l again end much waits (Link q m) is =
      let there = u.pairing.ends p l q m end is in
      let back : far_at network q m ≡ Link p l = u.pairing.ways p l q m end is in
      let full : is_some (latch_at s.latches q m) ≡ true = u.full (Link q m) there ∙ ap (waiting plan) back ∙ waits in
      let byte = full-latch (latch_at s.latches q m) full in
      let rest : List ℕ = outgoing plan (far_at network q m) ++ missing (Link q m) in
      let takes : taken_by m (plan.courses q) ≡ byte.0 ∷ rest = u.bytes (Link q m) there ∙ ap (λ o. bytes_in o ++ rest) byte.1 in
      let boots : m ≡ (plan.courses q).boot = takes-boot (plan.courses q) m byte.0 rest takes in
      let falls : rooted.rank p < rooted.rank q =
      rooted.falls q p l there.processor (ap (λ k. far_at network q k) (sym boots) ∙ back) in
      elim (left_or_not (plan.courses q)) [
        | inl none ↦ absurd (takes-left (plan.courses q) m byte.0 rest takes none)
        | inr (act, is_act) ↦ down_act fuel q m again there (omega (arith, falls, much)) boots full act
            (goes_at q there.processor act is_act)
      ]

  down : (fuel : ℕ) → Down fuel
  down zero p l end much waits = absurd (omega (arith, much, rooted.bounded p end.processor))
  down (suc fuel) p l end much waits = down_far fuel p l (down fuel) end much waits (far_at network p l) refl

  -- what takes a byte has it in its latch, or whoever sends it does something
  abbrev Up : ℕ → Type 0
  Up fuel = (p : ℕ) → p < length network.sizes → rooted.rank p < fuel → (acts_left (plan.courses p) ≡ [] → ⊥) → Some_pick

  boot_end : (p : ℕ) → p < length network.sizes → IsEnd network p (plan.courses p).boot
  boot_end p inside = record { processor = inside; link = (u.courses p inside).boot }

  first_of_two : (byte : ℕ) (more bytes : List ℕ) → byte ∷ more ≡ bytes ++ [] → (b : ℕ) × (rest : List ℕ) × (bytes ≡ b ∷ rest)
  first_of_two byte more [] e = cc
  first_of_two byte more (b ∷ rest) e = (b, rest, refl)

  up_far : (fuel p byte : ℕ) → Up fuel → (inside : p < length network.sizes) → rooted.rank p < suc fuel → (more : List ℕ)
      → byte ∷ more ≡ outgoing plan (far_at network p (plan.courses p).boot) ++ []
      → waiting plan (far_at network p (plan.courses p).boot) ≡ false
      → (far : Far) → far_at network p (plan.courses p).boot ≡ far → Some_pick
  up_far fuel p byte again inside few more comes free Nothing e =
      let none : byte ∷ more ≡ [] = comes ∙ ap (λ f. outgoing plan f ++ []) e in
      cc
  up_far fuel p byte again inside few more comes free Host e =
      let first = first_of_two byte more plan.sends (comes ∙ ap (λ f. outgoing plan f ++ []) e) in
      (HostSend, host_send-enabled ops network holds Q missing kept plan s u first.0 first.1 first.2 (ap (waiting plan) (sym e) ∙ free))
  up_far fuel p byte again inside few more comes free (Link q m) e =
      let first = first_of_two byte more (sends_of m (acts_left (plan.courses q))) (comes ∙ ap (λ f. outgoing plan f ++ []) e) in
      let there = u.pairing.ends p (plan.courses p).boot q m (boot_end p inside) e in
      let falls = rooted.falls p q m inside e in
      again q there.processor (omega (arith, falls, few)) (sends-left (plan.courses q) m first.0 first.1 first.2)

  up_latch : (fuel p byte : ℕ) → Up fuel → (inside : p < length network.sizes) → rooted.rank p < suc fuel
      → Goes ops holds Q p (plan.courses p) (Takes byte) → (o : Option ℕ) → latch_at s.latches p (plan.courses p).boot ≡ o → Some_pick
  unfolding takes_of
  up_latch fuel p byte again inside few g (Some b) is =
      let full : is_some (latch_at s.latches p (plan.courses p).boot) ≡ true = ap (λ o. is_some o) is in
      (Take p (plan.courses p).boot, take-enabled ops network holds Q missing kept plan s u p (plan.courses p).boot byte inside refl g full)
  up_latch fuel p byte again inside few g None is =
      let more : List ℕ = takes_of (acts_left (behind (plan.courses p))) in
      let here : taken_by (plan.courses p).boot (plan.courses p) ≡ byte ∷ more =
      rw (same_number (plan.courses p).boot) (ap (λ a. takes_of a) g.is) in
      let comes : byte ∷ more ≡ outgoing plan (far_at network p (plan.courses p).boot) ++ [] =
      sym here ∙ fit (Link p (plan.courses p).boot) (boot_end p inside)
      ∙ ap (λ o. bytes_in o ++ (outgoing plan (far_at network p (plan.courses p).boot) ++ [])) is in
      let free : waiting plan (far_at network p (plan.courses p).boot) ≡ false =
      sym (u.full (Link p (plan.courses p).boot) (boot_end p inside)) ∙ ap (λ o. is_some o) is in
      up_far fuel p byte again inside few more comes free (far_at network p (plan.courses p).boot) refl

  up_act : (fuel p : ℕ) → Up fuel → p < length network.sizes → rooted.rank p < suc fuel → (act : Act)
      → Goes ops holds Q p (plan.courses p) act → Some_pick
  up_act fuel p again inside few Step g = steps p inside g
  up_act fuel p again inside few (Sends l b) g = sends p l b inside g
  up_act fuel p again inside few (Acks l) g =
      down (suc rooted.most) p l (record { processor = inside; link = g.does.0.low }) (omega arith)
      (ap (λ a. is_waiting l a) g.is ∙ same_number l)
  up_act fuel p again inside few (Takes b) g = up_latch fuel p b again inside few g (latch_at s.latches p (plan.courses p).boot) refl

  up : (fuel : ℕ) → Up fuel
  up zero p inside few some = absurd (omega (arith, few))
  up (suc fuel) p inside few some = elim (left_or_not (plan.courses p)) [
    | inl none ↦ absurd (some none)
    | inr (act, is_act) ↦ up_act fuel p (up fuel) inside few act (goes_at p inside act is_act)
  ]

  pub left-goes_on : (p : ℕ) → p < length network.sizes → (acts_left (plan.courses p) ≡ [] → ⊥) → Some_pick
  left-goes_on p inside some = up (suc (rooted.rank p)) p inside (omega arith) some
