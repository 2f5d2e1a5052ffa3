-- The end: where no pick is left, all is done, and the state is one and the same.
use Rattle.std.proofs.Common.{◌≡◌, ◌≢◌, ℕ, zero, suc, ◌+◌, ◌*◌, ◌/◌, ◌%◌, ◌<◌, ◌≤◌, ◌==◌, ◌⊎◌, inl, inr, Bool, true, false, List, [], ◌∷◌}
use Rattle.std.proofs.Common.{◌++◌, length, replicate, Option, Some, None, refl, sym, ap, subst, ◌∙◌, arith, append-nil}
use Rattle.std.specs.Prelude.{is_some, if◌then◌else◌, slice_get, slice_index_or, ◌↔◌}
use Rattle.std.proofs.lemmas.Bool.{cases_eq}
use Rattle.std.proofs.lemmas.Option.{same_Some}
use Rattle.tn_net.specs.declared.networks.Far.{Far}
use Rattle.tn_net.specs.declared.networks.Far.TheVariants.{Nothing, Host, Link}
use Rattle.tn_net.specs.Networks.{NetworkState, IsEnd, far_at}
use Rattle.tn_network.specs.declared.picks.Pick.{Pick}
use Rattle.tn_network.specs.Hosts.{HostState}
use Rattle.tn_network.specs.Boards.{BoardState, latch_at}
use Rattle.tn_network.specs.NodeOps.{NodeOps}
use Rattle.tn_network.specs.Holds.{HoldState, enabled}
use Rattle.tn_network.specs.PickLists.{AreEnabled, after, AtRest}
use Rattle.tn_load.specs.Acts.{Act}
use Rattle.tn_load.specs.LoneRuns.{takes_of, sends_of, is_waiting, weight}
use Rattle.tn_load.specs.Plans.{Course, Moment, Plan, now, first_node, acts_of, acts_left, behind, plan_after, plan_behind, picks_left}
use Rattle.tn_load.specs.Plans.{sum_below}
use Rattle.tn_load.specs.Shares.{IsWireEnd, other_end, taken_by, incoming, outgoing, waiting, latch_of, bytes_in}
use Rattle.tn_load.specs.UnderWay.{IsUnderWay}
use Rattle.tn_load.specs.Keep.{IsRooted, IsWhole, ends_from, ended_board}
use Rattle.tn_load.proofs.Latches.{empty-latch}
use Rattle.tn_load.proofs.Totals.{boot-after, end-after}
use Rattle.tn_load.proofs.Keeping.{one-off, along}
use Rattle.tn_load.proofs.Resting.{left_or_not, left-goes_on}

-- ---- lists

no_bytes : (bytes : List ℕ) → length bytes ≡ 0 → bytes ≡ []
no_bytes [] is = refl
no_bytes (b ∷ bytes) is = absurd (let more : suc (length bytes) ≡ 0 = is in omega (arith, more))

all_none : (latches : List (Option ℕ)) → ((j : ℕ) → j < length latches → slice_index_or latches j None ≡ None)
    → latches ≡ replicate (length latches) None
all_none [] each = refl
all_none (x ∷ latches) each =
    let first : x ≡ None = each 0 (omega arith) in
    let rest : latches ≡ replicate (length latches) None = all_none latches (λ j h. each (suc j) (omega (arith, h))) in
    ap (λ y. y ∷ latches) first ∙ ap (λ ys. None ∷ ys) rest

ends-are : {N : Type 0} (courses : ℕ → Course N) (nodes : List N) (p count : ℕ) → length nodes ≡ count
    → ((k : ℕ) → k < count → slice_get nodes k ≡ Some (courses (p + k)).end) → nodes ≡ ends_from p count courses
unfolding ends_from
ends-are courses [] p zero size each = refl
ends-are courses [] p (suc count) size each = absurd (let none : 0 ≡ suc count = size in omega (arith, none))
ends-are courses (n ∷ nodes) p zero size each = absurd (let more : suc (length nodes) ≡ 0 = size in omega (arith, more))
ends-are courses (n ∷ nodes) p (suc count) size each =
    let there : p + 0 ≡ p = omega arith in
    let first : Some n ≡ Some (courses p).end = each 0 (omega arith) ∙ ap (λ k. Some (courses k).end) there in
    let more : suc (length nodes) ≡ suc count = size in
    let here : n ≡ (courses p).end = same_Some n (courses p).end first in
    let rest : nodes ≡ ends_from (p + 1) count courses =
    ends-are courses nodes (p + 1) count (omega (arith, more))
    (λ k h. each (suc k) (omega (arith, h)) ∙ ap (λ j. Some (courses j).end) (let e : p + suc k ≡ p + 1 + k = omega arith in e)) in
    ap (λ x. x ∷ nodes) here ∙ ap (λ xs. (courses p).end ∷ xs) rest

sum-zero : (n : ℕ) (f : ℕ → ℕ) → ((q : ℕ) → q < n → f q ≡ 0) → sum_below n f ≡ 0
unfolding sum_below
sum-zero zero f each = refl
sum-zero (suc n) f each =
    let rest : sum_below n f ≡ 0 = sum-zero n f (λ q h. each q (omega (arith, h))) in
    let last : f n ≡ 0 = each n (omega arith) in
    omega (arith, rest, last)

-- at the end of a course its node is there
now-end : {N : Type 0} (c : Course N) → acts_left c ≡ [] → now c ≡ c.end
now-end {N = N} c is = go c.moments is
  where
    go : (ms : List (Moment N)) → acts_of ms ≡ [] → first_node c.end ms ≡ c.end
    go [] e = refl
    go (m ∷ ms) e = cc

-- ---- equal boards

pub same_host : (h k : HostState) → h.left ≡ k.left → h.sent ≡ k.sent → h.latch ≡ k.latch → h.kept ≡ k.kept → h ≡ k
same_host h k left sent latch kept =
    ap (λ x. record h { left = x }) left ∙ ap (λ x. record h { left = k.left; sent = x }) sent
    ∙ ap (λ x. record h { left = k.left; sent = k.sent; latch = x }) latch
    ∙ ap (λ x. record h { left = k.left; sent = k.sent; latch = k.latch; kept = x }) kept

pub same_board : {N : Type 0} (s t : BoardState N) → s.nodes ≡ t.nodes → s.latches ≡ t.latches → s.host ≡ t.host → s ≡ t
same_board s t nodes latches host =
    ap (λ x. record s { nodes = x }) nodes ∙ ap (λ x. record s { nodes = t.nodes; latches = x }) latches
    ∙ ap (λ x. record s { nodes = t.nodes; latches = t.latches; host = x }) host

-- ---- some processor has acts left, or none has
search-left : {N : Type 0} (courses : ℕ → Course N) (n : ℕ)
    → ((p : ℕ) × (p < n) × (acts_left (courses p) ≡ [] → ⊥)) ⊎ ((p : ℕ) → p < n → acts_left (courses p) ≡ [])
search-left courses zero = inr (λ p h. absurd (omega (arith, h)))
search-left courses (suc n) = elim (search-left courses n) [
  | inl found ↦ inl (found.0, omega (arith, found.1), found.2)
  | inr none ↦ elim (left_or_not (courses n)) [
    | inl empty ↦ inr (λ p h. elim (cases_eq p n) [
      | inl e ↦ subst (λ k. acts_left (courses k) ≡ []) (sym e) empty
      | inr apart ↦ none p (omega (arith, h, apart))
    ])
    | inr some ↦ inl (n, omega arith, λ empty. let bad : [] ≡ some.0 ∷ acts_left (behind (courses n)) = sym empty ∙ some.1 in cc)
  ]
]

module _ {N : Type 0} (ops : NodeOps N) (network : NetworkState) (holds : HoldState) (Q : ℕ → N → List Act → Type 0)
    (missing : Far → List ℕ) (kept : List ℕ) (plan : Plan N) (s : BoardState N) (u : IsUnderWay ops network holds Q missing kept plan s)
    (rooted : IsRooted network plan) (whole : IsWhole network missing) where
  abbrev count : ℕ
  count = length network.sizes

  abbrev Some_enabled : Type 0
  Some_enabled = (pick : Pick) × (enabled ops network holds s pick ≡ true)

  -- where no processor has acts left, the host has none
  taken-nothing : (c : Course N) (l : ℕ) → acts_left c ≡ [] → taken_by l c ≡ []
  unfolding takes_of
  taken-nothing c l none = ap (λ a. if l == c.boot then takes_of a else []) none ∙ go (l == c.boot)
    where
      go : (test : Bool) → (let xs : List ℕ = if test then [] else [] in xs) ≡ []
      go true = refl
      go false = refl

  nothing_first : (o : Option ℕ) (bytes : List ℕ) → [] ≡ bytes_in o ++ bytes → bytes ≡ []
  nothing_first None bytes e = sym e
  nothing_first (Some b) bytes e = cc

  no_first : (xs ys : List ℕ) → xs ++ ys ≡ [] → xs ≡ []
  no_first [] ys e = refl
  no_first (x ∷ xs) ys e = cc

  abbrev Empty : Type 0
  Empty = (p : ℕ) → p < count → acts_left (plan.courses p) ≡ []

  sends-nothing : Empty → plan.sends ≡ []
  sends-nothing none =
      let root = u.pairing.root in
      let start : [] ≡ bytes_in (latch_at s.latches network.root network.root_link) ++
      (outgoing plan Host ++ missing (Link network.root network.root_link)) =
      sym (taken-nothing (plan.courses network.root) network.root_link (none network.root root.processor))
      ∙ u.bytes (Link network.root network.root_link) root
      ∙ ap (λ f. bytes_in (latch_at s.latches network.root network.root_link) ++
      (outgoing plan f ++ missing (Link network.root network.root_link))) u.pairing.hosted in
      no_first plan.sends (missing (Link network.root network.root_link))
      (nothing_first (latch_at s.latches network.root network.root_link) _ start)

  keeps-nothing : Empty → plan.keeps ≡ []
  unfolding sends_of
  keeps-nothing none =
      let acts : acts_left (plan.courses network.root) ≡ [] = none network.root u.pairing.root.processor in
      let free : is_some s.host.latch ≡ false = u.full Host tt ∙ ap (λ a. is_waiting network.root_link a) acts in
      let empty : s.host.latch ≡ None = empty-latch s.host.latch free in
      u.bytes Host tt ∙ ap (λ o. bytes_in o ++ (outgoing plan (Link network.root network.root_link) ++ missing Host)) empty
      ∙ ap (λ a. sends_of network.root_link a ++ missing Host) acts ∙ whole Host tt

  weights-nothing : Empty → sum_below count (λ p. weight (acts_left (plan.courses p))) ≡ 0
  unfolding weight
  weights-nothing none = sum-zero count (λ p. weight (acts_left (plan.courses p))) (λ q h. ap (λ a. weight a) (none q h))

  -- progress
  pub goes_on : picks_left count plan ≢ 0 → Some_enabled
  goes_on some = elim (search-left plan.courses count) [
    | inl found ↦ left-goes_on ops network holds Q missing kept plan s u rooted whole found.0 found.1 found.2
    | inr none ↦ absurd (some
        (let sends : length plan.sends ≡ 0 = ap (λ bs. length bs) (sends-nothing none) in
        let keeps : length plan.keeps ≡ 0 = ap (λ bs. length bs) (keeps-nothing none) in
        let weights = weights-nothing none in
        omega (arith, sends, keeps, weights)))
  ]

  -- where no pick is left, none is enabled, and no acts are left
  pub at-rest : picks_left count plan ≡ 0 → AtRest ops network holds s
  at-rest none pick = go (enabled ops network holds s pick) refl
    where
      go : (b : Bool) → enabled ops network holds s pick ≡ b → b ≡ false
      go false is = refl
      go true is =
          let off : picks_left count plan ≡ 1 + picks_left count (plan_after network pick plan) =
          one-off ops network holds Q missing kept plan s u pick is in
          absurd (omega (arith, off, none))

  empty : picks_left count plan ≡ 0 → Empty
  empty none = elim (search-left plan.courses count) [
    | inl found ↦
        let some = left-goes_on ops network holds Q missing kept plan s u rooted whole found.0 found.1 found.2 in
        let still : enabled ops network holds s some.0 ≡ false = at-rest none some.0 in
        absurd (let bad : true ≡ false = sym some.1 ∙ still in cc)
    | inr each ↦ each
  ]

  no_latch : (o : Option ℕ) (bytes : List ℕ) → [] ≡ bytes_in o ++ bytes → o ≡ None
  no_latch None bytes e = refl
  no_latch (Some b) bytes e = cc

  nothing_comes : Empty → (e : Far) → IsWireEnd network e → incoming plan e ≡ []
  nothing_comes none Nothing place = refl
  nothing_comes none Host place = keeps-nothing none
  nothing_comes none (Link p l) place = taken-nothing (plan.courses p) l (none p place.processor)

  empty_latch : Empty → (e : Far) → IsWireEnd network e → latch_of s e ≡ None
  empty_latch none e place =
      no_latch (latch_of s e) (outgoing plan (other_end network e) ++ missing e) (sym (nothing_comes none e place) ∙ u.bytes e place)

  no_waits : Empty → plan.waits ≡ false
  no_waits none =
      let root = u.pairing.root in
      ap (waiting plan) (sym u.pairing.hosted) ∙ sym (u.full (Link network.root network.root_link) root)
      ∙ ap (λ o. is_some o) (empty_latch none (Link network.root network.root_link) root)

  latches-none : Empty → s.latches ≡ replicate (4 * count) None
  latches-none none =
      all_none s.latches (λ j h.
      let place : IsEnd network (j / 4) (j % 4) = record { processor = omega (arith, h, u.latches); link = omega arith } in
      let at : 4 * (j / 4) + j % 4 ≡ j = omega arith in
      subst (λ k. slice_index_or s.latches k None ≡ None) at (empty_latch none (Link (j / 4) (j % 4)) place))
      ∙ ap (λ n. replicate n None) u.latches

  nodes-ended : Empty → s.nodes ≡ ends_from 0 count plan.courses
  nodes-ended none =
      ends-are plan.courses s.nodes 0 count u.count
      (λ k h. u.nodes k h ∙ ap Some (now-end (plan.courses k) (none k h)) ∙ ap (λ j. Some (plan.courses j).end)
      (let e : k ≡ 0 + k = omega arith in e))

  pub ended : picks_left count plan ≡ 0 → s ≡ ended_board count kept plan
  ended zero_left =
      let none : Empty = empty zero_left in
      same_board s (ended_board count kept plan) (nodes-ended none) (latches-none none)
      (same_host s.host (ended_board count kept plan).host (u.sends ∙ sends-nothing none) (u.waits ∙ no_waits none)
      (empty_latch none Host tt)
      (sym (append-nil s.host.kept) ∙ ap (λ bs. s.host.kept ++ bs) (sym (keeps-nothing none)) ∙ u.keeps))

-- ---- picks in any order

-- the same rank, and no bytes missing, behind any picks
rooted-after : {N : Type 0} (network : NetworkState) (pick : Pick) (plan : Plan N) → IsRooted network plan → IsRooted network
    (plan_after network pick plan)
rooted-after network pick plan rooted = record {
  rank = rooted.rank;
  most = rooted.most;
  bounded = rooted.bounded;
  falls = λ p q m inside is. rooted.falls p q m inside (ap (λ k. far_at network p k) (sym (boot-after network pick plan p)) ∙ is);
}

module _ {N : Type 0} (network : NetworkState) where
  rooted-behind : (picks : List Pick) (plan : Plan N) → IsRooted network plan → IsRooted network (plan_behind network picks plan)
  rooted-behind [] plan rooted = rooted
  rooted-behind (pick ∷ picks) plan rooted = rooted-behind picks (plan_after network pick plan) (rooted-after network pick plan rooted)

  end-behind : (picks : List Pick) (plan : Plan N) (q : ℕ) → ((plan_behind network picks plan).courses q).end ≡ (plan.courses q).end
  end-behind [] plan q = refl
  end-behind (pick ∷ picks) plan q = end-behind picks (plan_after network pick plan) q ∙ end-after network pick plan q

ends-same : {N : Type 0} (p count : ℕ) (one two : ℕ → Course N) → ((q : ℕ) → (one q).end ≡ (two q).end)
    → ends_from p count one ≡ ends_from p count two
unfolding ends_from
ends-same p zero one two same = refl
ends-same p (suc count) one two same =
    ap (λ x. x ∷ ends_from (p + 1) count one) (same p) ∙ ap (λ xs. (two p).end ∷ xs) (ends-same (p + 1) count one two same)

module _ {N : Type 0} (ops : NodeOps N) (network : NetworkState) (holds : HoldState) (Q : ℕ → N → List Act → Type 0)
    (missing : Far → List ℕ) (kept : List ℕ) (plan : Plan N) (s : BoardState N) (picks : List Pick)
    (u : IsUnderWay ops network holds Q missing kept plan s) (rooted : IsRooted network plan) (whole : IsWhole network missing)
    (on : AreEnabled ops network holds s picks) where
  abbrev all : ℕ
  all = picks_left (length network.sizes) plan

  abbrev rest : Plan N
  rest = plan_behind network picks plan

  gone : IsUnderWay ops network holds Q missing kept rest (after ops network s picks)
      × (all ≡ length picks + picks_left (length network.sizes) rest)
  gone = along ops network holds Q missing kept plan s picks u on

  pub at_most : length picks ≤ all
  at_most = let is = gone.1 in omega (arith, is)

  none_left : length picks ≡ all → picks_left (length network.sizes) rest ≡ 0
  none_left full = let is = gone.1 in omega (arith, is, full)

  pub one_end : length picks ≡ all → after ops network s picks ≡ ended_board (length network.sizes) kept plan
  one_end full =
      ended ops network holds Q missing kept rest (after ops network s picks) gone.0 (rooted-behind network picks plan rooted) whole
      (none_left full)
      ∙ ap (λ nodes. record (ended_board (length network.sizes) kept plan) { nodes = nodes })
      (ends-same 0 (length network.sizes) rest.courses plan.courses (end-behind network picks plan))

  pub rests : AtRest ops network holds (after ops network s picks) ↔ (length picks ≡ all)
  rests = (
    λ still. by_number (picks_left (length network.sizes) rest) refl still,
    λ full. at-rest ops network holds Q missing kept rest (after ops network s picks) gone.0 (rooted-behind network picks plan rooted)
        whole (none_left full),
  )
    where
      by_number : (n : ℕ) → picks_left (length network.sizes) rest ≡ n → AtRest ops network holds (after ops network s picks) → length
          picks ≡ all
      by_number zero none still = let is = gone.1 in omega (arith, is, none)
      by_number (suc n) more still =
          let some = goes_on ops network holds Q missing kept rest (after ops network s picks) gone.0
          (rooted-behind network picks plan rooted) whole
          (λ none. omega (arith, more, none)) in
          let off : enabled ops network holds (after ops network s picks) some.0 ≡ false = still some.0 in
          absurd (let bad : true ≡ false = sym some.1 ∙ off in cc)
