-- Before any processor stands at its entry, the images of all are whole.
use Rattle.std.proofs.Common.{◌≡◌, ℕ, zero, suc, ◌+◌, ◌==◌, ◌<◌, ◌≤◌, true, List, [], ◌∷◌, ◌++◌, length}
use Rattle.std.proofs.Common.{Option, Some, None, refl, sym, ap, ◌∙◌, subst, arith, append-nil, length-append}
use Rattle.std.specs.Prelude.{is_some}
use Rattle.std.proofs.lemmas.Bool.Decides.{nat_tests}
use Rattle.tn_net.specs.declared.networks.Far.TheVariants.{Link}
use Rattle.tn_net.specs.Networks.{NetworkState, IsEnd}
use Rattle.tn_net.specs.Trees.{LoadNode, node_at}
use Rattle.tn_stream.specs.Images.{ImageBytes}
use Rattle.tn_stream.specs.Streams.{nothing, run_of, wave}
use Rattle.tn_stream.specs.LoadBranches.{branch_at}
use Rattle.tn_stream.proofs.LoadBranchLaws.{parent-before}
use Rattle.tn_node.specs.Nodes.{NodeState}
use Rattle.tn_network.specs.declared.picks.Pick.{Pick}
use Rattle.tn_network.specs.Boards.{BoardState}
use Rattle.tn_network.specs.Holds.{HoldState, entry_of}
use Rattle.tn_network.specs.NodeOps.{stands_at}
use Rattle.tn_network.specs.Nets.{memory_ops}
use Rattle.tn_network.specs.Resets.{PowerState}
use Rattle.tn_load.specs.Acts.{Act, Post}
use Rattle.tn_load.specs.LoneRuns.{takes_of, sends_of, is_waiting}
use Rattle.tn_load.specs.Plans.{Moment, Course, Plan, Follow, IsCourse, now, acts_of, acts_left, first_node, plan_behind}
use Rattle.tn_load.specs.Shares.{latch_of, bytes_in, outgoing, waiting, incoming}
use Rattle.tn_load.specs.Keep.{UnderWay}
use Rattle.tn_load.specs.Inner.NodeActs.{Holds}
use Rattle.tn_load.specs.Boots.{image_at}
use Rattle.tn_load.specs.Inner.Loadings.{from_host, unsent, place_of, IsLoading}
use Rattle.tn_load.proofs.Lives.{Whole, start-some}
use Rattle.tn_load.proofs.Along.{IsAlong, waits, last_count, last_parts}
use Rattle.tn_load.proofs.LoneNodes.{StandsLast}
use Rattle.tn_load.proofs.Onward.{behind-kept, course-goes}
use Rattle.tn_load.proofs.TreeActs.{part-sent}
use Rattle.tn_load.proofs.TreePlaces.{place-is, IsUnder, under}
use Rattle.tn_load.proofs.TreeRuns.{power, site-is, spotted}
use Rattle.tn_load.proofs.TreePlans.{Facts, tree_plan, planned}

-- what holds of the node that a course has come to
fact_now : {N : Type 0} (ops : _) (post : Post) (Q : N → List Act → Type 0) (moments : List (Moment N)) (end : N)
    → Follow ops post Q moments end
    → Q (first_node end moments) (acts_of moments)
fact_now ops post Q [] end h = h.0
fact_now ops post Q (m ∷ moments) end h = h.0

-- the byte of a latch is the one that is waited for
one_waiting : (latch : Option ℕ) (left : List Act) (l : ℕ) → is_some latch ≡ is_waiting l left → length (bytes_in latch) ≡ waits l left
one_waiting None left l is = rw (← is) refl
one_waiting (Some byte) left l is = rw (← is) refl

module _ (network : NetworkState) (nodes : List LoadNode) (images : List ImageBytes) (powers : List PowerState) (holds : HoldState)
    (h : IsLoading network nodes images powers holds) (held rest : List ℕ) (picks : List Pick) (s : BoardState (NodeState (List ℕ)))
    (u : UnderWay memory_ops network holds (unsent network rest) []
    (plan_behind network picks (record (tree_plan network nodes images powers holds h) { sends = held })) s) where
  abbrev first_plan : Plan (NodeState (List ℕ))
  first_plan = record (tree_plan network nodes images powers holds h) { sends = held }

  abbrev plan : Plan (NodeState (List ℕ))
  plan = plan_behind network picks first_plan

  abbrev left : ℕ → List Act
  left p = acts_left (plan.courses p)

  -- the boot link of each course is that of its place, and the facts go on
  boot-is : (p : ℕ) → p < length network.sizes → (plan.courses p).boot ≡ (node_at nodes (place_of nodes p)).boot_link
  boot-is p inside =
      behind-kept (λ q (c : Course (NodeState (List ℕ))). c.boot ≡ (node_at nodes (place_of nodes q)).boot_link) (λ q c is. is) network
      picks
      first_plan p (planned network nodes images powers holds h p inside).boot

  facts : (p : ℕ) → p < length network.sizes → Facts network nodes images powers holds h p (now (plan.courses p)) (left p)
  facts p inside =
      let course = behind-kept (IsCourse memory_ops holds (Facts network nodes images powers holds h))
      (course-goes memory_ops holds (Facts network nodes images powers holds h)) network picks first_plan p
      (planned network nodes images powers holds h p inside).course in
      fact_now memory_ops (record { holds = holds; processor = p; boot = (plan.courses p).boot })
      (Facts network nodes images powers holds h p)
      (plan.courses p).moments (plan.courses p).end course.follow

  -- ---- by places

  abbrev at : ℕ → ℕ
  at k = (node_at nodes k).processor

  inside_at : (k : ℕ) → k < length nodes → at k < length network.sizes
  inside_at k within = (h.whole.placed k within).processor

  spot_at : (k : ℕ) → k < length nodes → place_of nodes (at k) ≡ k
  spot_at k within = place-is network nodes h.pairing h.tree h.whole k within

  abbrev last_of_place : ℕ → ℕ
  last_of_place k = last_count (branch_at images nodes k).root (branch_at images nodes k).below

  along : (k : ℕ) → k < length nodes → IsAlong (last_of_place k) (last_parts (branch_at images nodes k).below) (left (at k))
  along k within =
      subst (λ j. IsAlong (last_of_place j) (last_parts (branch_at images nodes j).below) (left (at k))) (spot_at k within)
      (facts (at k) (inside_at k within)).1

  -- what a place still takes is in its latch, or is still sent by its parent
  still_sent : (k : ℕ) → k < length nodes → (up : IsUnder network nodes h.pairing h.tree h.whole k)
      → length (takes_of (left (at k))) ≡ waits (node_at nodes k).parent_link (left (at up.parent))
      + length (sends_of (node_at nodes k).parent_link (left (at up.parent)))
  still_sent k within up =
      let inside = inside_at k within in
      let boot : ℕ = (node_at nodes k).boot_link in
      let end : IsEnd network (at k) boot = record { processor = inside; link = (h.whole.placed k within).boot_link } in
      let own : (plan.courses (at k)).boot ≡ boot = boot-is (at k) inside ∙ ap (λ j. (node_at nodes j).boot_link) (spot_at k within) in
      let test : boot == (plan.courses (at k)).boot ≡ true = ap (λ b. boot == b) own ∙ same boot in
      let gets : incoming plan (Link (at k) boot) ≡ takes_of (left (at k)) = rw test refl in
      let full = u.full (Link (at k) boot) end ∙ ap (waiting plan) up.far in
      let bytes = u.bytes (Link (at k) boot) end in
      let latch = latch_of s (Link (at k) boot) in
      let one = one_waiting latch (left (at up.parent)) (node_at nodes k).parent_link full in
      let sent : takes_of (left (at k)) ≡ bytes_in latch ++ sends_of (node_at nodes k).parent_link (left (at up.parent)) =
      sym gets ∙ (bytes ∙ (ap (λ f. bytes_in latch ++ (outgoing plan f ++ from_host rest f)) up.far
      ∙ ap (λ xs. bytes_in latch ++ xs) (append-nil (sends_of (node_at nodes k).parent_link (left (at up.parent)))))) in
      ap length sent ∙ (length-append (bytes_in latch) (sends_of (node_at nodes k).parent_link (left (at up.parent)))
      ∙ ap (λ n. n + length (sends_of (node_at nodes k).parent_link (left (at up.parent)))) one)
    where
      same : (x : ℕ) → x == x ≡ true
      same x = grind (arith, nat_tests)

  -- its part of the last wave is what its parent sends in that
  parts-are : (k : ℕ) → k < length nodes → (up : IsUnder network nodes h.pairing h.tree h.whole k)
      → last_parts (branch_at images nodes up.parent).below (node_at nodes k).parent_link ≡ last_of_place k
  unfolding wave
  parts-are k within up =
      ap length (part-sent images nodes (length network.sizes) h.whole nothing run_of k up.parent within up.within up.is)

  -- where a place takes its part of the last wave, its parent does, and so up to the root
  upward : (fuel k : ℕ) → k < fuel → k < length nodes → length (takes_of (left (at k))) < last_of_place k
      → length (takes_of (left (at 0))) < last_of_place 0
  upward zero k small within less = absurd (omega arith)
  upward (suc fuel) zero small within less = less
  upward (suc fuel) (suc k) small within less =
      let up = under network nodes h.pairing h.tree h.whole (suc k) (omega arith) within in
      let before = parent-before nodes (length network.sizes) h.whole (suc k) up.parent within up.is in
      let sent = still_sent (suc k) within up in
      let parts = parts-are (suc k) within up in
      let few : length (sends_of (node_at nodes (suc k)).parent_link (left (at up.parent)))
      < last_parts (branch_at images nodes up.parent).below (node_at nodes (suc k)).parent_link = omega (arith, sent, parts, less) in
      upward fuel up.parent (omega (arith, before, small)) up.within
      ((along up.parent up.within).less (node_at nodes (suc k)).parent_link few)

  -- where the root takes its part of the last wave, no place has more than its own left to take
  downward : (fuel k : ℕ) → k < fuel → k < length nodes → length (takes_of (left (at 0))) ≤ last_of_place 0
      → length (takes_of (left (at k))) ≤ last_of_place k
  downward zero k small within few = absurd (omega arith)
  downward (suc fuel) zero small within few = few
  downward (suc fuel) (suc k) small within few =
      let up = under network nodes h.pairing h.tree h.whole (suc k) (omega arith) within in
      let before = parent-before nodes (length network.sizes) h.whole (suc k) up.parent within up.is in
      let above = downward fuel up.parent (omega (arith, before, small)) up.within few in
      let sent = still_sent (suc k) within up in
      let parts = parts-are (suc k) within up in
      let least = (along up.parent up.within).least (node_at nodes (suc k)).parent_link above in
      omega (arith, sent, parts, least)

  -- a processor at its entry has nothing left to take
  ended : (p : ℕ) → p < length network.sizes → stands_at (entry_of holds p) (now (plan.courses p)) ≡ true → left p ≡ []
  ended p inside stands = go (left p) (facts p inside).0.1
    where
      go : (acts : List Act) → StandsLast (entry_of holds p) (now (plan.courses p)) acts → acts ≡ []
      go [] last = refl
      go (act ∷ acts) last = let never = sym stands ∙ last in absurd cc

  some-last : (k : ℕ) → 0 < last_of_place k
  unfolding wave
  some-last k = start-some (branch_at images nodes k).root (branch_at images nodes k).below

  -- where one stands at its entry, the image of each is whole
  pub whole-all : (p : ℕ) → p < length network.sizes → stands_at (entry_of holds p) (now (plan.courses p)) ≡ true
      → (q : ℕ) → q < length network.sizes
      → Holds (λ m. m) (Whole (image_at images q) (power network nodes images powers holds h q).bytes) (now (plan.courses q))
  unfolding takes_of
  whole-all p inside stands q within =
      let mine = spotted network nodes images powers holds h p inside in
      let none : length (takes_of (left p)) ≡ 0 = ap (λ acts. length (takes_of acts)) (ended p inside stands) in
      let none_at : length (takes_of (left (at (place_of nodes p)))) ≡ 0 = ap (λ x. length (takes_of (left x))) mine.processor ∙ none in
      let root = upward (suc (place_of nodes p)) (place_of nodes p) (omega arith) mine.within
      (omega (arith, none_at, some-last (place_of nodes p))) in
      let there = spotted network nodes images powers holds h q within in
      let few = downward (suc (place_of nodes q)) (place_of nodes q) (omega arith) there.within (omega (arith, root)) in
      let few_left : length (takes_of (left q)) ≤ last_of_place (place_of nodes q) =
      omega (arith, few, ap (λ x. length (takes_of (left x))) there.processor) in
      subst (λ i. Holds (λ m. m) (Whole i (power network nodes images powers holds h q).bytes) (now (plan.courses q)))
      (ap (λ x. x.image) (site-is network nodes images powers holds h q within)) ((facts q within).0.0 few_left)
