-- The plan of a whole network: for each processor the course of its lone run, and for the host the stream.
use Rattle.std.proofs.Common.{◌≡◌, ◌≢◌, ℕ, zero, suc, ◌==◌, ◌<◌, ◌≤◌, Bool, true, false, List, []}
use Rattle.std.proofs.Common.{length}
use Rattle.std.proofs.Common.{None, refl, sym, ap, ◌∙◌, subst, arith}
use Rattle.std.specs.Prelude.{nat_lt, not, ◌&&◌}
use Rattle.std.proofs.lemmas.Bool.Decides.{nat_tests}
use Rattle.tn_word.specs.Words.{load_base}
use Rattle.tn_mem.specs.Memories.{plain_access}
use Rattle.tn_net.specs.declared.networks.Far.{Far}
use Rattle.tn_net.specs.declared.networks.Far.TheVariants.{Nothing, Host, Link}
use Rattle.tn_net.specs.Networks.{NetworkState, IsEnd, far_at}
use Rattle.tn_net.specs.Trees.{LoadNode, node_at}
use Rattle.tn_stream.specs.Images.{ImageBytes}
use Rattle.tn_stream.specs.Streams.{stream}
use Rattle.tn_stream.specs.LoadBranches.{whole_branch}
use Rattle.tn_node.specs.Nodes.{NodeState}
use Rattle.tn_node.specs.Links.{offers}
use Rattle.tn_network.specs.Holds.{HoldState, entry_of}
use Rattle.tn_network.specs.Nets.{memory_ops}
use Rattle.tn_network.specs.Resets.{PowerState, powered_node}
use Rattle.tn_load.specs.Acts.{Act, Post, HasEnded}
use Rattle.tn_load.specs.LoneRuns.{Lone, AreAnswered, takes_of, sends_of}
use Rattle.tn_load.specs.Plans.{Course, Plan, IsCourse, acts_left, now}
use Rattle.tn_load.specs.Shares.{taken_by}
use Rattle.tn_load.specs.Inner.Lives.{acts_at}
use Rattle.tn_load.specs.Boots.{image_at, no_power}
use Rattle.tn_load.specs.Inner.Loadings.{place_of, IsLoading}
use Rattle.tn_load.proofs.Plains.{plain_is_plain}
use Rattle.tn_load.proofs.Primaries.{HasTimers}
use Rattle.tn_load.proofs.Lives.{Whole, at_entry}
use Rattle.tn_load.proofs.Lones.{WholeBeforeStart, LoneLife}
use Rattle.tn_load.proofs.LoneNodes.{StandsLast, lone-run}
use Rattle.tn_load.proofs.Along.{IsAlong, last_count, last_parts, lone-with, life-along}
use Rattle.tn_load.proofs.Answered.{settled-life, settled-answered}
use Rattle.tn_load.proofs.Starting.{moments_of, acts-moments, first-moments, follow-moments}
use Rattle.tn_load.proofs.TreeActs.{takes-sent, takes-stream}
use Rattle.tn_load.proofs.TreePlaces.{IsPlaceOf, place-is, root-place, root-processor, under, silent}
use Rattle.tn_load.proofs.Leading.{each_link}
use Rattle.tn_load.proofs.TreeRuns.{spot, branch, power, spotted, site-is, own-run}

module _ (network : NetworkState) (nodes : List LoadNode) (images : List ImageBytes) (powers : List PowerState) (holds : HoldState)
    (h : IsLoading network nodes images powers holds) where
  -- What holds of each processor on its way. Once it has no more to take than its part of the last wave, its image
  -- is whole; it stands at its entry at the end alone; and once it takes its part of the last wave, no more than
  -- their parts of that is left for its children.
  abbrev Wholes : ℕ → NodeState (List ℕ) → List Act → Type 0
  Wholes p n left =
      WholeBeforeStart (λ m. m) (branch network nodes images powers holds h p).root (branch network nodes images powers holds h p).below
      (power network nodes images powers holds h p).bytes n left

  abbrev Lasts : ℕ → NodeState (List ℕ) → List Act → Type 0
  Lasts p n left = Wholes p n left × StandsLast (entry_of holds p) n left

  abbrev Alongs : ℕ → List Act → Type 0
  Alongs p left =
      IsAlong (last_count (branch network nodes images powers holds h p).root (branch network nodes images powers holds h p).below)
      (last_parts (branch network nodes images powers holds h p).below) left

  abbrev pub Facts : ℕ → NodeState (List ℕ) → List Act → Type 0
  Facts p n left =
      (WholeBeforeStart (λ m. m) (branch network nodes images powers holds h p).root (branch network nodes images powers holds h p).below
      (power network nodes images powers holds h p).bytes n left × StandsLast (entry_of holds p) n left)
      × IsAlong (last_count (branch network nodes images powers holds h p).root (branch network nodes images powers holds h p).below)
      (last_parts (branch network nodes images powers holds h p).below) left

  abbrev place : ℕ → ℕ
  place p = spot network nodes images powers holds h p

  abbrev acts : ℕ → List Act
  acts p = acts_at images nodes (place p)

  -- where a course ends
  pub record IsAtEntry (p : ℕ) (end : NodeState (List ℕ)) : Type 0 where
    pub memory : List ℕ
    pub is : end ≡ at_entry (λ m. m) (image_at images p) memory
    pub timers : HasTimers memory
    pub whole : Whole (image_at images p) (power network nodes images powers holds h p).bytes memory

  -- what is known of the course of a processor
  pub record IsPlanned (p : ℕ) (c : Course (NodeState (List ℕ))) : Type 0 where
    pub boot : c.boot ≡ (node_at nodes (place p)).boot_link
    pub acts_are : acts_left c ≡ acts p
    pub first : now c ≡ powered_node (power network nodes images powers holds h p)
    pub course : IsCourse memory_ops holds Facts p c
    pub end : IsAtEntry p c.end

  same : (x : ℕ) → x == x ≡ true
  same x = grind (arith, nat_tests)

  -- held at its entry, and with no engine open
  stays : (held there : Bool) → held ≡ true → there ≡ true → true && not (held && (true && (there && true))) ≡ false
  stays true true e f = refl
  stays false there e f = cc
  stays held false e f = cc

  abbrev boots : ℕ → ℕ
  boots p = (branch network nodes images powers holds h p).root.boot

  abbrev post : ℕ → Post
  post p = record { holds = holds; processor = p; boot = boots p }

  boots-is : (p : ℕ) → p < length network.sizes → boots p ≡ (node_at nodes (place p)).boot_link
  boots-is p inside = ap (λ s. s.boot) (site-is network nodes images powers holds h p inside)

  boots-low : (p : ℕ) → p < length network.sizes → boots p < 4
  boots-low p inside = subst (λ k. k < 4) (sym (boots-is p inside))
      (h.whole.placed (place p) (spotted network nodes images powers holds h p inside).within).boot_link

  image-is : (p : ℕ) → p < length network.sizes → (branch network nodes images powers holds h p).root.image ≡ image_at images p
  image-is p inside = ap (λ s. s.image) (site-is network nodes images powers holds h p inside)

  abbrev OwnRun : ℕ → Type 0
  OwnRun p =
      LoneLife plain_access (λ m. m) plain_is_plain (power network nodes images powers holds h p).error
      (power network nodes images powers holds h p).halt (branch network nodes images powers holds h p).root
      (branch network nodes images powers holds h p).below (power network nodes images powers holds h p).bytes

  abbrev end_of : (p : ℕ) → OwnRun p → NodeState (List ℕ)
  end_of p run = at_entry (λ m. m) (branch network nodes images powers holds h p).root.image run.after

  alone_run : (p : ℕ) → p < length network.sizes → (run : OwnRun p)
      → Lone memory_ops (post p) (Facts p) (acts p) (powered_node (power network nodes images powers holds h p)) (end_of p run)
  alone_run p inside run =
      lone-with memory_ops (post p) (Lasts p) (Alongs p) (acts p) (powered_node (power network nodes images powers holds h p))
      (end_of p run)
      (lone-run plain_access holds p (boots p) (boots-low p inside)
      (subst (λ e. load_base ≤ e) (sym (h.entries p inside)) (h.above p inside))
      (Wholes p) (acts p) (powered_node (power network nodes images powers holds h p)) (end_of p run) run.run)
      (life-along (branch network nodes images powers holds h p).root (branch network nodes images powers holds h p).below)

  made : (p : ℕ) → p < length network.sizes → Course (NodeState (List ℕ))
  made p inside =
      let run : OwnRun p = own-run network nodes images powers holds h p inside in
      record {
        boot = boots p;
        moments = moments_of memory_ops (post p) (Facts p) (acts p) (powered_node (power network nodes images powers holds h p))
            (end_of p run) (alone_run p inside run);
        end = end_of p run;
      }

  ended : (p : ℕ) → p < length network.sizes → (m : List ℕ)
      → HasEnded memory_ops (post p) (at_entry (λ m. m) (branch network nodes images powers holds h p).root.image m)
  unfolding offers
  ended p inside m =
      let at : (branch network nodes images powers holds h p).root.image.entry == entry_of holds p ≡ true =
      ap (λ i. i.entry == entry_of holds p) (image-is p inside)
      ∙ (ap (λ e. (image_at images p).entry == e) (h.entries p inside) ∙ same (image_at images p).entry) in
      record {
        still = stays holds.held ((branch network nodes images powers holds h p).root.image.entry == entry_of holds p) h.held at;
        offers = each_link (λ l. memory_ops.offers l (at_entry (λ m. m) (branch network nodes images powers holds h p).root.image m) ≡
            None) refl refl refl refl;
      }

  made-planned : (p : ℕ) (inside : p < length network.sizes) → IsPlanned p (made p inside)
  unfolding made
  made-planned p inside =
      let run : OwnRun p = own-run network nodes images powers holds h p inside in
      let first : NodeState (List ℕ) = powered_node (power network nodes images powers holds h p) in
      let alone = alone_run p inside run in
      let acts_known = acts-moments memory_ops (post p) (Facts p) (acts p) first (end_of p run) alone in
      record {
        boot = boots-is p inside;
        acts_are = acts_known;
        first = first-moments memory_ops (post p) (Facts p) (acts p) first (end_of p run) alone;
        course = record {
          boot = boots-low p inside;
          follow = follow-moments memory_ops (post p) (Facts p) (acts p) first (end_of p run) alone (ended p inside run.after);
          answered = subst AreAnswered (sym acts_known)
              (settled-answered (settled-life (branch network nodes images powers holds h p).root
              (branch network nodes images powers holds h p).below));
        };
        end = record {
          memory = run.after;
          is = ap (λ i. at_entry (λ m. m) i run.after) (image-is p inside);
          timers = run.timers;
          whole = subst (λ i. Whole i (power network nodes images powers holds h p).bytes run.after) (image-is p inside) run.whole;
        };
      }

  -- ---- the plan

  pub chosen : (p : ℕ) (test : Bool) → nat_lt p (length network.sizes) ≡ test → Course (NodeState (List ℕ))
  chosen p true t = made p (grind (arith, nat_tests))
  chosen p false t = record { boot = 0; moments = []; end = powered_node no_power }

  chosen-planned : (p : ℕ) → p < length network.sizes → (test : Bool) (t : nat_lt p (length network.sizes) ≡ test)
      → IsPlanned p (chosen p test t)
  unfolding chosen
  chosen-planned p inside true t = made-planned p _
  chosen-planned p inside false t = absurd (grind (arith, nat_tests))

  unfoldable pub tree_plan : Plan (NodeState (List ℕ))
  tree_plan =
      record {
        courses = λ p. chosen p (nat_lt p (length network.sizes)) refl;
        sends = stream (whole_branch images nodes);
        waits = false;
        keeps = [];
      }

  pub planned : (p : ℕ) → p < length network.sizes → IsPlanned p (tree_plan.courses p)
  unfolding tree_plan
  planned p inside = chosen-planned p inside (nat_lt p (length network.sizes)) refl

  -- ---- what the wires carry

  place-below : (p : ℕ) → p < length network.sizes → IsPlaceOf nodes p (place p)
  place-below p inside = spotted network nodes images powers holds h p inside

  -- what a processor sends by a link
  abbrev pub sent-by : ℕ → ℕ → List ℕ
  sent-by q m = sends_of m (acts_left (tree_plan.courses q))

  sends-are : (q m : ℕ) → q < length network.sizes → sent-by q m ≡ sends_of m (acts q)
  sends-are q m inside = ap (sends_of m) (planned q inside).acts_are

  -- it sends nothing by a link whose far end is no child's boot link
  silent-at : (q m : ℕ) → q < length network.sizes
      → ((c : ℕ) → c < length nodes → far_at network q m ≢ Link (node_at nodes c).processor (node_at nodes c).boot_link)
      → sent-by q m ≡ []
  silent-at q m inside apart =
      let at = place-below q inside in
      sends-are q m inside
      ∙ silent network nodes h.pairing h.tree h.whole images (place q) m at.within
      (λ c within far. apart c within (ap (λ x. far_at network x m) (sym at.processor) ∙ far))

  link_same : (p q l m : ℕ) → Link p l ≡ Link q m → (p ≡ q) × (l ≡ m)
  link_same p q l m e = (cc, cc)

  -- by its boot link a processor takes what comes to it, and nothing by another
  takes-are : (p : ℕ) → p < length network.sizes
      → taken_by (node_at nodes (place p)).boot_link (tree_plan.courses p) ≡ takes_of (acts p)
  takes-are p inside =
      let c = planned p inside in
      let at : (node_at nodes (place p)).boot_link == (tree_plan.courses p).boot ≡ true =
      ap (λ b. (node_at nodes (place p)).boot_link == b) c.boot ∙ same (node_at nodes (place p)).boot_link in
      rw at (ap takes_of c.acts_are)

  takes-none : (p l : ℕ) → p < length network.sizes → l ≢ (node_at nodes (place p)).boot_link → taken_by l (tree_plan.courses p) ≡ []
  takes-none p l inside apart =
      let c = planned p inside in
      let other : l == (tree_plan.courses p).boot ≡ false = ap (λ b. l == b) c.boot ∙ differ l (node_at nodes (place p)).boot_link apart in
      rw other refl
    where
      differ : (x y : ℕ) → x ≢ y → x == y ≡ false
      differ x y e = grind (arith, nat_tests)

  -- what comes from a far end: the host's bytes from the host
  abbrev pub from_far : List ℕ → Far → List ℕ
  from_far bytes Nothing = []
  from_far bytes Host = bytes
  from_far bytes (Link q m) = sent-by q m

  carried_up : (p : ℕ) → p < length network.sizes → (k : ℕ) → place p ≡ k
      → takes_of (acts p) ≡ from_far (stream (whole_branch images nodes)) (far_at network p (node_at nodes (place p)).boot_link)
  carried_up p inside zero is =
      let at = place-below p inside in
      let root : p ≡ network.root = sym at.processor
      ∙ (ap (λ k. (node_at nodes k).processor) is ∙ root-processor network nodes h.pairing h.tree h.whole) in
      let link : (node_at nodes (place p)).boot_link ≡ network.root_link = ap (λ k. (node_at nodes k).boot_link) is ∙ h.tree.boot in
      let host : far_at network p (node_at nodes (place p)).boot_link ≡ Host =
      ap (λ x. far_at network x (node_at nodes (place p)).boot_link) root
      ∙ (ap (λ x. far_at network network.root x) link ∙ h.pairing.hosted) in
      ap (λ k. takes_of (acts_at images nodes k)) is
      ∙ (takes-stream images nodes ∙ sym (ap (from_far (stream (whole_branch images nodes))) host))
  carried_up p inside (suc k) is =
      let at = place-below p inside in
      let up = under network nodes h.pairing h.tree h.whole (place p) (omega (arith, is)) at.within in
      let parent : ℕ = up.parent in
      let parent_inside : (node_at nodes parent).processor < length network.sizes = (h.whole.placed parent up.within).processor in
      let far : far_at network p (node_at nodes (place p)).boot_link ≡ Link (node_at nodes parent).processor
      (node_at nodes (place p)).parent_link =
      ap (λ x. far_at network x (node_at nodes (place p)).boot_link) (sym at.processor) ∙ up.far in
      let there : sent-by (node_at nodes parent).processor (node_at nodes (place p)).parent_link
      ≡ sends_of (node_at nodes (place p)).parent_link (acts_at images nodes parent) =
      sends-are (node_at nodes parent).processor (node_at nodes (place p)).parent_link parent_inside
      ∙ ap (λ k. sends_of (node_at nodes (place p)).parent_link (acts_at images nodes k))
      (place-is network nodes h.pairing h.tree h.whole parent up.within) in
      takes-sent images nodes (length network.sizes) h.whole (place p) parent at.within up.within up.is
      ∙ (sym there ∙ sym (ap (from_far (stream (whole_branch images nodes))) far))

  -- each end takes what the other sends
  pub carried : (p l : ℕ) → IsEnd network p l
      → taken_by l (tree_plan.courses p) ≡ from_far (stream (whole_branch images nodes)) (far_at network p l)
  carried p l end = go (l == (node_at nodes (place p)).boot_link) refl
    where
      boot : ℕ
      boot = (node_at nodes (place p)).boot_link

      quiet : (l ≢ (node_at nodes (place p)).boot_link) → (f : Far) → far_at network p l ≡ f
          → from_far (stream (whole_branch images nodes)) f ≡ []
      quiet apart Nothing far = refl
      quiet apart Host far =
          let once = h.pairing.once p l end far in
          let first : place p ≡ 0 = ap (place_of nodes) once.0 ∙ root-place network nodes h.pairing h.tree h.whole in
          absurd (apart (once.1 ∙ sym (ap (λ k. (node_at nodes k).boot_link) first ∙ h.tree.boot)))
      quiet apart (Link q m) far =
          silent-at q m (h.pairing.ends p l q m end far).processor
          (λ c within other.
          let pair = link_same p (node_at nodes c).processor l (node_at nodes c).boot_link (sym (h.pairing.ways p l q m end far) ∙ other) in
          let spot_is : place p ≡ c = ap (place_of nodes) pair.0 ∙ place-is network nodes h.pairing h.tree h.whole c within in
          apart (pair.1 ∙ sym (ap (λ k. (node_at nodes k).boot_link) spot_is)))

      go : (test : Bool) → l == (node_at nodes (place p)).boot_link ≡ test
          → taken_by l (tree_plan.courses p) ≡ from_far (stream (whole_branch images nodes)) (far_at network p l)
      go true t =
          let is : l ≡ (node_at nodes (place p)).boot_link = grind (arith, nat_tests) in
          ap (λ x. taken_by x (tree_plan.courses p)) is
          ∙ (takes-are p end.processor ∙ (carried_up p end.processor (place p) refl
          ∙ ap (λ x. from_far (stream (whole_branch images nodes)) (far_at network p x)) (sym is)))
      go false t =
          let apart : l ≢ (node_at nodes (place p)).boot_link = λ e. clash t e in
          takes-none p l end.processor apart ∙ sym (quiet apart (far_at network p l) refl)
        where
          clash : l == (node_at nodes (place p)).boot_link ≡ false → l ≡ (node_at nodes (place p)).boot_link → ⊥
          clash t e = grind (arith, nat_tests)

  -- the host gets nothing
  pub host-gets : sent-by network.root network.root_link ≡ []
  host-gets = silent-at network.root network.root_link h.pairing.root.processor
      (λ c within far. let never = sym h.pairing.hosted ∙ far in cc)

  -- and nothing goes where there is no wire
  pub unwired : (p l : ℕ) → IsEnd network p l → far_at network p l ≡ Nothing → sent-by p l ≡ []
  unwired p l end far = silent-at p l end.processor (λ c within other. let never = sym far ∙ other in cc)
