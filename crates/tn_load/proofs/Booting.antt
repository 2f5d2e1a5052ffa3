-- The loading theorem, put together.
use Rattle.std.proofs.Common.{◌≡◌, ◌⊎◌, ℕ, zero, suc, ◌+◌, ◌-◌, ◌*◌, ◌<◌, ◌≤◌, true, false, List, [], ◌∷◌, length}
use Rattle.std.proofs.Common.{All, replicate}
use Rattle.std.proofs.Common.{Option, Some, None, refl, sym, ap, ◌∙◌, subst, arith, append-nil, ◌++◌}
use Rattle.std.specs.Prelude.{slice_get, slice_index, option_map, ◌↔◌}
use Rattle.std.specs.List.{AllByRecursion}
use Rattle.std.proofs.lemmas.List.{length-map, get_or-map}
use Rattle.std.proofs.lemmas.List.Elements.{All-from_recursion, recursion_from_All}
use Rattle.std.proofs.lemmas.Option.{slice_get-map, slice_get-get_or, slice_get_within}
use Rattle.tn_word.specs.Words.{most_neg, load_base}
use Rattle.tn_net.specs.Networks.{NetworkState, IsPairing, far_at}
use Rattle.tn_net.specs.declared.networks.Far.{Far}
use Rattle.tn_net.specs.declared.networks.Far.TheVariants.{Nothing, Host, Link}
use Rattle.tn_net.specs.Trees.{LoadNode, IsLoadTree}
use Rattle.tn_net.specs.WholeTrees.{IsWholeTree}
use Rattle.tn_stream.specs.Images.{SegmentBytes, ImageBytes}
use Rattle.tn_stream.specs.PlainImages.{end}
use Rattle.tn_stream.specs.Lengths.{load_steps}
use Rattle.tn_stream.specs.Streams.{stream}
use Rattle.tn_stream.specs.LoadBranches.{no_image, whole_branch}
use Rattle.tn_node.specs.Nodes.{NodeState}
use Rattle.tn_network.specs.declared.picks.Pick.{Pick}
use Rattle.tn_network.specs.Boards.{BoardState, at_node, given}
use Rattle.tn_network.specs.Holds.{entry_of}
use Rattle.tn_network.specs.NodeOps.{stands_at}
use Rattle.tn_network.specs.Loads.{Target, StandsIn, IsLoadedNode, IsLoaded}
use Rattle.tn_network.specs.Nets.{memory_ops}
use Rattle.tn_network.specs.Resets.{PowerState, AreSized, reset_board}
use Rattle.tn_load.specs.Plans.{Course, Plan, now, picks_left, plan_behind}
use Rattle.tn_load.specs.Keep.{Anything, UnderWay, IsRooted, IsWhole, ends_from, ended_board}
use Rattle.tn_load.specs.Targets.{placed_all, target_of, targets_of}
use Rattle.tn_load.specs.Boots.{image_at, power_at, AreFor, held_at, begun, Runs, Rests, state_behind, IsOutside}
use Rattle.tn_load.specs.Boots.{memory_at, IsSafe}
use Rattle.tn_load.specs.Boots.{Loads, Loading}
use Rattle.tn_load.specs.Inner.Lives.{LieIn}
use Rattle.tn_load.specs.Inner.Loadings.{from_host, unsent, IsLoading}
use Rattle.tn_load.proofs.Keeping.{along}
use Rattle.tn_load.proofs.Ending as ending
use Rattle.tn_load.proofs.Segments.{whole-rest}
use Rattle.tn_load.proofs.Segments as segments
use Rattle.tn_load.proofs.PlainFits.{plain-fits, plain-apart}
use Rattle.tn_load.proofs.EndsLoaded.{whole-pieces, loaded-node, loaded-each}
use Rattle.tn_load.proofs.TreeRuns.{size-is}
use Rattle.tn_load.proofs.TreePlans.{IsAtEntry, tree_plan, planned}
use Rattle.tn_load.proofs.FitTogether.{goes-under, rooted, picks-first}
use Rattle.tn_load.proofs.WholeBefore.{whole-all}

-- ---- the ends of courses

ends-length : {N : Type 0} (p count : ℕ) (courses : ℕ → Course N) → length (ends_from p count courses) ≡ count
unfolding ends_from
ends-length p zero courses = refl
ends-length p (suc count) courses = ap suc (ends-length (p + 1) count courses)

ends-at : {N : Type 0} (p count k : ℕ) (courses : ℕ → Course N) → k < count
    → slice_get (ends_from p count courses) k ≡ Some (courses (p + k)).end
unfolding ends_from
ends-at p zero k courses inside = absurd (omega arith)
ends-at p (suc count) zero courses inside = let same : p ≡ p + 0 = omega arith in ap (λ q. Some (courses q).end) same
ends-at p (suc count) (suc k) courses inside =
    let same : p + 1 + k ≡ p + suc k = omega arith in
    ends-at (p + 1) count k courses (omega (arith, inside)) ∙ ap (λ q. Some (courses q).end) same

empty-latches : (n : ℕ) → AllByRecursion (λ (byte : Option ℕ). byte ≡ None) (replicate n None)
empty-latches zero = tt
empty-latches (suc n) = (refl, empty-latches n)

some_same : {A : Type 0} (a b : A) → Some a ≡ Some b → a ≡ b
some_same a b e = cc

-- an address in no segment
outside-all : (a : ℕ) (ss : List SegmentBytes) → AllByRecursion (λ s. (a < s.base) ⊎ (end s ≤ a)) ss → segments.IsOutside a ss
outside-all a [] all = tt
outside-all a (s ∷ ss) all = (all.0, outside-all a ss all.1)

module _ (network : NetworkState) (nodes : List LoadNode) (images : List ImageBytes) (powers : List PowerState)
    (pairing : IsPairing network)
    (tree : IsLoadTree network nodes) (whole : IsWholeTree nodes (length network.sizes)) (are : AreFor network images)
    (sized : AreSized powers network) where
  entry-at : (p : ℕ) → p < length network.sizes → entry_of (held_at images) p ≡ (image_at images p).entry
  entry-at p inside = get_or-map (λ i. i.entry) images p no_image 0 (omega (arith, are.count, inside))

  loading : IsLoading network nodes images powers (held_at images)
  loading =
      record {
        pairing = pairing;
        tree = tree;
        whole = whole;
        count = are.count;
        segments = are.segments;
        fits = λ p inside. plain-fits (slice_index network.sizes p) (image_at images p) (are.plain p inside);
        above = λ p inside. (are.plain p inside).entry;
        sized = sized;
        entries = entry-at;
        held = refl;
      }

  abbrev bytes : List ℕ
  bytes = stream (whole_branch images nodes)

  abbrev plan : Plan (NodeState (List ℕ))
  plan = tree_plan network nodes images powers (held_at images) loading

  abbrev count : ℕ
  count = length network.sizes

  abbrev loaded : BoardState (NodeState (List ℕ))
  loaded = ended_board count [] plan

  at-entry : (p : ℕ) → p < count → IsAtEntry network nodes images powers (held_at images) loading p (plan.courses p).end
  at-entry p inside = (planned network nodes images powers (held_at images) loading p inside).end

  lies : (p : ℕ) → p < count → LieIn (length (power_at powers p).bytes) (image_at images p).segments
  lies p inside =
      subst (λ n. LieIn n (image_at images p).segments) (sym (size-is network nodes images powers (held_at images) loading p inside))
      (plain-fits (slice_index network.sizes p) (image_at images p) (are.plain p inside)).segments

  apart : (p : ℕ) → p < count → segments.AreApart (image_at images p).segments
  apart p inside = plain-apart (slice_index network.sizes p) (image_at images p) (are.plain p inside)

  node-is : (p : ℕ) (n : NodeState (List ℕ)) → slice_get loaded.nodes p ≡ Some n → (p < count) × (n ≡ (plan.courses p).end)
  node-is p n is =
      let within = slice_get_within loaded.nodes p n is in
      let inside : p < count = omega (arith, within, ends-length 0 count plan.courses) in
      let zero_p : 0 + p ≡ p = omega arith in (
        inside,
        some_same n (plan.courses p).end
            (sym is ∙ (ends-at 0 count p plan.courses inside ∙ ap (λ q. Some (plan.courses q).end) zero_p)),
      )

  target-is : (p : ℕ) (t : Target) → p < count → slice_get (targets_of images) p ≡ Some t → target_of (image_at images p) ≡ t
  target-is p t inside is =
      some_same (target_of (image_at images p)) t
      (sym (slice_get-map target_of images p ∙ ap (option_map target_of)
      (slice_get-get_or images p no_image (omega (arith, are.count, inside)))) ∙ is)

  each-loaded : (p : ℕ) (n : NodeState (List ℕ)) (t : Target) → slice_get loaded.nodes p ≡ Some n → slice_get (targets_of images) p ≡ Some t
      → IsLoadedNode (λ m. m) n t
  each-loaded p n t is target =
      let at = node-is p n is in
      let e = at-entry p at.0 in
      let done = loaded-node (image_at images p) (power_at powers p).bytes e.memory (lies p at.0) (apart p at.0) e.timers e.whole in
      subst (λ x. IsLoadedNode (λ m. m) n x) (target-is p t at.0 target)
      (subst (λ x. IsLoadedNode (λ m. m) x (target_of (image_at images p))) (sym (at.1 ∙ e.is)) done)

  untouched : (p : ℕ) → p < count → (a : ℕ) → load_base ≤ a → IsOutside a (image_at images p).segments
      → slice_index (memory_at loaded p) (a - most_neg) ≡ slice_index (power_at powers p).bytes (a - most_neg)
  untouched p inside a low out =
      let e = at-entry p inside in
      let zero_p : 0 + p ≡ p = omega arith in
      let node : slice_get loaded.nodes p ≡ Some (plan.courses p).end =
      ends-at 0 count p plan.courses inside ∙ ap (λ q. Some (plan.courses q).end) zero_p in
      let memory : memory_at loaded p ≡ e.memory =
      ap (given [] (λ (n : NodeState (List ℕ)). n.cpu.memory)) node ∙ ap (λ x. x.cpu.memory) e.is in
      ap (λ m. slice_index m (a - most_neg)) memory
      ∙ whole-rest (image_at images p) (power_at powers p).bytes e.memory a (lies p inside) e.whole low
      (outside-all a (image_at images p).segments (recursion_from_All (λ s. (a < s.base) ⊎ (end s ≤ a)) (image_at images p).segments out))

  is-loaded : IsLoaded (λ m. m) loaded (targets_of images)
  is-loaded =
      record {
        left = refl;
        sent = refl;
        host_latch = refl;
        latches = All-from_recursion (λ (byte : Option ℕ). byte ≡ None) (replicate (4 * count) None) (empty-latches (4 * count));
        nodes = loaded-each (λ m. m) loaded.nodes (targets_of images)
            (ends-length 0 count plan.courses ∙ sym (length-map images target_of ∙ are.count)) each-loaded;
      }

  standing : (o : Option (NodeState (List ℕ))) (e : ℕ) → given false (memory_ops.stands e) o ≡ true
      → (n : NodeState (List ℕ)) × ((o ≡ Some n) × (memory_ops.stands e n ≡ true))
  standing None e is = absurd cc
  standing (Some n) e is = (n, (refl, is))

  -- ---- any beginning of the stream

  module _ (held rest : List ℕ) (cut : bytes ≡ held ++ rest) where
    abbrev first_plan : Plan (NodeState (List ℕ))
    first_plan = record plan { sends = held }

    start : UnderWay memory_ops network (held_at images) (unsent network rest) [] first_plan (reset_board powers held)
    start = goes-under network nodes images powers (held_at images) loading held rest cut

    module _ (picks : List Pick) (on : Runs (begun network images powers held) picks) where
      abbrev board : BoardState (NodeState (List ℕ))
      board = state_behind (begun network images powers held) picks

      gone : UnderWay memory_ops network (held_at images) (unsent network rest) [] (plan_behind network picks first_plan) board
          × (picks_left count first_plan ≡ length picks + picks_left count (plan_behind network picks first_plan))
      gone = along memory_ops network (held_at images) Anything (unsent network rest) [] first_plan (reset_board powers held) picks start on

      few : length picks ≤ load_steps images nodes
      few =
          let all = picks-first network nodes images powers (held_at images) loading held rest cut in
          let used = gone.1 in
          omega (arith, all, used)

      whole-first : (p q : ℕ) → p < length images → q < length images
          → at_node false (λ node. stands_at (entry_of (held_at images) p) node) board.nodes p ≡ true
          → All (StandsIn (memory_at board q)) (placed_all (image_at images q).segments)
      whole-first p q p_image q_image stands =
          let u = gone.0 in
          let one = standing (slice_get board.nodes p) (entry_of (held_at images) p) stands in
          let p_inside : p < count = omega (arith, p_image, are.count) in
          let q_inside : q < count = omega (arith, q_image, are.count) in
          let p_now : one.0 ≡ now ((plan_behind network picks first_plan).courses p) =
          some_same one.0 (now ((plan_behind network picks first_plan).courses p)) (sym one.1.0 ∙ u.nodes p p_inside) in
          let held_fact = whole-all network nodes images powers (held_at images) loading held rest picks board u p p_inside
          (ap (memory_ops.stands (entry_of (held_at images) p)) (sym p_now) ∙ one.1.1) q q_inside in
          let memory : memory_at board q ≡ held_fact.memory =
          ap (given [] (λ (n : NodeState (List ℕ)). n.cpu.memory)) (u.nodes q q_inside) ∙ held_fact.is in
          subst (λ m. All (StandsIn m) (placed_all (image_at images q).segments)) (sym memory)
          (whole-pieces (image_at images q) (power_at powers q).bytes held_fact.memory (lies q q_inside) (apart q q_inside) held_fact.fact)

    safe : IsSafe (begun network images powers held) images (load_steps images nodes)
    safe = record { bound = few; whole = whole-first }

  -- ---- the whole stream

  uncut : bytes ≡ bytes ++ []
  uncut = sym (append-nil bytes)

  all-come : IsWhole network (unsent network [])
  all-come e is = go e
    where
      far : (f : Far) → from_host [] f ≡ []
      far Nothing = refl
      far Host = refl
      far (Link q m) = refl

      go : (e : Far) → unsent network [] e ≡ []
      go Nothing = refl
      go Host = refl
      go (Link p l) = far (far_at network p l)

  begins : UnderWay memory_ops network (held_at images) (unsent network []) [] (record plan { sends = bytes }) (reset_board powers bytes)
  begins = start bytes [] uncut

  root : IsRooted network (record plan { sends = bytes })
  root = rooted network nodes images powers (held_at images) loading bytes [] uncut

  all : picks_left count (record plan { sends = bytes }) ≡ load_steps images nodes
  all = let counts = picks-first network nodes images powers (held_at images) loading bytes [] uncut in omega (arith, counts)

  ends-loaded : (picks : List Pick) → Runs (begun network images powers bytes) picks → length picks ≡ load_steps images nodes
      → state_behind (begun network images powers bytes) picks ≡ loaded
  ends-loaded picks on full =
      ending.one_end memory_ops network (held_at images) Anything (unsent network []) [] (record plan { sends = bytes })
      (reset_board powers bytes)
      picks begins root all-come on (full ∙ sym all)

  loads : Loads network images powers bytes (load_steps images nodes)
  loads =
      record {
        live = record {
          rest = λ picks on. subst (λ x. Rests (begun network images powers bytes) picks ↔ (length picks ≡ x)) all
              (ending.rests memory_ops network (held_at images) Anything (unsent network []) [] (record plan { sends = bytes })
              (reset_board powers bytes) picks begins root all-come on);
          loaded = λ picks on full. subst (λ s. IsLoaded (λ m. m) s (targets_of images)) (sym (ends-loaded picks on full)) is-loaded;
          one = λ picks others on other full others_full. ends-loaded picks on full ∙ sym (ends-loaded others other others_full);
        };
        tidy = λ picks on full p a inside low out.
            ap (λ s. slice_index (memory_at s p) (a - most_neg)) (ends-loaded picks on full)
            ∙ untouched p (omega (arith, inside, are.count)) a low out;
        safe = safe;
      }

-- the loading theorem
pub boots : Loading
boots network nodes images pairing tree whole are powers sized = loads network nodes images powers pairing tree whole are sized
