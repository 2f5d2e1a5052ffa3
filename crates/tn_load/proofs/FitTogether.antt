-- The plan of a load tree fits together: after power-up the network is under way in it, and it has as many
-- picks as the tree has steps.
use Rattle.std.proofs.Common.{◌≡◌, ℕ, zero, suc, ◌+◌, ◌*◌, ◌<◌, false, List, [], ◌++◌, length, get_or, replicate}
use Rattle.std.proofs.Common.{Option, Some, None, refl, sym, ap, ◌∙◌, arith, append-nil, length-append}
use Rattle.std.specs.Prelude.{is_some, slice_get, option_map}
use Rattle.std.proofs.lemmas.List.{length-map, length-replicate}
use Rattle.std.proofs.lemmas.Option.{slice_get-map, slice_get-get_or}
use Rattle.tn_net.specs.declared.networks.Far.{Far}
use Rattle.tn_net.specs.declared.networks.Far.TheVariants.{Nothing, Host, Link}
use Rattle.tn_net.specs.Networks.{NetworkState, IsEnd, far_at}
use Rattle.tn_net.specs.Trees.{LoadNode, node_at}
use Rattle.tn_stream.specs.Images.{ImageBytes}
use Rattle.tn_stream.specs.Streams.{stream}
use Rattle.tn_stream.specs.Lengths.{load_steps}
use Rattle.tn_stream.specs.LoadBranches.{whole_branch}
use Rattle.tn_node.specs.Nodes.{NodeState}
use Rattle.tn_network.specs.Boards.{BoardState}
use Rattle.tn_network.specs.Holds.{HoldState}
use Rattle.tn_network.specs.Nets.{memory_ops}
use Rattle.tn_network.specs.Resets.{PowerState, powered_node, reset_board}
use Rattle.tn_load.specs.LoneRuns.{weight, is_waiting}
use Rattle.tn_load.specs.Plans.{Plan, acts_left, now, picks_left}
use Rattle.tn_load.specs.Shares.{IsWireEnd, other_end, incoming, outgoing, waiting, latch_of, bytes_in}
use Rattle.tn_load.specs.UnderWay.{IsUnderWay}
use Rattle.tn_load.specs.Keep.{UnderWay, IsRooted}
use Rattle.tn_load.specs.Inner.Lives.{acts_at}
use Rattle.tn_load.specs.Boots.{no_power}
use Rattle.tn_load.specs.Inner.Loadings.{from_host, unsent, place_of, IsLoading}
use Rattle.tn_load.proofs.Answered.{settled-life, settled-waits}
use Rattle.tn_load.proofs.Counting.{total, total-same, sums-once}
use Rattle.tn_load.proofs.TreeCounts.{all-picks}
use Rattle.tn_load.proofs.TreePlaces.{place-is, root-processor, under}
use Rattle.tn_load.proofs.Onward.{follow-weaker}
use Rattle.tn_stream.proofs.LoadBranchLaws.{parent-before}
use Rattle.tn_load.proofs.TreeRuns.{branch, spotted}
use Rattle.tn_load.proofs.TreePlans.{Facts, tree_plan, planned, from_far, carried, host-gets, unwired}

abbrev no_byte : Option ℕ
no_byte = None

-- a latch that was empty at first is so
latches_empty : (n i : ℕ) → get_or (replicate n no_byte) i no_byte ≡ no_byte
latches_empty zero i = refl
latches_empty (suc n) zero = refl
latches_empty (suc n) (suc i) = latches_empty n i

link_first : (p l q m : ℕ) → Link p l ≡ Link q m → p ≡ q
link_first p l q m e = cc

module _ (network : NetworkState) (nodes : List LoadNode) (images : List ImageBytes) (powers : List PowerState) (holds : HoldState)
    (h : IsLoading network nodes images powers holds) (held rest : List ℕ) (cut : stream (whole_branch images nodes) ≡ held ++ rest) where
  -- the host holds the beginning of the stream
  abbrev pub plan : Plan (NodeState (List ℕ))
  plan = record (tree_plan network nodes images powers holds h) { sends = held }

  abbrev board : BoardState (NodeState (List ℕ))
  board = reset_board powers held

  count-powers : length powers ≡ length network.sizes
  count-powers = sym (length-map powers (λ power. length power.bytes)) ∙ ap length h.sized

  node-first : (p : ℕ) → p < length network.sizes → slice_get board.nodes p ≡ Some (now (plan.courses p))
  node-first p inside =
      slice_get-map powered_node powers p
      ∙ (ap (option_map powered_node) (slice_get-get_or powers p no_power (omega (arith, count-powers, inside)))
      ∙ ap Some (sym (planned network nodes images powers holds h p inside).first))

  -- no course begins with an acknowledge
  none-waits : (p l : ℕ) → p < length network.sizes → is_waiting l (acts_left (plan.courses p)) ≡ false
  none-waits p l inside =
      ap (is_waiting l) (planned network nodes images powers holds h p inside).acts_are
      ∙ settled-waits (settled-life (branch network nodes images powers holds h p).root
      (branch network nodes images powers holds h p).below) l

  latch-first : (e : Far) → latch_of board e ≡ None
  latch-first Nothing = refl
  latch-first Host = refl
  latch-first (Link p l) = latches_empty (4 * length board.nodes) (4 * p + l)

  wires-first : (e : Far) → IsWireEnd network e
      → incoming plan e ≡ bytes_in (latch_of board e) ++ (outgoing plan (other_end network e) ++ unsent network rest e)
  unfolding tree_plan
  wires-first e end = go e end ∙ ap (λ x. bytes_in x ++ (outgoing plan (other_end network e) ++ unsent network rest e))
      (sym (latch-first e))
    where
      sent : (f : Far)
          → from_far network nodes images powers holds h (stream (whole_branch images nodes)) f ≡ outgoing plan f ++ from_host rest f
      sent Nothing = refl
      sent Host = cut
      sent (Link q m) = sym (append-nil _)

      go : (e : Far) → IsWireEnd network e → incoming plan e ≡ outgoing plan (other_end network e) ++ unsent network rest e
      go Nothing end = refl
      go Host end = sym (append-nil _ ∙ host-gets network nodes images powers holds h)
      go (Link p l) end = carried network nodes images powers holds h p l end ∙ sent (far_at network p l)

  full-first : (e : Far) → IsWireEnd network e → is_some (latch_of board e) ≡ waiting plan (other_end network e)
  unfolding tree_plan
  full-first e end = ap is_some (latch-first e) ∙ sym (go e end)
    where
      there : (f : Far) → IsWireEnd network f → waiting plan f ≡ false
      there Nothing inside = refl
      there Host inside = refl
      there (Link q m) inside = none-waits q m inside.processor

      far : (p l : ℕ) → IsEnd network p l → (f : Far) → far_at network p l ≡ f → waiting plan f ≡ false
      far p l end Nothing is = refl
      far p l end Host is = refl
      far p l end (Link q m) is = none-waits q m (h.pairing.ends p l q m end is).processor

      go : (e : Far) → IsWireEnd network e → waiting plan (other_end network e) ≡ false
      go Nothing end = refl
      go Host end = none-waits network.root network.root_link h.pairing.root.processor
      go (Link p l) end = far p l end (far_at network p l) refl

  -- after power-up the network is under way
  pub under-way : IsUnderWay memory_ops network holds (Facts network nodes images powers holds h) (unsent network rest) [] plan board
  unfolding tree_plan
  under-way =
      record {
        pairing = h.pairing;
        count = length-map powers powered_node ∙ count-powers;
        latches = length-replicate (4 * length board.nodes) None ∙ ap (λ n. 4 * n) (length-map powers powered_node ∙ count-powers);
        nodes = node-first;
        courses = λ p inside. (planned network nodes images powers holds h p inside).course;
        bytes = wires-first;
        full = full-first;
        wired = λ p l end far. unwired network nodes images powers holds h p l end far;
        quiet = λ p l end far. none-waits p l end.processor;
        sends = refl;
        waits = refl;
        keeps = refl;
        room = omega arith;
      }

  -- and the picks that are left are the steps of the load, but for the bytes that the host lacks
  pub picks-first : picks_left (length network.sizes) plan + length rest ≡ load_steps images nodes
  unfolding tree_plan
  picks-first =
      let own : total (λ p. weight (acts_left (plan.courses p))) (length network.sizes)
      ≡ total (λ p. weight (acts_at images nodes (place_of nodes p))) (length network.sizes) =
      total-same (λ p. weight (acts_left (plan.courses p))) (λ p. weight (acts_at images nodes (place_of nodes p))) (length network.sizes)
      (λ p inside. ap weight (planned network nodes images powers holds h p inside).acts_are) in
      let once : total (λ p. weight (acts_at images nodes (place_of nodes p))) (length network.sizes)
      ≡ total (λ k. weight (acts_at images nodes (place_of nodes (node_at nodes k).processor))) (length nodes) =
      sums-once (λ p. weight (acts_at images nodes (place_of nodes p))) (λ k. (node_at nodes k).processor) (length nodes)
      (length network.sizes) (λ k inside. (h.whole.placed k inside).processor) (λ j k less inside. h.whole.distinct j k less inside)
      (λ q inside. h.tree.all q inside) in
      let places : total (λ k. weight (acts_at images nodes (place_of nodes (node_at nodes k).processor))) (length nodes)
      ≡ total (λ k. weight (acts_at images nodes k)) (length nodes) =
      total-same (λ k. weight (acts_at images nodes (place_of nodes (node_at nodes k).processor))) (λ k. weight (acts_at images nodes k))
      (length nodes)
      (λ k inside. ap (λ j. weight (acts_at images nodes j)) (place-is network nodes h.pairing h.tree h.whole k inside)) in
      let all = all-picks images nodes (length network.sizes) h.whole in
      let sizes = ap length cut ∙ length-append held rest in
      omega (arith, own, once, places, all, sizes)

  -- nothing being asked of the nodes
  pub goes-under : UnderWay memory_ops network holds (unsent network rest) [] plan board
  goes-under =
      let u = under-way in
      record {
        pairing = u.pairing;
        count = u.count;
        latches = u.latches;
        nodes = u.nodes;
        courses = λ p inside. let c = u.courses p inside in record {
          boot = c.boot;
          follow = follow-weaker memory_ops (record { holds = holds; processor = p; boot = (plan.courses p).boot })
              (Facts network nodes images powers holds h p) (λ n left. Unit {0}) (λ n left q. tt) (plan.courses p).moments
              (plan.courses p).end c.follow;
          answered = c.answered;
        };
        bytes = u.bytes;
        full = u.full;
        wired = u.wired;
        quiet = u.quiet;
        sends = u.sends;
        waits = u.waits;
        keeps = u.keeps;
        room = u.room;
      }

  -- each processor takes its bytes from the host or from one whose place is before its own
  pub rooted : IsRooted network plan
  rooted =
      record {
        rank = λ p. place_of nodes p;
        most = length nodes;
        bounded = λ p inside. let at = spotted network nodes images powers holds h p inside in let low = at.within in omega (arith, low);
        falls = λ p q m inside far. falls p q m inside far (place_of nodes p) refl;
      }
    where
      falls : (p q m : ℕ) → p < length network.sizes → far_at network p (plan.courses p).boot ≡ Link q m → (k : ℕ) → place_of nodes p ≡ k
          → place_of nodes q < place_of nodes p
      falls p q m inside far zero is =
          let at = spotted network nodes images powers holds h p inside in
          let root : p ≡ network.root = sym at.processor
          ∙ (ap (λ k. (node_at nodes k).processor) is ∙ root-processor network nodes h.pairing h.tree h.whole) in
          let link : (plan.courses p).boot ≡ network.root_link =
          (planned network nodes images powers holds h p inside).boot ∙ (ap (λ k. (node_at nodes k).boot_link) is ∙ h.tree.boot) in
          let host : far_at network p (plan.courses p).boot ≡ Host =
          ap (λ x. far_at network x (plan.courses p).boot) root ∙ (ap (λ x. far_at network network.root x) link ∙ h.pairing.hosted) in
          let never = sym host ∙ far in
          absurd cc
      falls p q m inside far (suc k) is =
          let at = spotted network nodes images powers holds h p inside in
          let up = under network nodes h.pairing h.tree h.whole (place_of nodes p) (omega (arith, is)) at.within in
          let there : far_at network p (plan.courses p).boot ≡ Link (node_at nodes up.parent).processor
          (node_at nodes (place_of nodes p)).parent_link =
          ap (λ x. far_at network p x) (planned network nodes images powers holds h p inside).boot
          ∙ (ap (λ x. far_at network x (node_at nodes (place_of nodes p)).boot_link) (sym at.processor) ∙ up.far) in
          let same : (node_at nodes up.parent).processor ≡ q =
          link_first (node_at nodes up.parent).processor (node_at nodes (place_of nodes p)).parent_link q m (sym there ∙ far) in
          let spot_is : place_of nodes q ≡ up.parent =
          ap (place_of nodes) (sym same) ∙ place-is network nodes h.pairing h.tree h.whole up.parent up.within in
          let before = parent-before nodes (length network.sizes) h.whole (place_of nodes p) up.parent at.within up.is in
          omega (arith, spot_is, before)
