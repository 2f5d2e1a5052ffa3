-- The picks of all processors of a load tree, with the bytes that the host sends, are its number of steps.
use Rattle.std.proofs.Common.{◌≡◌, ℕ, zero, suc, ◌+◌, ◌<◌, ◌≤◌, List, [], ◌∷◌, ◌++◌, length, map, take}
use Rattle.std.proofs.Common.{Some, None, refl, sym, ap, ◌∙◌, arith, length-append}
use Rattle.std.specs.Prelude.{sum_by}
use Rattle.std.specs.List.{enumerate_from}
use Rattle.std.proofs.lemmas.List.{take_all}
use Rattle.std.proofs.lemmas.List.Sums.{sum_by-cons}
use Rattle.tn_net.specs.Trees.{LoadNode, node_at, children_below}
use Rattle.tn_net.specs.WholeTrees.{IsWholeTree}
use Rattle.tn_stream.specs.Images.{ImageBytes}
use Rattle.tn_stream.specs.Branches.{Children, Branch}
use Rattle.tn_stream.specs.Streams.{Site, own_load, nothing, nop_of, run_of, wave, load_part, sync_part, start_part, stream}
use Rattle.tn_stream.specs.LoadBranches.{hung, site_of, branch_at, whole_branch}
use Rattle.tn_stream.specs.Lengths.{lengths_of, bytes_received, steps_to, node_steps, load_steps}
use Rattle.tn_stream.proofs.LoadBranchLaws.{linked, branch-is}
use Rattle.tn_stream.proofs.CountLaws.{numbered-more}
use Rattle.tn_load.specs.LoneRuns.{weight}
use Rattle.tn_load.specs.Plans.{sum_below}
use Rattle.tn_load.specs.Inner.Lives.{acts_at}
use Rattle.tn_load.proofs.Sums.{forwards_steps, sent_below, sent, weight-life}
use Rattle.tn_load.proofs.Counting.{total, total-add, total-same, counts-once}

sum_by-map : {A B : Type 0} (g : B → ℕ) (f : A → B) (xs : List A) → sum_by g (map f xs) ≡ sum_by (λ x. g (f x)) xs
sum_by-map g f [] = refl
sum_by-map g f (x ∷ xs) =
    let e = sum_by-map g f xs in
    let a = sum_by-cons g (f x) (map f xs) in
    let b = sum_by-cons (λ x. g (f x)) x xs in
    omega arith

-- what is sent to children that hang at links, and the steps of that
sent-hung : (xs : List (ℕ × Branch Site)) → sent (hung xs) ≡ sum_by (λ x. bytes_received x.1) xs
unfolding hung sent_below wave
sent-hung [] = refl
sent-hung (x ∷ xs) =
    let rest = sent-hung xs in
    let e = sum_by-cons (λ (x : ℕ × Branch Site). bytes_received x.1) x xs in
    omega arith

abbrev all_forwards : Children Site → ℕ
all_forwards below = forwards_steps own_load nothing below + forwards_steps nothing nop_of below + forwards_steps nothing run_of below

forwards-hung : (xs : List (ℕ × Branch Site)) → all_forwards (hung xs) ≡ sum_by (λ x. steps_to (lengths_of x.1)) xs
unfolding hung forwards_steps wave
forwards-hung [] = refl
forwards-hung (x ∷ xs) =
    let rest = forwards-hung xs in
    let e = sum_by-cons (λ (x : ℕ × Branch Site). steps_to (lengths_of x.1)) x xs in
    omega arith

module _ (images : List ImageBytes) (nodes : List LoadNode) (count : ℕ) (whole : IsWholeTree nodes count) where
  abbrev receives : ℕ → ℕ
  receives k = bytes_received (branch_at images nodes k)

  abbrev weighs : ℕ → ℕ
  weighs k = weight (acts_at images nodes k)

  abbrev makes : ℕ → ℕ
  makes k = node_steps images nodes k (node_at nodes k)

  children_sent : (k : ℕ) → k < length nodes → sent (branch_at images nodes k).below ≡ sum_by receives (node_at nodes k).children
  children_sent k inside =
      ap (λ b. sent b.below) (branch-is images nodes count whole k inside)
      ∙ (sent-hung (map (linked images nodes count whole) (node_at nodes k).children)
      ∙ sum_by-map (λ (x : ℕ × Branch Site). bytes_received x.1) (linked images nodes count whole) (node_at nodes k).children)

  children_steps : (k : ℕ) → k < length nodes
      → all_forwards (branch_at images nodes k).below ≡ sum_by (λ c. steps_to (lengths_of (branch_at images nodes c)))
      (node_at nodes k).children
  children_steps k inside =
      ap (λ b. all_forwards b.below) (branch-is images nodes count whole k inside)
      ∙ (forwards-hung (map (linked images nodes count whole) (node_at nodes k).children)
      ∙ sum_by-map (λ (x : ℕ × Branch Site). steps_to (lengths_of x.1)) (linked images nodes count whole) (node_at nodes k).children)

  -- one processor: what it receives is counted once more, and what it sends once less
  weighs-node : (k : ℕ) → k < length nodes → weighs k + receives k ≡ makes k + sum_by receives (node_at nodes k).children
  weighs-node k inside =
      let life_is = weight-life (branch_at images nodes k).root (branch_at images nodes k).below in
      let root_is : length (branch_at images nodes k).root.image.segments ≡ length (site_of images (node_at nodes k)).image.segments =
      ap (λ b. length b.root.image.segments) (branch-is images nodes count whole k inside) in
      let to_children = children_sent k inside in
      let their_steps = children_steps k inside in
      omega arith

  -- all: each place but the first is a child of one other
  weighs-all : total weighs (length nodes) + receives 0 ≡ total makes (length nodes)
  weighs-all = go (length nodes) refl
    where
      parents : (n : ℕ) → length nodes ≡ suc n → (c : ℕ) → 0 < c → c < suc n → (p : ℕ) × ((node_at nodes c).parent ≡ Some p) × (p < suc n)
      parents n size c some inside =
          let below = whole.below c some (omega (arith, size)) in
          (below.parent, below.is, let less = below.before in omega arith)

      go : (n : ℕ) → length nodes ≡ n → total weighs n + receives 0 ≡ total makes n
      go zero size = absurd (let some = whole.some in omega arith)
      go (suc n) size =
          let each = total-same (λ k. weighs k + receives k)
          (λ k. makes k + sum_by receives (children_below (λ c. (node_at nodes c).parent) k (suc n))) (suc n)
          (λ k inside. weighs-node k (omega (arith, size))
          ∙ ap (λ cs. makes k + sum_by receives cs)
          (whole.children k (omega (arith, size)) ∙ ap (children_below (λ c. (node_at nodes c).parent) k) size)) in
          let left = total-add weighs receives (suc n) in
          let right = total-add makes (λ k. sum_by receives (children_below (λ c. (node_at nodes c).parent) k (suc n))) (suc n) in
          let once = counts-once receives (λ c. (node_at nodes c).parent) n whole.top (parents n size) in
          omega arith

  load_steps-total : load_steps images nodes ≡ total makes (length nodes)
  unfolding sum_below
  load_steps-total = ap (λ ns. sum_by (λ x. node_steps images nodes x.0 x.1) (enumerate_from 0 ns))
      (sym (take_all (length nodes) nodes (omega arith))) ∙ upto (length nodes) (omega arith)
    where
      upto : (j : ℕ) → j ≤ length nodes → sum_by (λ x. node_steps images nodes x.0 x.1) (enumerate_from 0 (take j nodes)) ≡ total makes j
      upto zero within = refl
      upto (suc j) within =
          let more = numbered-more (λ x. node_steps images nodes x.0 x.1) nodes j
          (record { processor = 0; parent = None; parent_link = 0; boot_link = 0; children = [] }) (omega arith) in
          let rest = upto j (omega arith) in
          let next : j + 1 ≡ suc j = omega arith in
          let at : sum_by (λ x. node_steps images nodes x.0 x.1) (enumerate_from 0 (take (suc j) nodes))
          ≡ sum_by (λ x. node_steps images nodes x.0 x.1) (enumerate_from 0 (take (j + 1) nodes)) =
          ap (λ i. sum_by (λ x. node_steps images nodes x.0 x.1) (enumerate_from 0 (take i nodes))) (sym next) in
          omega arith

  -- the picks of all, with the bytes that the host sends
  pub all-picks : total weighs (length nodes) + length (stream (whole_branch images nodes)) ≡ load_steps images nodes
  unfolding stream
  all-picks =
      let b : Branch Site = whole_branch images nodes in
      let last : length (stream b) ≡ length (load_part b ++ sync_part b) + length (start_part b) =
      length-append (load_part b ++ sync_part b) (start_part b) in
      let first : length (load_part b ++ sync_part b) ≡ length (load_part b) + length (sync_part b) =
      length-append (load_part b) (sync_part b) in
      let all : total weighs (length nodes) + receives 0 ≡ total makes (length nodes) = weighs-all in
      let steps : load_steps images nodes ≡ total makes (length nodes) = load_steps-total in
      omega (arith, all, steps, first, last)
