-- How long the parts of a stream are, and that they are short enough for the words that tell it.
use Rattle.std.proofs.Common.{◌≡◌, ℕ, suc, ◌+◌, ◌*◌, ◌<◌, ◌≤◌, List, [], ◌∷◌, ◌++◌, length, All}
use Rattle.std.proofs.Common.{refl, ap, ◌∙◌, arith, length-append}
use Rattle.std.specs.Prelude.{sum_by, slice_index_or}
use Rattle.std.specs.List.{flat_map, AllByRecursion}
use Rattle.std.proofs.Math.Nat.{mul-le-mul_right}
use Rattle.std.proofs.lemmas.List.{length-map, get_or-map}
use Rattle.std.proofs.lemmas.List.Concat.{length-flat_map}
use Rattle.std.proofs.lemmas.List.Elements.{All-get_or, All-weaker, recursion_from_All}
use Rattle.std.proofs.lemmas.List.Sums.{sum_by-cons}
use Rattle.tn_word.specs.Channels.{out_channel_of}
use Rattle.tn_loader.specs.Commands.{load_command, forward_command}
use Rattle.tn_loader.proofs.CommandWords.{length-command_bytes}
use Rattle.tn_net.specs.Trees.{LoadNode, node_at, children_below}
use Rattle.tn_net.specs.WholeTrees.{IsWholeTree}
use Rattle.tn_stream.specs.declared.waves.Wave.{Wave}
use Rattle.tn_stream.specs.declared.waves.Wave.TheVariants as wave
use Rattle.tn_stream.specs.declared.length_tables.NodeLengths.{NodeLengths}
use Rattle.tn_stream.specs.Images.{SegmentBytes, ImageBytes, IsSegment, IsImage, AreImages}
use Rattle.tn_stream.specs.Streams.{Site, loader, load_of, loads_of}
use Rattle.tn_stream.specs.LoadBranches.{no_image, no_branch, site_of, branches_from, branches, branch_at}
use Rattle.tn_stream.specs.Lengths.{lengths_of, all_lengths}
use Rattle.tn_stream.specs.Waves.{first_of, last_of, part_of, length_in}
use Rattle.tn_stream.specs.Inner.Tables.{own_length}
use Rattle.tn_stream.proofs.SingleStreams.{length-loader}
use Rattle.tn_stream.proofs.Weights.{weight-bound}
use Rattle.tn_stream.proofs.LoadBranchLaws.{parent-before, child_part, part-is}

-- ---- a processor's own bytes

pub length-own : (w : Wave) (site : Site) → length (first_of w site) + length (last_of w site) ≡ own_length w site.image
length-own wave.Load site =
    omega (arith, length-append (loader site.boot) (loads_of site.image.segments), length-loader site.boot)
length-own wave.Sync site = omega (arith, length-command_bytes 3 0 0)
length-own wave.Start site = omega (arith, length-command_bytes 2 site.image.entry site.image.wptr)

pub length-load : (s : SegmentBytes) → length (load_of s) ≡ 12 + length s.bytes
length-load s =
    omega (arith, length-append (load_command s.base (length s.bytes)) s.bytes, length-command_bytes 0 s.base (length s.bytes))

loads_bound : (ss : List SegmentBytes) → AllByRecursion IsSegment ss → length (loads_of ss) ≤ length ss * 1048588
loads_bound [] h = omega arith
loads_bound (s ∷ ss) (h, more) =
    let rest = loads_bound ss more in
    let small : length s.bytes ≤ 1048576 = h.bounded in
    let product : suc (length ss) * 1048588 ≡ length ss * 1048588 + 1048588 = omega arith in
    omega (arith, rest, small, length-append (load_of s) (loads_of ss), length-load s, product)

pub own-bound : (w : Wave) (image : ImageBytes) → IsImage image → own_length w image ≤ 3145881
own-bound wave.Load image h =
    let few : length image.segments ≤ 3 = h.few in
    let loads = loads_bound image.segments (recursion_from_All IsSegment image.segments h.segments) in
    omega (arith, few, loads)
own-bound wave.Sync image h = omega arith
own-bound wave.Start image h = omega arith

pub own-some : (w : Wave) (image : ImageBytes) → 12 ≤ own_length w image
own-some wave.Load image = omega arith
own-some wave.Sync image = omega arith
own-some wave.Start image = omega arith

three_lengths : (a b c : List ℕ) (x y : ℕ) → length a + length c ≡ x → length b ≡ y → length (a ++ b ++ c) ≡ x + y
three_lengths a b c x y p q = omega (arith, length-append (a ++ b) c, length-append a b)

-- ---- sums

sum-same-each : {X : Type 0} (f g : X → ℕ) (xs : List X) → AllByRecursion (λ x. f x ≡ g x) xs → sum_by f xs ≡ sum_by g xs
sum-same-each f g [] h = refl
sum-same-each f g (x ∷ xs) (same, more) = omega (arith, sum_by-cons f x xs, sum_by-cons g x xs, same, sum-same-each f g xs more)

pub sum-same-All : {X : Type 0} (P : X → Type 0) (f g : X → ℕ) → ((x : X) → P x → f x ≡ g x) → (xs : List X) → All P xs
    → sum_by f xs ≡ sum_by g xs
sum-same-All P f g same xs all =
    sum-same-each f g xs (recursion_from_All (λ x. f x ≡ g x) xs (All-weaker P (λ x. f x ≡ g x) same xs all))

sum-same : {X : Type 0} (f g : X → ℕ) → ((x : X) → f x ≡ g x) → (xs : List X) → sum_by f xs ≡ sum_by g xs
sum-same f g same [] = refl
sum-same f g same (x ∷ xs) = omega (arith, sum_by-cons f x xs, sum_by-cons g x xs, same x, sum-same f g same xs)

module _ (images : List ImageBytes) (good : AreImages images) (nodes : List LoadNode) (whole : IsWholeTree nodes (length images))
    (w : Wave) where
  -- what a child's part and its FORWARD have
  abbrev pub child_length : ℕ → ℕ
  child_length c = 12 + length (part_of w (branch_at images nodes c))

  child_length_is : (c : ℕ) → length (child_part images nodes (length images) whole w c) ≡ child_length c
  child_length_is c =
      let bytes : List ℕ = part_of w (branch_at images nodes c) in
      let link : ℕ = (node_at nodes c).parent_link in
      omega (
        arith,
        length-append (forward_command (out_channel_of link) (length (part_of w (branch_at images nodes c))))
            (part_of w (branch_at images nodes c)),
        length-command_bytes 1 (out_channel_of link) (length (part_of w (branch_at images nodes c))),
      )

  pub length-part : (k : ℕ) → k < length nodes → length (part_of w (branch_at images nodes k))
      ≡ own_length w (site_of images (node_at nodes k)).image + sum_by child_length (node_at nodes k).children
  length-part k inside =
      ap length (part-is images nodes (length images) whole w k inside)
      ∙ three_lengths (first_of w (site_of images (node_at nodes k)))
      (flat_map (child_part images nodes (length images) whole w) (node_at nodes k).children)
      (last_of w (site_of images (node_at nodes k))) (own_length w (site_of images (node_at nodes k)).image)
      (sum_by child_length (node_at nodes k).children) (length-own w (site_of images (node_at nodes k)))
      (length-flat_map (child_part images nodes (length images) whole w) (node_at nodes k).children
      ∙ sum-same (λ c. length (child_part images nodes (length images) whole w c)) child_length child_length_is (node_at nodes k).children)

  pub image-at : (k : ℕ) → k < length nodes → IsImage (site_of images (node_at nodes k)).image
  image-at k inside = All-get_or IsImage images (node_at nodes k).processor no_image (whole.placed k inside).processor good

  weight_bounded : (k : ℕ) → k < length nodes
      → child_length k ≤ sum_by child_length (children_below (λ c. (node_at nodes c).parent) k (length nodes)) + 3145893
  weight_bounded k inside =
      let same = ap (sum_by child_length) (whole.children k inside) in
      let sum = length-part k inside in
      let own = own-bound w (site_of images (node_at nodes k)).image (image-at k inside) in
      omega (arith, same, sum, own)

  -- each part is short enough for a word
  pub part-bound : (k : ℕ) → k < length nodes → child_length k ≤ 201337152
  part-bound k inside =
      let weight = weight-bound (length nodes) (λ c. (node_at nodes c).parent)
      (λ c p h is. parent-before nodes (length images) whole c p h is)
      child_length 3145893 weight_bounded k inside in
      let few : length nodes * 3145893 ≤ 64 * 3145893 = mul-le-mul_right 3145893 whole.few in
      omega (arith, weight, few)

  pub part-some : (k : ℕ) → k < length nodes → 12 ≤ length (part_of w (branch_at images nodes k))
  part-some k inside =
      let sum = length-part k inside in
      let own = own-some w (site_of images (node_at nodes k)).image in
      omega (arith, sum, own)

-- ---- the table

length-branches : (images : List ImageBytes) (k : ℕ) (nodes : List LoadNode) → length (branches_from images k nodes) ≡ length nodes
unfolding branches_from
length-branches images k [] = refl
length-branches images k (n ∷ ns) = ap suc (length-branches images (k + 1) ns)

pub length-all_lengths : (images : List ImageBytes) (nodes : List LoadNode) → length (all_lengths images nodes) ≡ length nodes
length-all_lengths images nodes = length-map (branches images nodes) (λ x. lengths_of x.1) ∙ length-branches images 0 nodes

pub lengths-at : (images : List ImageBytes) (nodes : List LoadNode) (k : ℕ) (d : NodeLengths) → k < length nodes
    → slice_index_or (all_lengths images nodes) k d ≡ lengths_of (branch_at images nodes k)
lengths-at images nodes k d inside =
    get_or-map (λ x. lengths_of x.1) (branches images nodes) k no_branch d (omega (arith, length-branches images 0 nodes))

pub length_in-of : (w : Wave) (images : List ImageBytes) (nodes : List LoadNode) (k : ℕ)
    → length_in w (lengths_of (branch_at images nodes k)) ≡ length (part_of w (branch_at images nodes k))
length_in-of wave.Load images nodes k = refl
length_in-of wave.Sync images nodes k = refl
length_in-of wave.Start images nodes k = refl
