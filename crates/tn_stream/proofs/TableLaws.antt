-- The table of lengths, filled from its last node on.
use Rattle.std.proofs.Common.{◌≡◌, ℕ, ◌+◌, ◌^◌, ◌<◌, ◌≤◌, Bool, true, false, List, ◌++◌, length, get_or, set, take, All}
use Rattle.std.proofs.Common.{length-append, refl, sym, ap, ◌∙◌, subst, arith}
use Rattle.std.specs.Prelude.{nat_eq, sum_by, slice_index_or}
use Rattle.std.proofs.lemmas.List.Elements.{All-weaker}
use Rattle.std.proofs.lemmas.Bool.Decides.{nat_tests}
use Rattle.std.proofs.lemmas.List.{get_or-take, length-take-le, get_or-set_same, get_or-set_other, get_or_default, length-set, same_lists}
use Rattle.tn_text.specs.declared.limits.TheConstants.{PROCESSOR_LIMIT}
use Rattle.tn_net.specs.Trees.{LoadNode, node_at}
use Rattle.tn_net.specs.WholeTrees.{IsWholeTree}
use Rattle.tn_stream.specs.declared.waves.Wave.{Wave}
use Rattle.tn_stream.specs.declared.waves.Wave.TheVariants as wave
use Rattle.tn_stream.specs.declared.length_tables.NodeLengths.{NodeLengths}
use Rattle.tn_stream.specs.Images.{ImageBytes, AreImages}
use Rattle.tn_stream.specs.LoadBranches.{site_of, branch_at}
use Rattle.tn_stream.specs.Streams.{stream, load_part, sync_part, start_part}
use Rattle.tn_stream.specs.Lengths.{lengths_of, all_lengths, bytes_received, steps_to}
use Rattle.tn_stream.specs.Waves.{part_of, length_in}
use Rattle.tn_stream.specs.Inner.LowLengths.{no_lengths, IsLow}
use Rattle.tn_stream.specs.Inner.Tables.{HasLengths, own_length, child_length_in}
use Rattle.tn_stream.proofs.LengthLaws.{child_length, length-part, part-bound, part-some, length-all_lengths, lengths-at, length_in-of}
use Rattle.tn_stream.proofs.LengthLaws.{sum-same-All}
use Rattle.tn_stream.proofs.LoadBranchLaws.{IsBehind, children-behind}

module _ (images : List ImageBytes) (nodes : List LoadNode) where
  pub table-none : (table : List NodeLengths) → length table ≡ PROCESSOR_LIMIT → HasLengths images nodes (length nodes) table
  table-none table room = record { room = room; at = λ j h g. absurd (omega arith) }

  pub table-more : (table : List NodeLengths) (k : ℕ) (x : NodeLengths) → HasLengths images nodes (k + 1) table → k < PROCESSOR_LIMIT
      → x ≡ lengths_of (branch_at images nodes k) → HasLengths images nodes k (set table k x)
  table-more table k x has inside is =
      record { room = length-set table k x ∙ has.room; at = at }
    where
      at : (j : ℕ) → k ≤ j → j < length nodes → slice_index_or (set table k x) j no_lengths ≡ lengths_of (branch_at images nodes j)
      at j low high = by (nat_eq j k) refl
        where
          by : (b : Bool) → nat_eq j k ≡ b → slice_index_or (set table k x) j no_lengths ≡ lengths_of (branch_at images nodes j)
          by true test =
              let same : k ≡ j = grind (arith, nat_tests) in
              let room = has.room in
              subst (λ i. slice_index_or (set table k x) i no_lengths ≡ lengths_of (branch_at images nodes i)) same
              (get_or-set_same table k x no_lengths (omega (arith, room)) ∙ is)
          by false test =
              let other : j ≡ k → ⊥ = grind (arith, nat_tests) in
              let above : k < j = grind (arith, nat_tests) in
              get_or-set_other table k j x no_lengths other ∙ has.at j (omega arith) high

  pub table-whole : (table : List NodeLengths) → HasLengths images nodes 0 table → length nodes ≤ PROCESSOR_LIMIT
      → take (length nodes) table ≡ all_lengths images nodes
  table-whole table has few =
      let room = has.room in
      let count : length (take (length nodes) table) ≡ length nodes = length-take-le (length nodes) table (omega (arith, room, few)) in
      same_lists (take (length nodes) table) (all_lengths images nodes) (count ∙ sym (length-all_lengths images nodes)) (at count)
    where
      at : length (take (length nodes) table) ≡ length nodes → (k : ℕ) (d : NodeLengths) → k < length (take (length nodes) table)
          → get_or (take (length nodes) table) k d ≡ get_or (all_lengths images nodes) k d
      at count k d h =
          let inside : k < length nodes = omega (arith, count) in
          let room = has.room in
          get_or-take (length nodes) table k d inside
          ∙ (get_or_default table k d no_lengths (omega (arith, room, few))
          ∙ (has.at k (omega arith) inside ∙ sym (lengths-at images nodes k d inside)))

  -- all lengths are those of parts that are not empty, and that words hold
  pub all-low : AreImages images → IsWholeTree nodes (length images) → (k : ℕ) → k < length nodes
      → IsLow (lengths_of (branch_at images nodes k))
  all-low good whole k inside =
      let load = part-bound images good nodes whole wave.Load k inside in
      let sync = part-bound images good nodes whole wave.Sync k inside in
      let start = part-bound images good nodes whole wave.Start k inside in
      let load_some = part-some images good nodes whole wave.Load k inside in
      let sync_some = part-some images good nodes whole wave.Sync k inside in
      let start_some = part-some images good nodes whole wave.Start k inside in
      record {
        load = omega (arith, load_some);
        sync = omega (arith, sync_some);
        start = omega (arith, start_some);
        load_bound = omega (arith, load);
        sync_bound = omega (arith, sync);
        start_bound = omega (arith, start);
      }

  -- what a table of all lengths tells of the node at a place
  pub table-at : (table : List NodeLengths) (k : ℕ) (x : NodeLengths) → table ≡ all_lengths images nodes → k < length nodes
      → x ≡ slice_index_or table k no_lengths → x ≡ lengths_of (branch_at images nodes k)
  table-at table k x is inside e =
      e ∙ (ap (λ t. slice_index_or t k no_lengths) is ∙ lengths-at images nodes k no_lengths inside)

  pub table-length : (table : List NodeLengths) → table ≡ all_lengths images nodes → length table ≡ length nodes
  table-length table is = ap length is ∙ length-all_lengths images nodes

  pub stream-length : (k : ℕ) → length (stream (branch_at images nodes k)) ≡ bytes_received (branch_at images nodes k)
  unfolding stream
  stream-length k =
      omega (
        arith,
        length-append (load_part (branch_at images nodes k) ++ sync_part (branch_at images nodes k))
            (start_part (branch_at images nodes k)),
        length-append (load_part (branch_at images nodes k)) (sync_part (branch_at images nodes k)),
      )

module _ (images : List ImageBytes) (good : AreImages images) (nodes : List LoadNode) (whole : IsWholeTree nodes (length images)) where
  -- a whole table is low
  pub table-low : (table : List NodeLengths) → table ≡ all_lengths images nodes → All IsLow table
  table-low table is = λ k d h. subst IsLow (sym (here k d h)) (all-low images nodes good whole k (inside k h))
    where
      inside : (k : ℕ) → k < length table → k < length nodes
      inside k h = omega (arith, h, table-length images nodes table is)

      here : (k : ℕ) (d : NodeLengths) → k < length table → slice_index_or table k d ≡ lengths_of (branch_at images nodes k)
      here k d h = ap (λ t. slice_index_or t k d) is ∙ lengths-at images nodes k d (inside k h)

  -- the children of a node by the table of the nodes behind it
  pub children-places : (table : List NodeLengths) (k : ℕ) → HasLengths images nodes (k + 1) table → k < length nodes
      → All (λ c. c < length table) (node_at nodes k).children
  children-places table k has inside =
      All-weaker (IsBehind nodes k) (λ c. c < length table) at (node_at nodes k).children
      (children-behind nodes (length images) k whole inside)
    where
      at : (c : ℕ) → IsBehind nodes k c → c < length table
      at c b = let here = b.within in let few = whole.few in let room = has.room in omega (arith, here, few, room)

  pub children-sum : (w : Wave) (table : List NodeLengths) (k : ℕ) → HasLengths images nodes (k + 1) table → k < length nodes
      → sum_by (child_length_in w table) (node_at nodes k).children
      ≡ sum_by (child_length images good nodes whole w) (node_at nodes k).children
  children-sum w table k has inside =
      sum-same-All (IsBehind nodes k) (child_length_in w table) (child_length images good nodes whole w) at (node_at nodes k).children
      (children-behind nodes (length images) k whole inside)
    where
      at : (c : ℕ) → IsBehind nodes k c → child_length_in w table c ≡ child_length images good nodes whole w c
      at c b =
          let behind = b.behind in
          ap (λ l. 12 + length_in w l) (has.at c (omega (arith, behind)) b.within) ∙ ap (λ n. 12 + n) (length_in-of w images nodes c)

  pub children-low : (w : Wave) (table : List NodeLengths) (k : ℕ) → HasLengths images nodes (k + 1) table → k < length nodes
      → sum_by (child_length_in w table) (node_at nodes k).children < 2 ^ 32
  children-low w table k has inside =
      let same = children-sum w table k has inside in
      let sum = length-part images good nodes whole w k inside in
      let bound = part-bound images good nodes whole w k inside in
      omega (arith, same, sum, bound)

  -- the length of a node, by what its own bytes and its children have
  pub length-summed : (w : Wave) (table : List NodeLengths) (k : ℕ) → HasLengths images nodes (k + 1) table → k < length nodes
      → own_length w (site_of images (node_at nodes k)).image + sum_by (child_length_in w table) (node_at nodes k).children
      ≡ length (part_of w (branch_at images nodes k))
  length-summed w table k has inside =
      let same = children-sum w table k has inside in
      let sum = length-part images good nodes whole w k inside in
      omega (arith, same, sum)

  pub steps-places : (table : List NodeLengths) (k : ℕ) → table ≡ all_lengths images nodes → k < length nodes
      → All (λ c. c < length table) (node_at nodes k).children
  steps-places table k is inside =
      All-weaker (IsBehind nodes k) (λ c. c < length table) at (node_at nodes k).children
      (children-behind nodes (length images) k whole inside)
    where
      at : (c : ℕ) → IsBehind nodes k c → c < length table
      at c b = let here = b.within in omega (arith, here, table-length images nodes table is)

  pub steps-sum : (table : List NodeLengths) (k : ℕ) → table ≡ all_lengths images nodes → k < length nodes
      → sum_by (λ c. steps_to (slice_index_or table c no_lengths)) (node_at nodes k).children
      ≡ sum_by (λ c. steps_to (lengths_of (branch_at images nodes c))) (node_at nodes k).children
  steps-sum table k is inside =
      sum-same-All (IsBehind nodes k) (λ c. steps_to (slice_index_or table c no_lengths))
      (λ c. steps_to (lengths_of (branch_at images nodes c))) at (node_at nodes k).children
      (children-behind nodes (length images) k whole inside)
    where
      at : (c : ℕ) → IsBehind nodes k c → steps_to (slice_index_or table c no_lengths) ≡ steps_to (lengths_of (branch_at images nodes c))
      at c b = ap steps_to (ap (λ t. slice_index_or t c no_lengths) is ∙ lengths-at images nodes c no_lengths b.within)
