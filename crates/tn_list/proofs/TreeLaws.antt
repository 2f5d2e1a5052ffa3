-- The lines of a load tree, and what is read of its nodes.
use Rattle.std.proofs.Common.{◌≡◌, ℕ, zero, suc, ◌+◌, ◌<◌, ◌≤◌, ◌⊎◌, inl, inr, List, [], ◌++◌, length, get_or, Some}
use Rattle.std.proofs.Common.{refl, sym, ap, ◌∙◌, append_assoc, append-nil, arith, codes}
use Rattle.std.proofs.lemmas.List.{get_or_default, get_or_read}
use Rattle.tn_net.specs.Trees.{LoadNode, node_at}
use Rattle.tn_net.specs.WholeTrees.{IsWholeTree, IsBelow}
use Rattle.tn_list.specs.TreeTexts.{name_of, word_and_number, source_text, boot_text, node_line, node_lines}

-- a node that was read, by its view
pub node_read : (nodes : List LoadNode) (k : ℕ) {n m : LoadNode} → n ≡ m → m ≡ get_or nodes k m → k < length nodes → node_at nodes k ≡ n
node_read nodes k {n} {m} view is inside = get_or_default nodes k _ m inside ∙ (sym is ∙ sym view)

-- a name that was read
pub name_read : (names : List (List ℕ)) (p : ℕ) (bytes name : List ℕ) → bytes ≡ name → p < length names → name ≡ get_or names p name
    → bytes ≡ name_of names p
name_read names p bytes name e inside is = e ∙ get_or_read names p name inside is []

-- a parent is a node
pub parent_there : (nodes : List LoadNode) (count k q : ℕ) → IsWholeTree nodes count → k < length nodes → (node_at nodes k).parent ≡ Some q
    → q < length nodes
parent_there nodes count zero q whole here is = let none = whole.top in absurd cc
parent_there nodes count (suc k) q whole here is =
    let below : IsBelow nodes (suc k) = whole.below (suc k) (omega arith) here in
    let some : (node_at nodes (suc k)).parent ≡ Some below.parent = below.is in
    let same : q ≡ below.parent = cc in
    omega (arith, same, below.before)

pub boot_made : (names : List (List ℕ)) {n m : LoadNode} (name : List ℕ) (link : ℕ) → n ≡ m → name ≡ name_of names n.processor
    → link ≡ n.boot_link → name ++ word_and_number (codes "boot") link ≡ boot_text names m
unfolding boot_text
boot_made names {n} {m} name link view e l =
    ap (λ t. t ++ word_and_number (codes "boot") link) e
    ∙ (ap (λ k. name_of names n.processor ++ word_and_number (codes "boot") k) l
    ∙ ap (λ (x : LoadNode). name_of names x.processor ++ word_and_number (codes "boot") x.boot_link) view)

pub source_made : (names : List (List ℕ)) (nodes : List LoadNode) (k parent : ℕ) {n a : LoadNode} (name : List ℕ) (link : ℕ)
    → node_at nodes k ≡ n → n.parent ≡ Some parent → node_at nodes parent ≡ a → name ≡ name_of names a.processor → link ≡ n.parent_link
    → word_and_number name link ≡ source_text names nodes (node_at nodes k).parent (node_at nodes k).parent_link
unfolding source_text
source_made names nodes k parent {n} {a} name link node is above e l =
    let called : name ≡ name_of names (node_at nodes parent).processor = e ∙ ap (λ (x : LoadNode). name_of names x.processor) (sym above) in
    ap (λ w. word_and_number w link) called
    ∙ (ap (word_and_number (name_of names (node_at nodes parent).processor)) l
    ∙ (ap (λ o. source_text names nodes o n.parent_link) (sym is)
    ∙ ap (λ (x : LoadNode). source_text names nodes x.parent x.parent_link) (sym node)))

module _ (names : List (List ℕ)) (nodes : List LoadNode) (received : ℕ → ℕ) where
  abbrev lines_to : ℕ → List ℕ
  lines_to k = node_lines names nodes received k

  abbrev line_at : ℕ → List ℕ
  line_at k = node_line names nodes (node_at nodes k) (received k)

  -- no line
  pub lines_none : [] ≡ lines_to 0
  unfolding node_lines
  lines_none = refl

  -- one line more
  pub lines_more : (k : ℕ) → lines_to k ++ line_at k ≡ lines_to (k + 1)
  unfolding node_lines
  lines_more k = let next : suc k ≡ k + 1 = omega arith in ap (node_lines names nodes received) next

  past_or_not : (k n : ℕ) → k ≤ suc n → (k ≡ suc n) ⊎ (k ≤ n)
  past_or_not k n h = grind arith

  lines_from : (k n : ℕ) → k ≤ n → (rest : List ℕ) × (lines_to n ≡ lines_to k ++ rest)
  unfolding node_lines
  lines_from k zero h =
      let same : zero ≡ k = omega arith in ([], ap (node_lines names nodes received) same ∙ sym (append-nil (lines_to k)))
  lines_from k (suc n) h = at (past_or_not k n h) (λ l. lines_from k n l)
    where
      at : (k ≡ suc n) ⊎ (k ≤ n) → (k ≤ n → (rest : List ℕ) × (lines_to n ≡ lines_to k ++ rest))
          → (rest : List ℕ) × (lines_to (suc n) ≡ lines_to k ++ rest)
      at (inl e) again = ([], ap (node_lines names nodes received) (sym e) ∙ sym (append-nil (lines_to k)))
      at (inr l) again =
          let r = again l in (r.0 ++ line_at n, ap (λ t. t ++ line_at n) r.1 ∙ append_assoc (lines_to k) r.0 (line_at n))

  -- all lines, by what stands up to one of them
  pub lines_split : (k n : ℕ) → k < n → (rest : List ℕ) × ((lines_to k ++ line_at k) ++ rest ≡ lines_to n)
  lines_split k n h =
      let r = lines_from (k + 1) n (omega arith) in (r.0, ap (λ t. t ++ r.0) (lines_more k) ∙ sym r.1)
