-- The text of a load tree depends on what its nodes get, and on nothing else of that function.
use Rattle.std.proofs.Common.{Option, Some, None, Ok, Err, append-nil, subst}
use Rattle.std.proofs.Common.{◌≡◌, ℕ, zero, suc, ◌+◌, ◌<◌, ◌≤◌, List, [], ◌∷◌, ◌++◌, length, get_or, take, refl, sym}
use Rattle.std.proofs.Common.{ap, ap₂, ◌∙◌, arith, codes, map}
use Rattle.std.specs.Prelude.{slice_index}
use Rattle.std.specs.List.{range_with_len}
use Rattle.std.proofs.lemmas.List.{map-append, take_more, take_all}
use Rattle.std.proofs.lemmas.List.FromFn.{get_or-map-range_with_len, map-range_with_len_more}
use Rattle.tn_config.specs.declared.configurations.Block.{Block}
use Rattle.tn_config.specs.Configurations.{block_of}
use Rattle.tn_net.specs.Trees.{LoadNode, node_at}
use Rattle.tn_io.specs.Outs.{Printed, told_then}
use Rattle.tn_stream.specs.Images.{ImageBytes}
use Rattle.tn_stream.specs.LoadBranches.{branch_at}
use Rattle.tn_stream.specs.Lengths.{bytes_received, load_steps}
use Rattle.tn_top.specs.declared.refusals.Refusal.{Refusal}
use Rattle.tn_top.specs.declared.refusals.Refusal.TheVariants.{NoMemory}
use Rattle.tn_top.specs.Outcomes.{Begins}
use Rattle.tn_top.specs.Inner.Ends.{WhyUnprinted, Shows}
use Rattle.tn_list.specs.TreeTexts.{node_line, node_lines, count_line, tree_text}

lines-same : (names : List (List ℕ)) (nodes : List LoadNode) (f g : ℕ → ℕ) (n : ℕ) → ((k : ℕ) → k < n → f k ≡ g k)
    → node_lines names nodes f n ≡ node_lines names nodes g n
unfolding node_lines
lines-same names nodes f g zero same = refl
lines-same names nodes f g (suc n) same =
    ap₂ (λ xs ys. xs ++ ys) (lines-same names nodes f g n (λ k h. same k (omega arith)))
    (ap (λ r. node_line names nodes (node_at nodes n) r) (same n (omega arith)))

pub text-same : (names : List (List ℕ)) (nodes : List LoadNode) (f g : ℕ → ℕ) (steps : ℕ) → 0 < length nodes
    → ((k : ℕ) → k < length nodes → f k ≡ g k) → tree_text names nodes f steps ≡ tree_text names nodes g steps
unfolding tree_text
text-same names nodes f g steps some same =
    ap₂ (λ xs r. xs ++ count_line (codes "stream") r ++ count_line (codes "steps") steps)
    (lines-same names nodes f g (length nodes) same) (same 0 some)

-- what a table of so many counts tells
pub counted : (f : ℕ → ℕ) (n : ℕ) (counts : List ℕ) → counts ≡ map f (range_with_len 0 n) → (k : ℕ) → k < n → slice_index counts k ≡ f k
counted f n counts is k inside =
    let none : 0 + k ≡ k = omega arith in ap (λ xs. slice_index xs k) is ∙ get_or-map-range_with_len f 0 n k k 0 inside none

-- one count more
pub counts-more : (f : ℕ → ℕ) (n : ℕ) (now new : List ℕ) (count : ℕ) → now ≡ map f (range_with_len 0 n) → new ≡ now ++ count ∷ []
    → count ≡ f n → new ≡ map f (range_with_len 0 (n + 1))
counts-more f n now new count so_far more is =
    let none : 0 + n ≡ n = omega arith in
    more ∙ (ap₂ (λ xs c. xs ++ c ∷ []) so_far is ∙ sym (map-range_with_len_more f 0 n n none))

-- the names of processors, by their views
pub names-same : (blocks : List Block) → map (λ b. b.name) (map block_of blocks) ≡ map (λ (b : Block). b.name) blocks
names-same [] = refl
names-same (b ∷ bs) = ap (λ names. b.name ∷ names) (names-same bs)

-- what a loop over a list has made of it: with one item more, and in the end
module _ {A B : Type 0} (f : A → B) (xs : List A) (i : ℕ) where
  pub mapped-more : (x : A) (now new : List B) → i < length xs → x ≡ get_or xs i x → now ≡ map f (take i xs) → new ≡ now ++ f x ∷ []
      → new ≡ map f (take (i + 1) xs)
  mapped-more x now new inside is so_far more =
      more ∙ (ap (λ ys. ys ++ f x ∷ []) so_far
      ∙ sym (ap (map f) (take_more xs i x inside ∙ ap (λ y. take i xs ++ y ∷ []) (sym is)) ∙ map-append f (take i xs) (x ∷ [])))

  pub mapped-all : (made : List B) → length xs ≤ i → made ≡ map f (take i xs) → made ≡ map f xs
  mapped-all made all so_far = so_far ∙ ap (map f) (take_all i xs all)

-- what is printed of a system is its text
pub printed-text : (blocks : List Block) (images : List ImageBytes) (nodes : List LoadNode) (names : List (List ℕ)) (counts : List ℕ)
    (steps : ℕ) → names ≡ map (λ (b : Block). b.name) blocks
    → counts ≡ map (λ k. bytes_received (branch_at images nodes k)) (range_with_len 0 (length nodes)) → steps ≡ load_steps images nodes
    → 1 ≤ length nodes → tree_text names nodes (λ k. slice_index counts k) steps
    ≡ tree_text (map (λ b. b.name) (map block_of blocks)) nodes (λ k. bytes_received (branch_at images nodes k)) (load_steps images nodes)
printed-text blocks images nodes names counts steps named counted_all summed some =
    text-same names nodes (λ k. slice_index counts k) (λ k. bytes_received (branch_at images nodes k)) steps (omega arith)
    (counted (λ k. bytes_received (branch_at images nodes k)) (length nodes) counts counted_all)
    ∙ ap₂ (λ ns n. tree_text ns nodes (λ k. bytes_received (branch_at images nodes k)) n) (named ∙ sym (names-same blocks)) summed

-- ---- how a command that prints a text ends

pub none-of-it : (o : Option (List ℕ)) → o ≡ told_then [] o
none-of-it None = refl
none-of-it (Some bs) = ap Some (sym (append-nil bs))

-- there was no memory before anything was printed
pub shows-want : (text : List ℕ) (old : Printed) → Shows {T = Unit {0}} text old old (Err NoMemory)
unfolding Begins
shows-want text old = record { ok = tt; err = ((0, none-of-it old.bytes), tt) }

module _ (text other : List ℕ) (same : text ≡ other) (old new : Printed) where
  pub shows-all : (u : Unit {0}) → new.bytes ≡ told_then text old.bytes → Shows {T = Unit {0}} other old new (Ok u)
  shows-all u all = record { ok = subst (λ t. new.bytes ≡ told_then t old.bytes) same all; err = tt }

  pub shows-part : (why : Refusal) → (k : ℕ) × (new.bytes ≡ told_then (take k text) old.bytes) → WhyUnprinted old new why
      → Shows {T = Unit {0}} other old new (Err why)
  unfolding Begins
  shows-part why part cause = record {
    ok = tt;
    err = (subst (λ t. (k : ℕ) × (new.bytes ≡ told_then (take k t) old.bytes)) same part, cause);
  }
