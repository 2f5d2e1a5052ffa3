-- What a node gets in a wave, child by child.
use Rattle.std.proofs.Common.{◌≡◌, ℕ, ◌+◌, ◌<◌, List, [], ◌∷◌, ◌++◌, length, get_or, take, drop, All, sym, ap, ◌∙◌, subst}
use Rattle.std.proofs.Common.{append_assoc, append-nil}
use Rattle.std.specs.List.{flat_map}
use Rattle.std.proofs.lemmas.List.{take_more, take-append-drop}
use Rattle.std.proofs.lemmas.List.Concat.{flat_map-append}
use Rattle.tn_net.specs.Trees.{LoadNode, node_at}
use Rattle.tn_net.specs.WholeTrees.{IsWholeTree}
use Rattle.tn_stream.specs.declared.waves.Wave.{Wave}
use Rattle.tn_stream.specs.Images.{ImageBytes}
use Rattle.tn_stream.specs.LoadBranches.{site_of, branch_at}
use Rattle.tn_stream.specs.Waves.{first_of, last_of, part_of}
use Rattle.tn_stream.specs.Inner.Tables.{forward_to, child_bytes}
use Rattle.tn_stream.proofs.LoadBranchLaws.{IsBehind, children-behind, part-is}

-- a list of bytes for each of some places, up to one of them
bytes-more : (f : ℕ → List ℕ) (cs : List ℕ) (i : ℕ) → i < length cs
    → flat_map f (take (i + 1) cs) ≡ flat_map f (take i cs) ++ f (get_or cs i 0)
bytes-more f cs i inside =
    ap (flat_map f) (take_more cs i 0 inside) ∙ (flat_map-append f (take i cs) (get_or cs i 0 ∷ [])
    ∙ ap (λ xs. flat_map f (take i cs) ++ xs) (append-nil (f (get_or cs i 0))))

bytes-split : (f : ℕ → List ℕ) (cs : List ℕ) (n : ℕ) → flat_map f cs ≡ flat_map f (take n cs) ++ flat_map f (drop n cs)
bytes-split f cs n = ap (flat_map f) (sym (take-append-drop n cs)) ∙ flat_map-append f (take n cs) (drop n cs)

module _ (images : List ImageBytes) (nodes : List LoadNode) (count : ℕ) (whole : IsWholeTree nodes count) (w : Wave) (k : ℕ)
    (inside : k < length nodes) (cs : List ℕ) (kids : (node_at nodes k).children ≡ cs) where
  abbrev pub front_bytes : List ℕ
  front_bytes = first_of w (site_of images (node_at nodes k))

  abbrev pub back_bytes : List ℕ
  back_bytes = last_of w (site_of images (node_at nodes k))

  abbrev pub bytes_to : List ℕ → List ℕ
  bytes_to places = flat_map (child_bytes w images nodes) places

  abbrev pub so_far : ℕ → List ℕ
  so_far i = front_bytes ++ bytes_to (take i cs)

  whole_part : part_of w (branch_at images nodes k) ≡ front_bytes ++ bytes_to cs ++ back_bytes
  whole_part = part-is images nodes count whole w k inside ∙ ap (λ ks. front_bytes ++ bytes_to ks ++ back_bytes) kids

  pub part-first : part_of w (branch_at images nodes k) ≡ front_bytes ++ (bytes_to cs ++ back_bytes)
  part-first = whole_part ∙ append_assoc front_bytes (bytes_to cs) back_bytes

  pub part-more : (i : ℕ) → i < length cs
      → so_far (i + 1) ≡ (so_far i ++ forward_to w images nodes (get_or cs i 0)) ++ part_of w (branch_at images nodes (get_or cs i 0))
  part-more i within =
      ap (λ xs. front_bytes ++ xs) (bytes-more (child_bytes w images nodes) cs i within)
      ∙ (sym (append_assoc front_bytes (bytes_to (take i cs)) (child_bytes w images nodes (get_or cs i 0)))
      ∙ sym (append_assoc (so_far i) (forward_to w images nodes (get_or cs i 0)) (part_of w (branch_at images nodes (get_or cs i 0)))))

  part_cut : (n : ℕ) → part_of w (branch_at images nodes k) ≡ so_far n ++ (bytes_to (drop n cs) ++ back_bytes)
  part_cut n =
      part-first ∙ (ap (λ xs. front_bytes ++ (xs ++ back_bytes)) (bytes-split (child_bytes w images nodes) cs n)
      ∙ (ap (λ xs. front_bytes ++ xs) (append_assoc (bytes_to (take n cs)) (bytes_to (drop n cs)) back_bytes)
      ∙ sym (append_assoc front_bytes (bytes_to (take n cs)) (bytes_to (drop n cs) ++ back_bytes))))

  pub part-child : (i : ℕ) → i < length cs → part_of w (branch_at images nodes k)
      ≡ ((so_far i ++ forward_to w images nodes (get_or cs i 0)) ++ part_of w (branch_at images nodes (get_or cs i 0)))
      ++ (bytes_to (drop (i + 1) cs) ++ back_bytes)
  part-child i within = part_cut (i + 1) ∙ ap (λ xs. xs ++ (bytes_to (drop (i + 1) cs) ++ back_bytes)) (part-more i within)

  pub part-forward : (i : ℕ) → i < length cs → part_of w (branch_at images nodes k)
      ≡ (so_far i ++ forward_to w images nodes (get_or cs i 0))
      ++ (part_of w (branch_at images nodes (get_or cs i 0)) ++ (bytes_to (drop (i + 1) cs) ++ back_bytes))
  part-forward i within =
      part-child i within ∙ append_assoc (so_far i ++ forward_to w images nodes (get_or cs i 0))
      (part_of w (branch_at images nodes (get_or cs i 0))) (bytes_to (drop (i + 1) cs) ++ back_bytes)

  pub part-end : (i : ℕ) → take i cs ≡ cs → part_of w (branch_at images nodes k) ≡ so_far i ++ back_bytes
  part-end i e = whole_part ∙ ap (λ ks. (front_bytes ++ bytes_to ks) ++ back_bytes) (sym e)

  pub child-behind : (i : ℕ) → i < length cs → IsBehind nodes k (get_or cs i 0)
  child-behind i within = subst (All (IsBehind nodes k)) kids (children-behind nodes count k whole inside) i 0 within
