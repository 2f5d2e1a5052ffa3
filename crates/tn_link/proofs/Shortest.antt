-- Code under the least sizes is the shortest.
use Rattle.std.proofs.Common.{◌≡◌, ℕ, suc, ◌<◌, ◌≤◌, List, [], ◌∷◌, length, get_or, sym, ◌∙◌, arith}
use Rattle.std.specs.List.{sum}
use Rattle.std.proofs.lemmas.List.Sums.{sum_by-cons}
use Rattle.tn_module.specs.Modules.{Parts}
use Rattle.tn_layout.specs.Sizes.{Valid}
use Rattle.tn_link.specs.declared.linking.Linked.{Linked}
use Rattle.tn_link.specs.Programs.{program, pieces}
use Rattle.tn_link.specs.Linking.{IsLinked}

-- the sums of sizes, each of which is at most another
sums-le : (s t : List ℕ) → length s ≡ length t → ((i : ℕ) → i < length s → get_or s i 0 ≤ get_or t i 0) → sum s ≤ sum t
sums-le [] [] l h = omega arith
sums-le [] (y ∷ t) l h = absurd (omega arith)
sums-le (x ∷ s) [] l h = absurd (omega arith)
sums-le (x ∷ s) (y ∷ t) l h =
    omega (
      arith,
      sum_by-cons (λ (n : ℕ). n) x s,
      sum_by-cons (λ (n : ℕ). n) y t,
      h 0 (omega arith),
      sums-le s t (omega arith) (λ i k. h (suc i) (omega arith)),
    )

abbrev pub IsShortest : List Parts → ℕ → Linked → Type 0
IsShortest modules cell_base linked =
    (sizes : List ℕ) → Valid (pieces (program modules cell_base)) sizes → length linked.code.items ≤ sum sizes

pub shortest : (modules : List Parts) (code_base cell_base : ℕ) (linked : Linked) → IsLinked modules code_base cell_base linked
    → IsShortest modules cell_base linked
shortest modules code_base cell_base linked k sizes v =
    omega (
      arith,
      k.code_length,
      sums-le k.sizes sizes (k.least.valid.as_many ∙ sym v.as_many) (λ i h. k.least.least sizes v i (omega
          (arith, h, k.least.valid.as_many))),
    )
