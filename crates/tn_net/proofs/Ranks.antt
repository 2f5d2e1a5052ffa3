-- Ranks of paths.
use Rattle.std.proofs.Common.{◌≡◌, ℕ, ◌+◌, ◌*◌, ◌<◌, ◌≤◌, ◌⊎◌, inl, inr, List, [], ◌∷◌, ◌++◌, length, refl, ◌∙◌, ap, arith}
use Rattle.tn_net.specs.declared.networks.Far.TheVariants.{Link}
use Rattle.tn_net.specs.Networks.{NetworkState, far_at}
use Rattle.tn_net.specs.Paths.{Leads, ComesBefore, IsLess}
use Rattle.tn_net.specs.Inner.Visits.{rank_from}

-- links of a processor
abbrev pub AreLinks : List ℕ → Type 0
AreLinks [] = Unit {0}
AreLinks (l ∷ ls) = (l < 4) × AreLinks ls

pub leads_links : (n : NetworkState) (p : ℕ) (ls : List ℕ) (q : ℕ) → Leads n p ls q → AreLinks ls
leads_links n p [] q h = tt
leads_links n p (l ∷ ls) q h = (h.2, leads_links n h.0 ls q h.4)

-- one link more
pub leads_more : (n : NetworkState) (p : ℕ) (ls : List ℕ) (r l q m : ℕ) → Leads n p ls r → l < 4 → far_at n r l ≡ Link q m
    → Leads n p (ls ++ l ∷ []) q
leads_more n p [] r l q m h hl is = (q, m, hl, ap (λ x. far_at n x l) h ∙ is, refl)
leads_more n p (k ∷ ls) r l q m h hl is = (h.0, h.1, h.2, h.3, leads_more n h.0 ls r l q m h.4 hl is)

pub rank_more : (c : ℕ) (ls : List ℕ) (l : ℕ) → rank_from c (ls ++ l ∷ []) ≡ 4 * rank_from c ls + l
rank_more c [] l = refl
rank_more c (k ∷ ls) l = rank_more (4 * c + k) ls l

pub rank_above : (c d : ℕ) (ls : List ℕ) → c ≤ d → rank_from c ls ≤ rank_from d ls
rank_above c d [] h = h
rank_above c d (l ∷ ls) h = rank_above (4 * c + l) (4 * d + l) ls (omega (arith, h))

pub rank_least : (c : ℕ) (ls : List ℕ) → c ≤ rank_from c ls
rank_least c [] = omega arith
rank_least c (l ∷ ls) = omega (arith, rank_least (4 * c + l) ls)

-- a longer list has a greater rank
pub longer : (c d : ℕ) (ls ks : List ℕ) → length ks < length ls → d < 4 * c → AreLinks ks → rank_from d ks < rank_from c ls
longer c d [] ks h less links = absurd (omega (arith, h))
longer c d (l ∷ ls) [] h less links = omega (arith, less, rank_least (4 * c + l) ls)
longer c d (l ∷ ls) (k ∷ ks) h less links = longer (4 * c + l) (4 * d + k) ls ks (omega (arith, h)) (omega (arith, less, links.0)) links.1

-- of two lists of one length that of the lower rank comes before
pub as_long : (c d : ℕ) (ls ks : List ℕ) → length ls ≡ length ks → AreLinks ls → AreLinks ks → rank_from c ls ≤ rank_from d ks
    → (c < d) ⊎ ((c ≡ d) × (ComesBefore ls ks ⊎ (ls ≡ ks)))
as_long c d [] [] same hl hk h = elim (split c d h) [ inl a ↦ inl a | inr a ↦ inr (a, inr refl) ]
  where
    split : (a b : ℕ) → a ≤ b → (a < b) ⊎ (a ≡ b)
    split a b h = grind arith
as_long c d [] (k ∷ ks) same hl hk h = absurd (omega (arith, same))
as_long c d (l ∷ ls) [] same hl hk h = absurd (omega (arith, same))
as_long c d (l ∷ ls) (k ∷ ks) same hl hk h =
    elim (as_long (4 * c + l) (4 * d + k) ls ks (omega (arith, same)) hl.1 hk.1 h) [
      | inl less ↦ elim
          (split c d l k hl.0 hk.0 less) [ inl a ↦ inl a | inr a ↦ inr (a.0, inl (inl a.1)) ]
      | inr both ↦ elim both.1 [
        | inl before ↦ inr (
          heads_one c d l k hl.0 hk.0 both.0,
          inl (inr (heads_two c d l k hl.0 hk.0 both.0, before)),
        )
        | inr equal ↦ inr
            (heads_one c d l k hl.0 hk.0 both.0, inr (ap (λ x. x ∷ ls) (heads_two c d l k hl.0 hk.0 both.0) ∙ ap (λ xs. k ∷ xs) equal))
      ]
    ]
  where
    heads_one : (c d l k : ℕ) → l < 4 → k < 4 → 4 * c + l ≡ 4 * d + k → c ≡ d
    heads_one c d l k a b e = omega (arith, a, b, e)

    heads_two : (c d l k : ℕ) → l < 4 → k < 4 → 4 * c + l ≡ 4 * d + k → l ≡ k
    heads_two c d l k a b e = omega (arith, a, b, e)

    split : (c d l k : ℕ) → l < 4 → k < 4 → 4 * c + l < 4 * d + k → (c < d) ⊎ ((c ≡ d) × (l < k))
    split c d l k a b h =
        elim (cases c d) [ inl less ↦ inl less | inr rest ↦ inr (omega (arith, rest, a, b, h), omega (arith, rest, a, b, h)) ]
      where
        cases : (x y : ℕ) → (x < y) ⊎ (y ≤ x)
        cases x y = grind arith

-- a list of at most the rank is less, or the same
pub ranked : (ls ks : List ℕ) → AreLinks ls → AreLinks ks → rank_from 1 ls ≤ rank_from 1 ks → IsLess ls ks ⊎ (ls ≡ ks)
ranked ls ks hl hk h =
    elim (lengths (length ls) (length ks)) [
      | inl shorter ↦ inl (inl shorter)
      | inr rest ↦ elim rest [
        | inl same ↦ elim (as_long 1 1 ls ks same hl hk h) [
          | inl bad ↦ absurd (omega (arith, bad))
          | inr both ↦ elim both.1 [ inl before ↦ inl (inr (same, before)) | inr equal ↦ inr equal ]
        ]
        | inr more ↦ absurd (omega (arith, h, longer 1 1 ls ks more (omega arith) hk))
      ]
    ]
  where
    lengths : (a b : ℕ) → (a < b) ⊎ ((a ≡ b) ⊎ (b < a))
    lengths a b = grind arith
