-- The order of a dictionary.
use Rattle.std.proofs.Common.{◌≡◌, ℕ, ◌+◌, ◌<◌, ◌≤◌, inl, inr, List, [], ◌∷◌, ◌++◌, length, refl, ◌∙◌, ap, arith}
use Rattle.std.proofs.lemmas.List.{length_push}
use Rattle.tn_net.specs.Paths.{ComesBefore, IsLess}
use Rattle.tn_net.specs.Trees.{PrecedesInDictionary}

pub stands_trans : (a b c : List ℕ) → PrecedesInDictionary a b → PrecedesInDictionary b c → PrecedesInDictionary a c
stands_trans [] [] c p q = absurd p
stands_trans [] (y ∷ b) [] p q = absurd q
stands_trans [] (y ∷ b) (z ∷ c) p q = tt
stands_trans (x ∷ a) [] c p q = absurd p
stands_trans (x ∷ a) (y ∷ b) [] p q = absurd q
stands_trans (x ∷ a) (y ∷ b) (z ∷ c) p q =
    elim p [
      | inl h ↦ elim q [ inl g ↦ inl (omega (arith, h, g)) | inr g ↦ inl (omega (arith, h, g.0)) ]
      | inr h ↦ elim q [ inl g ↦ inl (omega (arith, h.0, g)) | inr g ↦ inr (h.0 ∙ g.0, stands_trans a b c h.1 g.1) ]
    ]

pub stands_self : (a : List ℕ) → PrecedesInDictionary a a → ⊥
stands_self [] h = h
stands_self (x ∷ a) h = elim h [ inl less ↦ omega (arith, less) | inr both ↦ stands_self a both.1 ]

-- a list stands before the longer ones that it begins
pub more_after : (p : List ℕ) (l : ℕ) → PrecedesInDictionary p (p ++ l ∷ [])
more_after [] l = tt
more_after (x ∷ p) l = inr (refl, more_after p l)

pub sibling_before : (p : List ℕ) (m l : ℕ) → m < l → PrecedesInDictionary (p ++ m ∷ []) (p ++ l ∷ [])
sibling_before [] m l h = inl h
sibling_before (x ∷ p) m l h = inr (refl, sibling_before p m l h)

pub comes_links : (p : List ℕ) (m l : ℕ) → ComesBefore (p ++ m ∷ []) (p ++ l ∷ []) → m < l
comes_links [] m l h = elim h [ inl less ↦ less | inr both ↦ absurd both.1 ]
comes_links (x ∷ p) m l h = elim h [ inl less ↦ absurd (omega (arith, less)) | inr both ↦ comes_links p m l both.1 ]

pub less_links : (p : List ℕ) (m l : ℕ) → IsLess (p ++ m ∷ []) (p ++ l ∷ []) → m < l
less_links p m l h =
    elim h [ inl shorter ↦ absurd (omega (arith, shorter, length_push p m, length_push p l)) | inr both ↦ comes_links p m l both.1 ]

pub comes_self : (p : List ℕ) → ComesBefore p p → ⊥
comes_self [] h = h
comes_self (x ∷ p) h = elim h [ inl less ↦ omega (arith, less) | inr both ↦ comes_self p both.1 ]

pub less_self : (p : List ℕ) → IsLess p p → ⊥
less_self p h = elim h [ inl shorter ↦ omega (arith, shorter) | inr both ↦ comes_self p both.1 ]

pub comes_twice : (p q : List ℕ) → ComesBefore p q → ComesBefore q p → ⊥
comes_twice [] q h g = h
comes_twice (x ∷ p) [] h g = h
comes_twice (x ∷ p) (y ∷ q) h g =
    elim h [
      | inl a ↦ elim g [ inl b ↦ omega (arith, a, b) | inr b ↦ omega (arith, a, b.0) ]
      | inr a ↦ elim g [ inl b ↦ omega (arith, a.0, b) | inr b ↦ comes_twice p q a.1 b.1 ]
    ]

pub less_twice : (p q : List ℕ) → IsLess p q → IsLess q p → ⊥
less_twice p q h g =
    elim h [
      | inl a ↦ elim g [ inl b ↦ omega (arith, a, b) | inr b ↦ omega (arith, a, b.0) ]
      | inr a ↦ elim g [ inl b ↦ omega (arith, a.0, b) | inr b ↦ comes_twice p q a.1 b.1 ]
    ]

pub less_length : (p q : List ℕ) → IsLess p q → length p ≤ length q
less_length p q h = elim h [ inl shorter ↦ omega (arith, shorter) | inr both ↦ omega (arith, both.0) ]

-- nothing is less than the empty list
pub less_empty : (p : List ℕ) → IsLess p [] → ⊥
less_empty [] h = less_self [] h
less_empty (x ∷ p) h = elim h [ inl shorter ↦ omega (arith, shorter) | inr both ↦ both.1 ]

pub without_last : (a b : List ℕ) (m l : ℕ) → a ++ m ∷ [] ≡ b ++ l ∷ [] → a ≡ b
without_last [] [] m l e = refl
without_last [] (y ∷ b) m l e = absurd (omega (arith, ap length e, length_push b l))
without_last (x ∷ a) [] m l e = absurd (omega (arith, ap length e, length_push a m))
without_last (x ∷ a) (y ∷ b) m l e =
    let head : x ≡ y = cc in
    let rest : a ++ m ∷ [] ≡ b ++ l ∷ [] = cc in
    let same : a ≡ b = without_last a b m l rest in
    cc

-- what stands after a list, is at most one longer and does not extend it stands after what extends it
pub beyond : (p x : List ℕ) (l : ℕ) → PrecedesInDictionary p x → length x ≤ length p + 1 → ((m : ℕ) → x ≡ p ++ m ∷ [] → ⊥)
    → PrecedesInDictionary (p ++ l ∷ []) x
beyond [] [] l h few apart = absurd h
beyond [] (y ∷ []) l h few apart = absurd (apart y refl)
beyond [] (y ∷ (z ∷ ys)) l h few apart = absurd (omega (arith, few))
beyond (k ∷ p) [] l h few apart = absurd h
beyond (k ∷ p) (y ∷ ys) l h few apart =
    elim h [
      | inl less ↦ inl less
      | inr both ↦ inr (
        both.0,
        beyond p ys l both.1 (omega (arith, few))
            (λ m e. apart m (extended k y p ys m both.0 e)),
      )
    ]
  where
    extended : (a b : ℕ) (xs zs : List ℕ) (m : ℕ) → a ≡ b → zs ≡ xs ++ m ∷ [] → b ∷ zs ≡ a ∷ (xs ++ m ∷ [])
    extended a b xs zs m e f = cc
