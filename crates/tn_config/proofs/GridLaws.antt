-- Texts put one after the other.
use Rattle.std.proofs.Common.{◌≡◌, ℕ, suc, ◌+◌, arith, List, [], ◌++◌, sym, ap, ◌∙◌, append_assoc, append-nil}
use Rattle.tn_config.specs.Grids.{texts_of}

-- none is put yet
pub none_put : (f : ℕ → List ℕ) (old : List ℕ) → old ≡ old ++ texts_of f 0
unfolding texts_of
none_put f old = sym (append-nil old)

-- one more is put
pub one_put : (f : ℕ → List ℕ) (k : ℕ) (old before after : List ℕ) → before ≡ old ++ texts_of f k → after ≡ before ++ f k
    → after ≡ old ++ texts_of f (k + 1)
unfolding texts_of
one_put f k old before after e g =
    let next : suc k ≡ k + 1 = omega arith in
    g ∙ (ap (λ xs. xs ++ f k) e ∙ (append_assoc old (texts_of f k) (f k) ∙ ap (λ n. old ++ texts_of f n) next))

-- two pieces are put
pub two_put : (old a b one two : List ℕ) → one ≡ old ++ a → two ≡ one ++ b → two ≡ old ++ (a ++ b)
two_put old a b one two e g = g ∙ (ap (λ xs. xs ++ b) e ∙ append_assoc old a b)

-- three pieces are put onto nothing
pub three_put : (new a b c one two three : List ℕ) → new ≡ [] → one ≡ new ++ a → two ≡ one ++ b → three ≡ two ++ c
    → three ≡ a ++ (b ++ c)
three_put new a b c one two three n e g h =
    h ∙ (ap (λ xs. xs ++ c) (g ∙ ap (λ xs. xs ++ b) (e ∙ ap (λ xs. xs ++ a) n)) ∙ append_assoc a b c)
