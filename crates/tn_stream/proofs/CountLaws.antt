-- The steps of the nodes so far.
use Rattle.std.proofs.Common.{◌≡◌, ℕ, ◌+◌, ◌<◌, List, [], ◌∷◌, ◌++◌, length, get_or, take, ap, ◌∙◌, arith}
use Rattle.std.specs.Prelude.{sum_by}
use Rattle.std.specs.List.{enumerate_from}
use Rattle.std.proofs.lemmas.List.{take_more, length-take-le}
use Rattle.std.proofs.lemmas.List.Sums.{sum_by_push}

enumerate-push : {X : Type 0} (n : ℕ) (xs : List X) (x : X)
    → enumerate_from n (xs ++ x ∷ []) ≡ enumerate_from n xs ++ (n + length xs, x) ∷ []
enumerate-push n [] x = ap (λ k. (k, x) ∷ []) (omega arith)
enumerate-push n (y ∷ ys) x =
    let at : (n + 1) + length ys ≡ n + length (y ∷ ys) = omega arith in
    ap (λ rest. (n, y) ∷ rest) (enumerate-push (n + 1) ys x ∙ ap (λ k. enumerate_from (n + 1) ys ++ (k, x) ∷ []) at)

-- a sum over numbered elements goes on by the next
pub numbered-more : {X : Type 0} (f : ℕ × X → ℕ) (xs : List X) (k : ℕ) (d : X) → k < length xs
    → sum_by f (enumerate_from 0 (take (k + 1) xs)) ≡ sum_by f (enumerate_from 0 (take k xs)) + f (k, get_or xs k d)
numbered-more f xs k d inside =
    let size = length-take-le k xs (omega arith) in
    let at : 0 + length (take k xs) ≡ k = omega (arith, size) in
    ap (λ ys. sum_by f (enumerate_from 0 ys)) (take_more xs k d inside)
    ∙ (ap (sum_by f) (enumerate-push 0 (take k xs) (get_or xs k d))
    ∙ (ap (λ i. sum_by f (enumerate_from 0 (take k xs) ++ (i, get_or xs k d) ∷ [])) at
    ∙ sum_by_push f (enumerate_from 0 (take k xs)) (k, get_or xs k d)))

pub sum-step : (a b s t r : ℕ) → s ≡ a → r ≡ b → t ≡ a + b → s + r ≡ t
sum-step a b s t r p q u = omega arith
