-- The loops that put one thing after the other.
use Rattle.std.proofs.Common.{◌≡◌, ℕ, ◌+◌, ◌≤◌, ◌<◌, List, [], ◌∷◌, ◌++◌, length, get_or, take}
use Rattle.std.proofs.Common.{sym, ap, ◌∙◌, append_assoc}
use Rattle.std.proofs.lemmas.List.{take_more, take_all}

module _ {X Y : Type 0} (whole : List X → List Y) (part : X → List Y)
    (grows : (ys : List X) (y : X) → whole (ys ++ y ∷ []) ≡ whole ys ++ part y)
    (xs : List X) (start held : List Y) (k : ℕ) (so_far : held ≡ start ++ whole (take k xs)) where
  -- one more
  pub put-more : (x : X) (new : List Y) → k < length xs → x ≡ get_or xs k x → new ≡ held ++ part x → new ≡ start ++ whole (take (k + 1) xs)
  put-more x new l x_is new_is =
      let taken : take (k + 1) xs ≡ take k xs ++ x ∷ [] = take_more xs k x l ∙ ap (λ y. take k xs ++ y ∷ []) (sym x_is) in
      new_is ∙ (ap (λ t. t ++ part x) so_far ∙ (append_assoc start (whole (take k xs)) (part x)
      ∙ ap (λ t. start ++ t) (sym (grows (take k xs) x) ∙ ap whole (sym taken))))

  -- all
  pub put-all : length xs ≤ k → held ≡ start ++ whole xs
  put-all past = so_far ∙ ap (λ ys. start ++ whole ys) (take_all k xs past)
