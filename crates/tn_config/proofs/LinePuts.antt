-- Lines of one kind, put one after the other.
use Rattle.std.proofs.Common.{◌≡◌, ℕ, ◌+◌, ◌<◌, ◌≤◌, List, [], ◌∷◌, ◌++◌, length, get_or, take, map, sym, ap, ◌∙◌, append_assoc, append-nil}
use Rattle.std.specs.List.{flat_map}
use Rattle.std.proofs.lemmas.List.{take_all, take_more}

module _ {X Y Z : Type 0} (spell : Z → List ℕ) (line : Y → Z) (value : X → Y) where
  abbrev lines : List X → List ℕ
  lines xs = flat_map spell (map line (map value xs))

  lines-more : (xs : List X) (x : X) → lines (xs ++ x ∷ []) ≡ lines xs ++ spell (line (value x))
  lines-more [] x = append-nil (spell (line (value x)))
  lines-more (y ∷ ys) x =
      ap (λ l. spell (line (value y)) ++ l) (lines-more ys x)
      ∙ sym (append_assoc (spell (line (value y))) (lines ys) (spell (line (value x))))

  -- a line more is put
  pub line_put : (xs : List X) (i : ℕ) (x : X) (old before after : List ℕ) → i < length xs → before ≡ old ++ lines (take i xs)
      → after ≡ before ++ spell (line (value (get_or xs i x))) → after ≡ old ++ lines (take (i + 1) xs)
  line_put xs i x old before after within e g =
      g ∙ ap (λ l. l ++ spell (line (value (get_or xs i x)))) e
      ∙ append_assoc old (lines (take i xs)) (spell (line (value (get_or xs i x))))
      ∙ ap (λ l. old ++ l) (sym (ap lines (take_more xs i x within) ∙ lines-more (take i xs) (get_or xs i x)))

  -- all lines are put
  pub lines_put : (xs : List X) (i : ℕ) (old new : List ℕ) → length xs ≤ i → new ≡ old ++ lines (take i xs) → new ≡ old ++ lines xs
  lines_put xs i old new past e = e ∙ ap (λ l. old ++ lines l) (take_all i xs past)
