-- A text by its first line, and a line by its comment.
use Rattle.std.proofs.Common.{◌≡◌, ℕ, ◌+◌, ◌-◌, ◌<◌, ◌≤◌, Bool, true, false, cond, List, [], ◌∷◌, length, take, drop, take_all, Option}
use Rattle.std.proofs.Common.{Some, None, refl, sym, ap, ◌∙◌, ltb, arith}
use Rattle.std.specs.Bool.{◌==◌}
use Rattle.std.specs.List.{All, onto_first, slice_split, position, position_or_len, before_first, after_first}
use Rattle.std.specs.Str.Lines.{lines, lines_of_parts, strip_carriage_return}
use Rattle.std.proofs.lemmas.Bool.{ltb-true, ltb-false}
use Rattle.std.proofs.lemmas.List.{length-drop}
use Rattle.std.proofs.lemmas.List.Splits.{slice_split_first, slice_split_none}
use Rattle.std.proofs.lemmas.List.Sums.{fails_before_first}
use Rattle.tn_text.specs.Lines.{is_feed}

module _ (p : ℕ → Bool) (xs : List ℕ) where
  -- the first place that passes
  pub found_at : (at : ℕ) → Some at ≡ position p xs → (position_or_len p xs ≡ at) × (at < length xs)
  found_at at e = by (ltb (position_or_len p xs) (length xs)) refl e
    where
      by : (b : Bool) → ltb (position_or_len p xs) (length xs) ≡ b
          → Some at ≡ cond {A = Option ℕ} b (Some (position_or_len p xs)) None → (position_or_len p xs ≡ at) × (at < length xs)
      by true t q =
          let same : position_or_len p xs ≡ at = cc in
          let here : position_or_len p xs < length xs = ltb-true (position_or_len p xs) (length xs) t in
          (same, rw (← same) here)
      by false t q = absurd cc

  -- no place passes
  pub found_none : None ≡ position p xs → length xs ≤ position_or_len p xs
  found_none e = by (ltb (position_or_len p xs) (length xs)) refl e
    where
      by : (b : Bool) → ltb (position_or_len p xs) (length xs) ≡ b
          → None ≡ cond {A = Option ℕ} b (Some (position_or_len p xs)) None → length xs ≤ position_or_len p xs
      by true t q = absurd cc
      by false t q = ltb-false (position_or_len p xs) (length xs) t

  -- what stands before the first that passes
  pub before_found : (at : ℕ) → Some at ≡ position p xs → take at xs ≡ before_first p xs
  before_found at e = ap (λ k. take k xs) (sym (found_at at e).0)

  pub before_none : None ≡ position p xs → xs ≡ before_first p xs
  before_none e = sym (take_all (position_or_len p xs) xs (found_none e))

-- a part at least stands behind a line feed
more_parts : (line : List ℕ) (text : List ℕ)
    → lines_of_parts (line ∷ slice_split is_feed text) ≡ strip_carriage_return line ∷ lines_of_parts (slice_split is_feed text)
more_parts line [] = refl
more_parts line (c ∷ cs) = at (is_feed c) (slice_split is_feed cs)
  where
    onto : (parts : List (List ℕ)) → lines_of_parts (line ∷ onto_first c parts) ≡ strip_carriage_return line ∷ lines_of_parts
        (onto_first c parts)
    onto [] = refl
    onto (part ∷ parts) = refl

    at : (b : Bool) (parts : List (List ℕ)) → lines_of_parts
        (line ∷ cond b ([] ∷ parts) (onto_first c parts)) ≡ strip_carriage_return line ∷ lines_of_parts
        (cond b ([] ∷ parts) (onto_first c parts))
    at true parts = refl
    at false parts = onto parts

-- the lines of a text that has a line feed
pub lines-feed : (text : List ℕ) (at : ℕ) → Some at ≡ position is_feed text
    → lines text ≡ strip_carriage_return (take at text) ∷ lines (drop (at + 1) text)
lines-feed text at e =
    let here = found_at is_feed text at e in
    let inside : position_or_len is_feed text < length text = rw here.0 here.1 in
    ap lines_of_parts (slice_split_first is_feed text 0 inside)
    ∙ (more_parts (before_first is_feed text) (after_first is_feed text)
    ∙ ap (λ k. strip_carriage_return (take k text) ∷ lines (drop (k + 1) text)) here.0)

-- a text without a line feed is one line, unless it is empty
pub lines-last : (text : List ℕ) → None ≡ position is_feed text → (length text == 0) ≡ false → lines text ≡ text ∷ []
lines-last text e some =
    let past = found_none is_feed text e in
    let no_feed : All (λ c. is_feed c ≡ false) text = λ k d h. fails_before_first is_feed text k d (omega arith) in
    ap lines_of_parts (slice_split_none is_feed text no_feed) ∙ ap (λ (b : Bool). cond {A = List (List ℕ)} b [] (text ∷ [])) some

-- a range to the end
pub drop_to_end : (n : ℕ) (xs : List ℕ) → take (length xs - n) (drop n xs) ≡ drop n xs
drop_to_end n xs = take_all (length xs - n) (drop n xs) (omega (arith, length-drop n xs))
