-- A text by its first line.
use Rattle.std.proofs.Common.{◌≡◌, ℕ, ◌+◌, ◌<◌, Bool, true, false, cond, not, List, [], ◌∷◌, length, take, drop, Some, None, refl, ap}
use Rattle.std.proofs.Common.{◌∙◌, arith}
use Rattle.std.specs.Bool.{◌==◌}
use Rattle.std.specs.List.{All, onto_first, slice_split, position, position_or_len, before_first, after_first}
use Rattle.std.proofs.lemmas.List.Splits.{slice_split_first, slice_split_none}
use Rattle.std.proofs.lemmas.List.Sums.{fails_before_first}
use Rattle.std.proofs.lemmas.Bool.Decides.{nat_tests}
use Rattle.tn_text.specs.Lines.{is_feed}
use Rattle.tn_text.proofs.Cutting.{found_at, found_none}
use Rattle.tn_modtext.specs.Pieces.{pieces_of_parts, pieces}

-- a part at least stands behind a line feed
more_parts : (line text : List ℕ)
    → pieces_of_parts (line ∷ slice_split is_feed text) ≡ (line, true) ∷ pieces_of_parts (slice_split is_feed text)
more_parts line [] = refl
more_parts line (c ∷ cs) = at (is_feed c) (slice_split is_feed cs)
  where
    onto : (parts : List (List ℕ)) → pieces_of_parts (line ∷ onto_first c parts) ≡ (line, true) ∷ pieces_of_parts (onto_first c parts)
    onto [] = refl
    onto (part ∷ parts) = refl

    at : (b : Bool) (parts : List (List ℕ))
        → pieces_of_parts (line ∷ cond b ([] ∷ parts) (onto_first c parts))
        ≡ (line, true) ∷ pieces_of_parts (cond b ([] ∷ parts) (onto_first c parts))
    at true parts = refl
    at false parts = onto parts

-- no line
pub pieces-nothing : pieces [] ≡ []
unfolding pieces
pieces-nothing = refl

pub pieces-empty : (text : List ℕ) → (length text == 0) ≡ true → pieces text ≡ []
pieces-empty [] e = pieces-nothing
pieces-empty (c ∷ cs) e = absurd (grind (arith, nat_tests))

-- the first line, where a line feed ends it
pub pieces-feed : (text : List ℕ) (at : ℕ) → Some at ≡ position is_feed text
    → pieces text ≡ (take at text, true) ∷ pieces (drop (at + 1) text)
unfolding pieces
pieces-feed text at e =
    let here = found_at is_feed text at e in
    let inside : position_or_len is_feed text < length text = rw here.0 here.1 in
    ap pieces_of_parts (slice_split_first is_feed text 0 inside)
    ∙ (more_parts (before_first is_feed text) (after_first is_feed text)
    ∙ ap (λ k. (take k text, true) ∷ pieces (drop (k + 1) text)) here.0)

-- a text without a line feed is one line, unless it is empty
pub pieces-last : (text : List ℕ) → None ≡ position is_feed text → (length text == 0) ≡ false → pieces text ≡ (text, false) ∷ []
unfolding pieces
pieces-last text e some =
    let past = found_none is_feed text e in
    let no_feed : All (λ c. is_feed c ≡ false) text = λ k d h. fails_before_first is_feed text k d (omega arith) in
    ap pieces_of_parts (slice_split_none is_feed text no_feed)
    ∙ ap (λ (b : Bool). cond {A = List (List ℕ × Bool)} (not b) ((text, false) ∷ []) []) some
