-- A text has bytes enough for what its lines say.
use Rattle.std.proofs.Common.{◌≡◌, ℕ, ◌+◌, ◌≤◌, ◌-◌, Bool, true, false, cond, List, [], ◌∷◌, length, take, filter, Option, Some, None}
use Rattle.std.proofs.Common.{ap, ◌∙◌, arith, length-append, length-take}
use Rattle.std.specs.Bool.{◌==◌}
use Rattle.std.specs.List.{cons_option, slice_split, onto_first, before_first, position_or_len}
use Rattle.std.specs.Str.Lines.{lines, lines_of_parts, strip_carriage_return}
use Rattle.std.specs.Prelude.{slice_index}
use Rattle.std.proofs.lemmas.List.{length-map}
use Rattle.tn_text.specs.Lines.{is_blank, is_feed, begins_comment, is_nonempty, tokens}
use Rattle.tn_asm.specs.declared.statements.Section.{Section}
use Rattle.tn_asm.specs.declared.statements.Statement.{Statement}
use Rattle.tn_asm.specs.Labels.{label_of}
use Rattle.tn_asm.specs.Sources.{FirstSays, WordsSay, LinesSay, section_behind, at_line, numbered, parts_in, values_in}

-- the bytes of parts
abbrev pub total : List (List ℕ) → ℕ
total [] = 0
total (x ∷ xs) = length x + total xs

-- ---- the parts of a list have no more than the list

total-onto : (c : ℕ) (parts : List (List ℕ)) → total (onto_first c parts) ≤ 1 + total parts
total-onto c [] = omega arith
total-onto c (part ∷ parts) = omega arith

total-split : (p : ℕ → Bool) (xs : List ℕ) → total (slice_split p xs) ≤ length xs
total-split p [] = omega arith
total-split p (x ∷ xs) = at (p x) (total-split p xs) (total-onto x (slice_split p xs))
  where
    at : (b : Bool) → total (slice_split p xs) ≤ length xs → total (onto_first x (slice_split p xs)) ≤ 1 + total (slice_split p xs)
        → total (cond b ([] ∷ slice_split p xs) (onto_first x (slice_split p xs))) ≤ length (x ∷ xs)
    at true h k = omega (arith, h)
    at false h k = omega (arith, h, k)

length-strip : (line : List ℕ) → length (strip_carriage_return line) ≤ length line
length-strip line = at (slice_index line (length line - 1) == 13)
  where
    at : (b : Bool) → length (cond b (take (length line - 1) line) line) ≤ length line
    at true = omega (arith, length-take (length line - 1) line)
    at false = omega arith

total-lines : (parts : List (List ℕ)) → total (lines_of_parts parts) ≤ total parts
total-lines [] = omega arith
total-lines (x ∷ []) = at (length x == 0)
  where
    at : (b : Bool) → total (cond b [] (x ∷ [])) ≤ total (x ∷ [])
    at true = omega arith
    at false = omega arith
total-lines (x ∷ y ∷ more) = omega (arith, length-strip x, total-lines (y ∷ more))

pub total-text : (text : List ℕ) → total (lines text) ≤ length text
total-text text = omega (arith, total-lines (slice_split is_feed text), total-split is_feed text)

-- ---- a line has a byte for each token

module _ (x : ℕ) where
  kept-onto : (parts : List (List ℕ)) → length (filter is_nonempty (onto_first x parts)) ≤ 1 + length (filter is_nonempty parts)
  kept-onto [] = omega arith
  kept-onto (part ∷ parts) = at (is_nonempty (x ∷ part)) (is_nonempty part)
    where
      at : (a b : Bool) → length (cond a ((x ∷ part) ∷ filter is_nonempty parts) (filter is_nonempty parts))
          ≤ 1 + length (cond b (part ∷ filter is_nonempty parts) (filter is_nonempty parts))
      at true true = omega arith
      at true false = omega arith
      at false true = omega arith
      at false false = omega arith

kept-split : (p : ℕ → Bool) (xs : List ℕ) → length (filter is_nonempty (slice_split p xs)) ≤ length xs
kept-split p [] = omega arith
kept-split p (x ∷ xs) = at (p x) (kept-split p xs) (kept-onto x (slice_split p xs))
  where
    at : (b : Bool) → length (filter is_nonempty (slice_split p xs)) ≤ length xs
        → length (filter is_nonempty (onto_first x (slice_split p xs))) ≤ 1 + length (filter is_nonempty (slice_split p xs))
        → length (filter is_nonempty (cond b ([] ∷ slice_split p xs) (onto_first x (slice_split p xs)))) ≤ length (x ∷ xs)
    at true h k = omega (arith, h)
    at false h k = omega (arith, h, k)

length-tokens : (line : List ℕ) → length (tokens line) ≤ length line
unfolding tokens
length-tokens line =
    omega (arith, kept-split is_blank (before_first begins_comment line), length-take (position_or_len begins_comment line) line)

-- ---- a line says no more than it has tokens

first_count : (s : Section) (label : Option (List ℕ)) (word : List ℕ) (args : List (List ℕ)) (here : List Statement)
    → FirstSays s label word args here → length here ≤ length (word ∷ args)
first_count s None word args here says = rw (says.2) (omega arith)
first_count s (Some label) word [] here says = rw (says.2) (omega arith)
first_count s (Some label) word (next ∷ args) here says = rw (says.4) (omega arith)

words_count : (s : Section) (words : List (List ℕ)) (here : List Statement) → WordsSay s words here → length here ≤ length words
unfolding WordsSay
words_count s [] here says = rw says (omega arith)
words_count s (word ∷ args) here says = first_count s (label_of word) word args here says

pub lines_count : (ls : List (List ℕ)) (s : Section) (n : ℕ) (said : List (ℕ × Statement)) → LinesSay s n ls said
    → length said ≤ total ls
unfolding LinesSay
lines_count [] s n said e = rw e (omega arith)
lines_count (line ∷ ls) s n said (here, below, says, more, is) =
    let rest = lines_count ls (section_behind s (at_line (n + 1) here)) (n + 1) below more in
    let front : length here ≤ length (tokens line) = words_count s (tokens line) here says.1 in
    let joined : length said ≡ length (at_line (n + 1) here) + length below =
    ap length is ∙ length-append (at_line (n + 1) here) below in
    let numbered_count : length (at_line (n + 1) here) ≡ length here = length-map here (λ x. (n + 1, x)) in
    omega (arith, rest, front, length-tokens line, joined, numbered_count)

-- a filter keeps no more than there is
pub values_count : {X : Type 0} (part : Statement → Option X) (said : List (ℕ × Statement)) → length (values_in part said) ≤ length said
values_count {X} part said = omega (arith, length-map (parts_in part said) (λ (p : ℕ × X). p.1), kept said)
  where
    kept : (xs : List (ℕ × Statement)) → length (parts_in part xs) ≤ length xs
    kept [] = omega arith
    kept (x ∷ xs) = at (numbered part x) (kept xs)
      where
        at : (o : Option (ℕ × X)) → length (parts_in part xs) ≤ length xs → length (cons_option o (parts_in part xs)) ≤ length (x ∷ xs)
        at None h = omega (arith, h)
        at (Some p) h = omega (arith, h)
