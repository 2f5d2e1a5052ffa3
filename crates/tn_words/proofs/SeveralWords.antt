-- A word behind the word of a command, and all others.
use Rattle.std.specs.Prelude.{fold, ◌&&◌, is_some}
use Rattle.std.proofs.Common.{append_assoc, append-nil, sym, length, le-leb, ◌≤◌, arith, refl, codes, true, false, List, Some, None, []}
use Rattle.std.proofs.Common.{◌∷◌, ◌++◌, ◌≡◌, ◌∙◌, ap}
use Rattle.std.specs.List.{list_all}
use Rattle.clap.specs.Lexer.{usize_max}
use Rattle.clap.specs.Walk.{positional, Walk, walked, walk, walk_from, nothing_held, reading_by, finished}
use Rattle.clap.specs.Simple.{built, filled, with_index, entered}
use Rattle.clap.specs.declared.parser.matches.ValueSource.TheVariants.{CommandLine}
use Rattle.clap.specs.Takes.{value_passes, entered_passes, turn_passes, walk_passes, settle_passes, default_passes, is_valid}
use Rattle.clap.specs.Takes.{level_passes, takes}
use Rattle.clap.specs.Words.{App, Shape, Row, Rule, Text, first_of, all_of, matches_of, new_app, with_rule}
use Rattle.clap.proofs.OnLiterals.{clap_on_literals}
use Rattle.tn_words.specs.PlainWords.{is_plain_word}
use Rattle.tn_words.proofs.Options.{required, both, no_minus}

abbrev pub others : Rule
others = record (required (codes "others")) { range = Some (record { start_inclusive = 1; end_inclusive = usize_max }) }

abbrev pub several : App
several = with_rule (with_rule (new_app (codes "tn")) (required (codes "first"))) others

abbrev pub built_rules : List Rule
built_rules = (built several).top.rules

-- where the walk stands behind the first word and some others
abbrev first_row : Text → Row
first_row first = record {
  id = codes "first";
  values = first ∷ [];
  count = None;
  source = Some CommandLine;
  reading = reading_by
      (filled (required (codes "first")));
}

abbrev behind : Text → Text → List Text → Walk
behind first second more = record {
  held = record { rows = first_row first ∷ []; pending = Some (codes "others", second ∷ more); skip = 0 };
  waiting = positional;
  position = 2;
  is_trailing = false;
  stopped = None;
}

start : (first second : Text) → is_plain_word first ≡ true → is_plain_word second ≡ true
    → walked built_rules [] (walked built_rules [] (walk_from nothing_held) first) second ≡ behind first second []
unfolding clap_on_literals
start [] second h k = absurd cc
start (c ∷ cs) [] h k = absurd cc
start (c ∷ cs) (d ∷ ds) h k = simp (no_minus c h, no_minus d k)

one_more : (first second : Text) (more : List Text) (word : Text) → is_plain_word word ≡ true
    → walked built_rules [] (behind first second more) word ≡ behind first second (more ++ word ∷ [])
unfolding clap_on_literals
one_more first second more [] h = absurd cc
one_more first second more (c ∷ cs) h = simp (no_minus c h)

all_more : (first second : Text) (more rest : List Text) → list_all is_plain_word rest ≡ true
    → fold (walked built_rules []) (behind first second more) rest ≡ behind first second (more ++ rest)
all_more first second more [] h = ap (behind first second) (sym (append-nil more))
all_more first second more (word ∷ rest) h =
    let parts = both (is_plain_word word) (list_all is_plain_word rest) h in
    ap (λ w. fold (walked built_rules []) w rest) (one_more first second more word parts.0)
    ∙ (all_more first second (more ++ word ∷ []) rest parts.1 ∙ ap (behind first second) (append_assoc more (word ∷ []) rest))

walk_is : (first second : Text) (rest : List Text) → list_all is_plain_word (first ∷ second ∷ rest) ≡ true
    → walk built_rules [] nothing_held (first ∷ second ∷ rest) ≡ behind first second rest
walk_is first second rest h =
    let one = both (is_plain_word first) (list_all is_plain_word (second ∷ rest)) h in
    let two = both (is_plain_word second) (list_all is_plain_word rest) one.1 in
    ap (λ w. fold (walked built_rules []) w rest) (start first second one.0 two.0) ∙ all_more first second [] rest two.1

rows_are : (command first second : Text) (rest : List Text) → list_all is_plain_word (first ∷ second ∷ rest) ≡ true
    → matches_of several (command ∷ first ∷ second ∷ rest) ≡ finished built_rules (behind first second rest).held
rows_are command first second rest h = ap (λ (w : Walk). finished built_rules w.held) (walk_is first second rest h)

first_row-is : (first second : Text) (rest : List Text)
    → first_of (codes "first") (finished built_rules (behind first second rest).held) ≡ Some first
unfolding clap_on_literals
first_row-is first second rest = refl

others_row-is : (first second : Text) (rest : List Text)
    → all_of (codes "others") (finished built_rules (behind first second rest).held) ≡ Some (second ∷ rest)
unfolding clap_on_literals
others_row-is first second rest = refl

pub first_is : (command first second : Text) (rest : List Text) → list_all is_plain_word (first ∷ second ∷ rest) ≡ true
    → first_of (codes "first") (matches_of several (command ∷ first ∷ second ∷ rest)) ≡ Some first
first_is command first second rest h = ap (first_of (codes "first")) (rows_are command first second rest h) ∙ first_row-is first second rest

pub others_are : (command first second : Text) (rest : List Text) → list_all is_plain_word (first ∷ second ∷ rest) ≡ true
    → all_of (codes "others") (matches_of several (command ∷ first ∷ second ∷ rest)) ≡ Some (second ∷ rest)
others_are command first second rest h = ap (all_of (codes "others")) (rows_are command first second rest h)
    ∙ others_row-is first second rest

-- ---- the words are taken

abbrev pub built_shape : Shape
built_shape = (built several).top

start_passes : (first second : Text) → is_plain_word first ≡ true → is_plain_word second ≡ true
    → (turn_passes built_shape [] (walk_from nothing_held) first && turn_passes built_shape []
    (walked built_rules [] (walk_from nothing_held) first) second) ≡ true
unfolding clap_on_literals
start_passes [] second h k = absurd cc
start_passes (c ∷ cs) [] h k = absurd cc
start_passes (c ∷ cs) (d ∷ ds) h k = simp (no_minus c h, no_minus d k)

one_passes : (first second : Text) (more : List Text) (word : Text) → is_plain_word word ≡ true
    → turn_passes built_shape [] (behind first second more) word ≡ true
unfolding clap_on_literals
one_passes first second more [] h = absurd cc
one_passes first second more (c ∷ cs) h = simp (no_minus c h)

rest_passes : (first second : Text) (more rest : List Text) → list_all is_plain_word rest ≡ true
    → walk_passes built_shape [] (behind first second more) rest ≡ true
unfolding walk_passes
rest_passes first second more [] h = refl
rest_passes first second more (word ∷ rest) h =
    let parts = both (is_plain_word word) (list_all is_plain_word rest) h in
    rw (one_passes first second more word parts.0, one_more first second more word parts.0)
    (rest_passes first second (more ++ word ∷ []) rest parts.1)

abbrev others_built : Rule
others_built = with_index 2 (filled others)

all_pass : (words : List Text) → list_all (value_passes others_built) words ≡ true
all_pass [] = refl
all_pass (word ∷ words) = all_pass words

settles : (first second : Text) (rest : List Text) → length (second ∷ rest) ≤ usize_max
    → (settle_passes built_rules false (behind first second rest).held
    && (list_all default_passes built_rules && is_valid built_shape (finished built_rules (behind first second rest).held) false)) ≡ true
unfolding clap_on_literals
settles first second rest few = simp
    (le-leb 1 (length (second ∷ rest)) (omega arith), le-leb (length (second ∷ rest)) usize_max few, all_pass rest)

level : (first second : Text) (rest : List Text) → list_all is_plain_word (first ∷ second ∷ rest) ≡ true → length
    (second ∷ rest) ≤ usize_max
    → level_passes built_shape [] nothing_held (first ∷ second ∷ rest) false ≡ true
unfolding walk_passes
level first second rest h few =
    let one = both (is_plain_word first) (list_all is_plain_word (second ∷ rest)) h in
    let two = both (is_plain_word second) (list_all is_plain_word rest) one.1 in
    let begun = both (turn_passes built_shape [] (walk_from nothing_held) first) _ (start_passes first second one.0 two.0) in
    rw (begun.0, begun.1, start first second one.0 two.0, rest_passes first second [] rest two.1, walk_is first second rest h)
    (settles first second rest few)

pub taken : (command first second : Text) (rest : List Text) → list_all is_plain_word (first ∷ second ∷ rest) ≡ true
    → length (second ∷ rest) ≤ usize_max → takes several (command ∷ first ∷ second ∷ rest) ≡ true
taken command first second rest h few =
    ap (λ (w : Walk). entered_passes (built several) w.stopped
    && level_passes built_shape [] nothing_held (first ∷ second ∷ rest) (is_some (entered (built several) w.stopped)))
    (walk_is first second rest h)
    ∙ level first second rest h few
