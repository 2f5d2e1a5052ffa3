-- One, two and three words behind the word of a command.
use Rattle.std.specs.Prelude.{◌&&◌}
use Rattle.std.proofs.Common.{◌≡◌, true, [], ◌∷◌, Some, codes}
use Rattle.std.specs.List.{list_all}
use Rattle.clap.specs.Words.{App, Text, first_of, matches_of, new_app, takes, with_rule}
use Rattle.clap.proofs.OnLiterals.{clap_on_literals}
use Rattle.tn_words.specs.PlainWords.{is_plain_word}
use Rattle.tn_words.proofs.Options.{required, both, no_minus}

abbrev pub one : App
one = with_rule (new_app (codes "tn")) (required (codes "first"))

abbrev pub two : App
two = with_rule one (required (codes "second"))

abbrev pub three : App
three = with_rule two (required (codes "third"))

pub record OneIsRead (command first : Text) : Type 0 where
  pub first_is : first_of (codes "first") (matches_of one (command ∷ first ∷ [])) ≡ Some first
  pub taken : takes one (command ∷ first ∷ []) ≡ true

pub one_read : (command first : Text) → is_plain_word first ≡ true → OneIsRead command first
unfolding clap_on_literals
one_read command [] h = absurd cc
one_read command (c ∷ cs) h = record { first_is = simp (no_minus c h); taken = simp (no_minus c h) }

pub record TwoAreRead (command first second : Text) : Type 0 where
  pub first_is : first_of (codes "first") (matches_of two (command ∷ first ∷ second ∷ [])) ≡ Some first
  pub second_is : first_of (codes "second") (matches_of two (command ∷ first ∷ second ∷ [])) ≡ Some second
  pub taken : takes two (command ∷ first ∷ second ∷ []) ≡ true

two_plain : (command first second : Text) → is_plain_word first ≡ true → is_plain_word second ≡ true → TwoAreRead command first second
unfolding clap_on_literals
two_plain command [] second h k = absurd cc
two_plain command (c ∷ cs) [] h k = absurd cc
two_plain command (c ∷ cs) (d ∷ ds) h k = record {
  first_is = simp (no_minus c h, no_minus d k);
  second_is = simp (no_minus c h, no_minus d k);
  taken = simp (no_minus c h, no_minus d k);
}

pub two_read : (command first second : Text) → list_all is_plain_word (first ∷ second ∷ []) ≡ true → TwoAreRead command first second
two_read command first second h =
    let tests = both (is_plain_word first) (is_plain_word second && true) h in
    two_plain command first second tests.0 (both (is_plain_word second) true tests.1).0

pub record ThreeAreRead (command first second third : Text) : Type 0 where
  pub first_is : first_of (codes "first") (matches_of three (command ∷ first ∷ second ∷ third ∷ [])) ≡ Some first
  pub second_is : first_of (codes "second") (matches_of three (command ∷ first ∷ second ∷ third ∷ [])) ≡ Some second
  pub third_is : first_of (codes "third") (matches_of three (command ∷ first ∷ second ∷ third ∷ [])) ≡ Some third
  pub taken : takes three (command ∷ first ∷ second ∷ third ∷ []) ≡ true

three_plain : (command first second third : Text) → is_plain_word first ≡ true → is_plain_word second ≡ true → is_plain_word third ≡ true
    → ThreeAreRead command first second third
unfolding clap_on_literals
three_plain command [] second third h k l = absurd cc
three_plain command (c ∷ cs) [] third h k l = absurd cc
three_plain command (c ∷ cs) (d ∷ ds) [] h k l = absurd cc
three_plain command (c ∷ cs) (d ∷ ds) (e ∷ es) h k l = record {
  first_is = simp (no_minus c h, no_minus d k, no_minus e l);
  second_is = simp (no_minus c h, no_minus d k, no_minus e l);
  third_is = simp (no_minus c h, no_minus d k, no_minus e l);
  taken = simp (no_minus c h, no_minus d k, no_minus e l);
}

pub three_read : (command first second third : Text) → list_all is_plain_word (first ∷ second ∷ third ∷ []) ≡ true
    → ThreeAreRead command first second third
three_read command first second third h =
    let tests = both (is_plain_word first) (is_plain_word second && (is_plain_word third && true)) h in
    let others = both (is_plain_word second) (is_plain_word third && true) tests.1 in
    three_plain command first second third tests.0 others.0 (both (is_plain_word third) true others.1).0
