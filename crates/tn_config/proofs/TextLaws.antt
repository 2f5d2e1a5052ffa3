-- Tokens with blanks between them, and lines with line feeds behind them, are cut into themselves.
use Rattle.std.proofs.Common.{◌≡◌, ℕ, ◌-◌, ◌<◌, Bool, true, false, ◌&&◌, not, List, [], ◌∷◌, ◌++◌, length, get_or, take_all}
use Rattle.std.proofs.Common.{refl, ap, ◌∙◌, arith, append_assoc, append-nil, All}
use Rattle.std.specs.Prelude.{codes, slice_index}
use Rattle.std.specs.Bool.{◌==◌}
use Rattle.std.specs.List.{list_all, slice_split, flat_map, filter, before_first, position_or_len}
use Rattle.std.specs.Str.Lines.{lines, lines_of_parts, strip_carriage_return}
use Rattle.std.proofs.lemmas.Bool.Decides.{nat_tests}
use Rattle.std.proofs.lemmas.List.Folds.{list_all-append}
use Rattle.std.proofs.lemmas.List.Splits.{slice_split_none, slice_split_at, length-slice_split}
use Rattle.std.proofs.lemmas.List.Sums.{AllPass-from_list_all, position_or_len_is}
use Rattle.tn_text.specs.Lines.{is_line_byte, is_ascii_line, is_feed, is_blank, begins_comment, is_nonempty, tokens}
use Rattle.tn_text.specs.WordTexts.{spaced}
use Rattle.tn_config.specs.Writable.{is_token_byte}

pub both : (a b : Bool) → (a && b) ≡ true → (a ≡ true) × (b ≡ true)
both true b h = (refl, h)
both false b h = absurd cc

pub list_all-weaker : {X : Type 0} (p q : X → Bool) → ((x : X) → p x ≡ true → q x ≡ true) → (xs : List X) → list_all p xs ≡ true
    → list_all q xs ≡ true
list_all-weaker p q more [] h = refl
list_all-weaker p q more (x ∷ xs) h =
    let parts = both (p x) (list_all p xs) h in rw (more x parts.0, list_all-weaker p q more xs parts.1) refl

-- a byte of a line without a comment
abbrev pub is_plain_byte : ℕ → Bool
is_plain_byte c = is_line_byte c && not (c == 59)

-- a token: some bytes of one
abbrev pub is_token : List ℕ → Bool
is_token word = is_nonempty word && list_all is_token_byte word

token_plain : (c : ℕ) → is_token_byte c ≡ true → is_plain_byte c ≡ true
token_plain c h = grind (arith, nat_tests)

token_blank : (c : ℕ) → is_token_byte c ≡ true → is_blank c ≡ false
token_blank c h = grind (arith, nat_tests)

plain_line : (c : ℕ) → is_plain_byte c ≡ true → is_line_byte c ≡ true
plain_line c h = (both (is_line_byte c) (not (c == 59)) h).0

plain_comment : (c : ℕ) → is_plain_byte c ≡ true → begins_comment c ≡ false
plain_comment c h = grind (arith, nat_tests)

plain_feed : (c : ℕ) → is_plain_byte c ≡ true → is_feed c ≡ false
plain_feed c h = grind (arith, nat_tests)

plain_return : (c : ℕ) → is_plain_byte c ≡ true → (c == 13) ≡ false
plain_return c h = grind (arith, nat_tests)

-- ---- tokens

no_blank : (word : List ℕ) → is_token word ≡ true → All (λ c. is_blank c ≡ false) word
no_blank word h =
    λ k d k_lt. token_blank (get_or word k d)
    (AllPass-from_list_all is_token_byte word (both (is_nonempty word) (list_all is_token_byte word) h).1 k d k_lt)

cut_tokens : (word : List ℕ) (words : List (List ℕ)) → list_all is_token (word ∷ words) ≡ true
    → slice_split is_blank (word ++ flat_map spaced words) ≡ word ∷ words
unfolding spaced
cut_tokens word [] h =
    ap (slice_split is_blank) (append-nil word) ∙ slice_split_none is_blank word (no_blank word (both (is_token word) true h).0)
cut_tokens word (next ∷ words) h =
    let first = both (is_token word) (list_all is_token (next ∷ words)) h in
    slice_split_at is_blank word 32 (next ++ flat_map spaced words) (no_blank word first.0) refl
    ∙ ap (λ ws. word ∷ ws) (cut_tokens next words first.1)

plain_token : (word : List ℕ) → is_token word ≡ true → list_all is_plain_byte word ≡ true
plain_token word h =
    list_all-weaker is_token_byte is_plain_byte token_plain word (both (is_nonempty word) (list_all is_token_byte word) h).1

plain_spaced : (words : List (List ℕ)) → list_all is_token words ≡ true → list_all is_plain_byte (flat_map spaced words) ≡ true
unfolding spaced
plain_spaced [] h = refl
plain_spaced (word ∷ words) h =
    let first = both (is_token word) (list_all is_token words) h in
    list_all-append is_plain_byte word (flat_map spaced words) ∙ rw (plain_token word first.0, plain_spaced words first.1) refl

-- such a line has no comment
pub plain_words : (word : List ℕ) (words : List (List ℕ)) → list_all is_token (word ∷ words) ≡ true
    → list_all is_plain_byte (word ++ flat_map spaced words) ≡ true
plain_words word words h =
    let first = both (is_token word) (list_all is_token words) h in
    list_all-append is_plain_byte word (flat_map spaced words) ∙ rw (plain_token word first.0, plain_spaced words first.1) refl

pub plain_ascii : (line : List ℕ) → list_all is_plain_byte line ≡ true → is_ascii_line line ≡ true
unfolding is_ascii_line
plain_ascii line h = list_all-weaker is_plain_byte is_line_byte plain_line line h

no_comment : (line : List ℕ) → list_all is_plain_byte line ≡ true → before_first begins_comment line ≡ line
no_comment line h =
    let whole : position_or_len begins_comment line ≡ length line =
    position_or_len_is begins_comment line (length line) 0 (omega arith)
    (λ k k_lt. plain_comment (get_or line k 0) (AllPass-from_list_all is_plain_byte line h k 0 k_lt)) (λ past. absurd (omega arith)) in
    take_all (position_or_len begins_comment line) line (omega arith)

keep_all : (words : List (List ℕ)) → list_all is_token words ≡ true → filter is_nonempty words ≡ words
keep_all [] h = refl
keep_all (word ∷ words) h =
    let first = both (is_token word) (list_all is_token words) h in
    let some : is_nonempty word ≡ true = (both (is_nonempty word) (list_all is_token_byte word) first.0).0 in
    rw (some, keep_all words first.1) refl

-- a line of tokens one blank apart has them
pub tokens-spaced : (word : List ℕ) (words : List (List ℕ)) → list_all is_token (word ∷ words) ≡ true
    → tokens (word ++ flat_map spaced words) ≡ word ∷ words
unfolding tokens
tokens-spaced word words h =
    ap (λ text. filter is_nonempty (slice_split is_blank text)) (no_comment (word ++ flat_map spaced words) (plain_words word words h))
    ∙ (ap (filter is_nonempty) (cut_tokens word words h) ∙ keep_all (word ∷ words) h)

-- ---- lines

strip_plain : (line : List ℕ) → list_all is_plain_byte line ≡ true → strip_carriage_return line ≡ line
strip_plain [] h = refl
strip_plain (c ∷ cs) h =
    let last : (slice_index (c ∷ cs) (length (c ∷ cs) - 1) == 13) ≡ false =
    plain_return (get_or (c ∷ cs) (length (c ∷ cs) - 1) 0)
    (AllPass-from_list_all is_plain_byte (c ∷ cs) h (length (c ∷ cs) - 1) 0 (omega arith)) in
    rw last refl

no_feed : (line : List ℕ) → list_all is_plain_byte line ≡ true → All (λ c. is_feed c ≡ false) line
no_feed line h = λ k d k_lt. plain_feed (get_or line k d) (AllPass-from_list_all is_plain_byte line h k d k_lt)

parts_ended : (line : List ℕ) (parts : List (List ℕ)) → 0 < length parts
    → lines_of_parts (line ∷ parts) ≡ strip_carriage_return line ∷ lines_of_parts parts
parts_ended line [] some = absurd (omega arith)
parts_ended line (part ∷ parts) some = refl

-- the lines of lines with line feeds behind them are these lines
pub lines-ended : (ls : List (List ℕ)) → list_all (list_all is_plain_byte) ls ≡ true → lines (flat_map (λ line. line ++ codes "\n") ls) ≡ ls
lines-ended [] h = refl
lines-ended (line ∷ ls) h =
    let rest : List ℕ = flat_map (λ line. line ++ codes "\n") ls in
    let parts = both (list_all is_plain_byte line) (list_all (list_all is_plain_byte) ls) h in
    let some : 0 < length (slice_split is_feed rest) = omega (arith, length-slice_split is_feed rest) in
    ap lines (append_assoc line (codes "\n") rest)
    ∙ (ap lines_of_parts (slice_split_at is_feed line 10 rest (no_feed line parts.0) refl)
    ∙ (parts_ended line (slice_split is_feed rest) some
    ∙ (ap (λ l. l ∷ lines rest) (strip_plain line parts.0) ∙ ap (λ rest. line ∷ rest) (lines-ended ls parts.1))))
