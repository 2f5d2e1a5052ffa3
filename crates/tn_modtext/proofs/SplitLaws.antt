-- The lines of a text and the tokens of a line, put together and cut.
use Rattle.std.proofs.Common.{◌≡◌, ℕ, ◌<◌, Bool, true, false, ◌&&◌, cond, not, List, [], ◌∷◌, ◌++◌, length, map, get_or, Result, Ok, Err}
use Rattle.std.proofs.Common.{refl, sym, ap}
use Rattle.std.proofs.Common.{◌∙◌, arith, append_assoc, append-nil}
use Rattle.std.specs.Bool.{◌==◌}
use Rattle.std.specs.List.{All, list_all, slice_split, flat_map, join_with_byte}
use Rattle.std.proofs.lemmas.Bool.Decides.{nat_tests}
use Rattle.std.proofs.lemmas.List.Splits.{slice_split_none, slice_split_at, join_with_byte-slice_split, length-slice_split}
use Rattle.std.proofs.lemmas.List.Sums.{AllPass-from_list_all}
use Rattle.tn_text.specs.declared.faults.Cause.{Cause}
use Rattle.tn_text.specs.declared.faults.FaultCode.TheVariants.{NotAscii, BadLine}
use Rattle.tn_text.specs.Faults.{bare}
use Rattle.tn_text.specs.Lines.{is_feed, is_nonempty}
use Rattle.tn_modtext.specs.Lines.{ended}
use Rattle.tn_modtext.specs.Pieces.{pieces_of_parts, pieces, is_strict_byte, is_strict_line, is_space, strict_tokens}

pub both : (a b : Bool) → (a && b) ≡ true → (a ≡ true) × (b ≡ true)
both true b h = (refl, h)
both false b h = absurd cc

pub list_all-append : {X : Type 0} (p : X → Bool) (xs ys : List X) → list_all p xs ≡ true → list_all p ys ≡ true
    → list_all p (xs ++ ys) ≡ true
list_all-append p [] ys h k = k
list_all-append p (x ∷ xs) ys h k =
    let parts = both (p x) (list_all p xs) h in rw (parts.0, list_all-append p xs ys parts.1 k) refl

pub list_all-weaker : {X : Type 0} (p q : X → Bool) → ((x : X) → p x ≡ true → q x ≡ true) → (xs : List X) → list_all p xs ≡ true
    → list_all q xs ≡ true
list_all-weaker p q more [] h = refl
list_all-weaker p q more (x ∷ xs) h =
    let parts = both (p x) (list_all p xs) h in rw (more x parts.0, list_all-weaker p q more xs parts.1) refl

pub nonempty-cons : (c : ℕ) (cs : List ℕ) → is_nonempty (c ∷ cs) ≡ true
nonempty-cons c cs = let some : (length (c ∷ cs) == 0) ≡ false = grind (arith, nat_tests) in ap not some

-- ---- tokens

-- a byte of a token, and a token: graphic characters, one at least
unfoldable pub is_token_byte : ℕ → Bool
is_token_byte c = is_strict_byte c && not (is_space c)

abbrev pub is_token : List ℕ → Bool
is_token word = is_nonempty word && list_all is_token_byte word

token_byte : (c : ℕ) → is_token_byte c ≡ true → is_strict_byte c ≡ true
unfolding is_token_byte
token_byte c h = (both (is_strict_byte c) (not (is_space c)) h).0

token_blank : (c : ℕ) → is_token_byte c ≡ true → is_space c ≡ false
unfolding is_token_byte
token_blank c h = at (is_space c) (both (is_strict_byte c) (not (is_space c)) h).1
  where
    at : (b : Bool) → not b ≡ true → b ≡ false
    at true e = absurd cc
    at false e = refl

no_blank : (word : List ℕ) → list_all is_token_byte word ≡ true → All (λ c. is_space c ≡ false) word
no_blank word h = λ k d k_lt. token_blank (get_or word k d) (AllPass-from_list_all is_token_byte word h k d k_lt)

-- tokens one blank apart are cut into the tokens
cut_tokens : (word : List ℕ) (words : List (List ℕ)) → list_all is_token (word ∷ words) ≡ true
    → slice_split is_space (join_with_byte 32 (word ∷ words)) ≡ word ∷ words
cut_tokens word [] h =
    let first = both (is_token word) true h in
    slice_split_none is_space word (no_blank word (both (is_nonempty word) (list_all is_token_byte word) first.0).1)
cut_tokens word (next ∷ words) h =
    let first = both (is_token word) (list_all is_token (next ∷ words)) h in
    slice_split_at is_space word 32 (join_with_byte 32 (next ∷ words))
    (no_blank word (both (is_nonempty word) (list_all is_token_byte word) first.0).1) refl
    ∙ ap (λ ws. word ∷ ws) (cut_tokens next words first.1)

strict_word : (word : List ℕ) → is_token word ≡ true → list_all is_strict_byte word ≡ true
strict_word word h =
    list_all-weaker is_token_byte is_strict_byte token_byte word (both (is_nonempty word) (list_all is_token_byte word) h).1

pub strict_words : (words : List (List ℕ)) → list_all is_token words ≡ true → list_all is_strict_byte (join_with_byte 32 words) ≡ true
strict_words [] h = refl
strict_words (word ∷ []) h = strict_word word (both (is_token word) true h).0
strict_words (word ∷ next ∷ words) h =
    let first = both (is_token word) (list_all is_token (next ∷ words)) h in
    let rest : list_all is_strict_byte (32 ∷ join_with_byte 32 (next ∷ words)) ≡ true = strict_words (next ∷ words) first.1 in
    list_all-append is_strict_byte word (32 ∷ join_with_byte 32 (next ∷ words)) (strict_word word first.0) rest

nonempty_words : (words : List (List ℕ)) → list_all is_token words ≡ true → list_all is_nonempty words ≡ true
nonempty_words words h =
    list_all-weaker is_token is_nonempty (λ word t. (both (is_nonempty word) (list_all is_token_byte word) t).0) words h

-- a line of tokens one blank apart gives them
pub tokens-only : (word : List ℕ) (words : List (List ℕ)) → list_all is_token (word ∷ words) ≡ true
    → strict_tokens (join_with_byte 32 (word ∷ words), true) ≡ Ok (word ∷ words)
unfolding strict_tokens is_strict_line
tokens-only word words h =
    rw (strict_words (word ∷ words) h, cut_tokens word words h, nonempty_words (word ∷ words) h) refl

pub record HasTokens (piece : List ℕ × Bool) (words : List (List ℕ)) : Type 0 where
  pub text : join_with_byte 32 words ≡ piece.0
  pub ended : piece.1 ≡ true

-- a line with these tokens is they, one blank apart
pub tokens-found : (piece : List ℕ × Bool) (words : List (List ℕ)) → strict_tokens piece ≡ Ok words → HasTokens piece words
unfolding strict_tokens
tokens-found piece words e = at (is_strict_line piece.0) (piece.1 && list_all is_nonempty (slice_split is_space piece.0)) refl e
  where
    at : (a b : Bool) → (piece.1 && list_all is_nonempty (slice_split is_space piece.0)) ≡ b
        → cond {A = Result (List (List ℕ)) Cause} a (cond b (Ok (slice_split is_space piece.0)) (Err (bare BadLine))) (Err (bare NotAscii))
        ≡ Ok words → HasTokens piece words
    at true true is q =
        let same : slice_split is_space piece.0 ≡ words = cc in
        record {
          text = ap (join_with_byte 32) (sym same) ∙ join_with_byte-slice_split 32 piece.0;
          ended = (both (piece.1) (list_all is_nonempty (slice_split is_space piece.0)) is).0;
        }
    at true false is q = absurd cc
    at false b is q = absurd cc

-- ---- lines

-- what stands between line feeds, put together
abbrev pub put_together : List (List ℕ × Bool) → List ℕ
put_together ps = flat_map (λ p. p.0 ++ cond p.1 (10 ∷ []) []) ps

parts_together : (parts : List (List ℕ)) → put_together (pieces_of_parts parts) ≡ join_with_byte 10 parts
parts_together [] = refl
parts_together (part ∷ []) = at part
  where
    at : (p : List ℕ) → put_together (cond (is_nonempty p) ((p, false) ∷ []) []) ≡ p
    at [] = refl
    at (c ∷ cs) =
        ap (λ b. put_together (cond {A = List (List ℕ × Bool)} b ((c ∷ cs, false) ∷ []) [])) (nonempty-cons c cs)
        ∙ (append-nil ((c ∷ cs) ++ []) ∙ append-nil (c ∷ cs))
parts_together (part ∷ next ∷ parts) =
    append_assoc part (10 ∷ []) (put_together (pieces_of_parts (next ∷ parts)))
    ∙ ap (λ rest. part ++ 10 ∷ rest) (parts_together (next ∷ parts))

-- the lines of a text, put together, are the text
pub pieces-together : (text : List ℕ) → put_together (pieces text) ≡ text
unfolding pieces
pieces-together text = parts_together (slice_split is_feed text) ∙ join_with_byte-slice_split 10 text

-- lines with line feeds behind them, put together
pub together-ended : (texts : List (List ℕ)) → put_together (map (λ t. (t, true)) texts) ≡ flat_map ended texts
together-ended [] = refl
together-ended (t ∷ ts) = ap (λ rest. ended t ++ rest) (together-ended ts)

-- no line feed stands in a line
strict_feed : (line : List ℕ) → list_all is_strict_byte line ≡ true → All (λ c. is_feed c ≡ false) line
strict_feed line h = λ k d k_lt. byte (get_or line k d) (AllPass-from_list_all is_strict_byte line h k d k_lt)
  where
    byte : (c : ℕ) → is_strict_byte c ≡ true → is_feed c ≡ false
    byte c e = grind (arith, nat_tests)

parts_ended : (line : List ℕ) (parts : List (List ℕ)) → 0 < length parts
    → pieces_of_parts (line ∷ parts) ≡ (line, true) ∷ pieces_of_parts parts
parts_ended line [] some = absurd (omega arith)
parts_ended line (part ∷ parts) some = refl

some_parts : (text : List ℕ) → 0 < length (slice_split is_feed text)
some_parts text = omega (arith, length-slice_split is_feed text)

-- the lines of lines with line feeds behind them are these lines
pub pieces-ended : (texts : List (List ℕ)) → list_all (list_all is_strict_byte) texts ≡ true
    → pieces (flat_map ended texts) ≡ map (λ t. (t, true)) texts
unfolding pieces
pieces-ended [] h = refl
pieces-ended (t ∷ ts) h =
    let parts = both (list_all is_strict_byte t) (list_all (list_all is_strict_byte) ts) h in
    ap (λ text. pieces_of_parts (slice_split is_feed text)) (append_assoc t (10 ∷ []) (flat_map ended ts))
    ∙ (ap pieces_of_parts (slice_split_at is_feed t 10 (flat_map ended ts) (strict_feed t parts.0) refl)
    ∙ (parts_ended t (slice_split is_feed (flat_map ended ts)) (some_parts (flat_map ended ts))
    ∙ ap (λ rest. (t, true) ∷ rest) (pieces-ended ts parts.1)))
