-- What the bytes of a line say of its tokens.
use Rattle.std.proofs.Common.{◌≡◌, ℕ, zero, suc, ◌<◌, Bool, true, false, ◌&&◌, cond, List, [], ◌∷◌, take, filter, All, refl, arith}
use Rattle.std.specs.List.{list_all, slice_split, onto_first, before_first, position_or_len}
use Rattle.std.specs.Str.{IsUtf8}
use Rattle.std.proofs.lemmas.Bool.Decides.{nat_tests}
use Rattle.std.proofs.lemmas.List.Sums.{AllPass-from_list_all}
use Rattle.std.proofs.lemmas.List.Elements.{All-weaker}
use Rattle.std.proofs.lemmas.Str.{IsUtf8-from_ascii}
use Rattle.std.proofs.lemmas.Str.Ascii.{IsAscii-from_all}
use Rattle.tn_text.specs.Lines.{is_line_byte, is_ascii_line, is_blank, begins_comment, is_nonempty, tokens}

-- such bytes are a text
pub IsUtf8-line : (line : List ℕ) → is_ascii_line line ≡ true → IsUtf8 line
unfolding is_ascii_line
IsUtf8-line line h =
    IsUtf8-from_ascii line (IsAscii-from_all line
    (All-weaker (λ c. is_line_byte c ≡ true) (λ c. c < 128) (λ c e. grind (arith, nat_tests)) line
    (AllPass-from_list_all is_line_byte line h)))

both : (a b : Bool) → (a && b) ≡ true → (a ≡ true) × (b ≡ true)
both true b h = (refl, h)
both false b h = absurd cc

-- parts of a list whose elements pass
taken : (p : ℕ → Bool) (k : ℕ) (xs : List ℕ) → list_all p xs ≡ true → list_all p (take k xs) ≡ true
taken p zero xs h = refl
taken p (suc k) [] h = refl
taken p (suc k) (x ∷ xs) h = let b = both (p x) (list_all p xs) h in rw (b.0) (taken p k xs b.1)

split : (p q : ℕ → Bool) (xs : List ℕ) → list_all p xs ≡ true → list_all (list_all p) (slice_split q xs) ≡ true
split p q [] h = refl
split p q (x ∷ xs) h = let b = both (p x) (list_all p xs) h in at (q x) (slice_split q xs) b.0 (split p q xs b.1)
  where
    onto : (parts : List (List ℕ)) → p x ≡ true → list_all (list_all p) parts ≡ true → list_all (list_all p) (onto_first x parts) ≡ true
    onto [] e h = rw e refl
    onto (part ∷ parts) e h = rw e h

    at : (c : Bool) (parts : List (List ℕ)) → p x ≡ true → list_all (list_all p) parts ≡ true
        → list_all (list_all p) (cond c ([] ∷ parts) (onto_first x parts)) ≡ true
    at true parts e h = h
    at false parts e h = onto parts e h

kept : (p q : List ℕ → Bool) (xs : List (List ℕ)) → list_all p xs ≡ true → list_all p (filter q xs) ≡ true
kept p q [] h = refl
kept p q (x ∷ xs) h = let b = both (p x) (list_all p xs) h in at (q x) b.0 (kept p q xs b.1)
  where
    at : (c : Bool) → p x ≡ true → list_all p (filter q xs) ≡ true → list_all p (cond c (x ∷ filter q xs) (filter q xs)) ≡ true
    at true e h = rw e h
    at false e h = h

-- each token of a line has only bytes that may stand in it
pub tokens-bytes : (line : List ℕ) → is_ascii_line line ≡ true → All (λ token. is_ascii_line token ≡ true) (tokens line)
unfolding is_ascii_line tokens
tokens-bytes line h =
    AllPass-from_list_all (list_all is_line_byte) (tokens line)
    (kept (list_all is_line_byte) is_nonempty (slice_split is_blank (before_first begins_comment line))
    (split is_line_byte is_blank (before_first begins_comment line) (taken is_line_byte (position_or_len begins_comment line) line h)))
