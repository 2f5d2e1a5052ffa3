-- The tokens of a line that is read have only bytes that may stand in a line.
use Rattle.std.proofs.Common.{◌≡◌, ℕ, Bool, true, false, Bor, List, [], ◌∷◌, map, Result, Ok, Err, IsTrue, All, refl, sym, ◌∙◌, subst}
use Rattle.std.specs.List.{AllByRecursion}
use Rattle.std.proofs.lemmas.List.Elements.{All-from_recursion, recursion_from_All}
use Rattle.tn_text.specs.declared.faults.Cause.{Cause}
use Rattle.tn_text.specs.declared.faults.FaultCode.TheVariants.{NotAscii}
use Rattle.tn_text.specs.Faults.{bare}
use Rattle.tn_text.specs.Lines.{is_ascii_line, tokens}
use Rattle.tn_text.specs.Reading.{placed, line_tokens}
use Rattle.tn_text.proofs.LineBytes.{tokens-bytes}

-- what an answer is, of a line that is read or refused
ok_same : (n : ℕ) (r : Result (List (List ℕ)) Cause) (a b : List (List ℕ)) → Ok a ≡ placed n r → r ≡ Ok b → b ≡ a
ok_same n (Ok c) a b e f = let one : a ≡ c = cc in let two : c ≡ b = cc in sym two ∙ sym one
ok_same n (Err cause) a b e f = absurd cc

ok_not : (n : ℕ) (r : Result (List (List ℕ)) Cause) (a : List (List ℕ)) (cause : Cause) → Ok a ≡ placed n r → r ≡ Err cause → ⊥
ok_not n (Ok c) a cause e f = cc
ok_not n (Err d) a cause e f = cc

read_as : (line : List ℕ) → is_ascii_line line ≡ true → line_tokens line ≡ Ok (tokens line)
unfolding line_tokens
read_as line e = rw e refl

not_read : (line : List ℕ) → is_ascii_line line ≡ false → line_tokens line ≡ Err (bare NotAscii)
unfolding line_tokens
not_read line e = rw e refl

all_words : (words : List (Bor (List ℕ))) → AllByRecursion (λ t. is_ascii_line t ≡ true) (map (λ w. w.now) words)
    → AllByRecursion (λ w. IsTrue (is_ascii_line w.now)) words
all_words [] h = tt
all_words (w ∷ words) (h, hs) = (h, all_words words hs)

pub words_ascii : (n : ℕ) (line : List ℕ) (words : List (Bor (List ℕ))) → Ok (map (λ w. w.now) words) ≡ placed n (line_tokens line)
    → All (λ w. IsTrue (is_ascii_line w.now)) words
words_ascii n line words e = at (is_ascii_line line) refl e
  where
    given : is_ascii_line line ≡ true → tokens line ≡ map (λ w. w.now) words → All (λ w. IsTrue (is_ascii_line w.now)) words
    given ascii are =
        All-from_recursion (λ w. IsTrue (is_ascii_line w.now)) words
        (all_words words (recursion_from_All (λ t. is_ascii_line t ≡ true) (map (λ w. w.now) words)
        (subst (All (λ t. is_ascii_line t ≡ true)) are (tokens-bytes line ascii))))

    at : (b : Bool) → is_ascii_line line ≡ b → Ok (map (λ w. w.now) words) ≡ placed n (line_tokens line)
        → All (λ w. IsTrue (is_ascii_line w.now)) words
    at true b e = given b (ok_same n (line_tokens line) (map (λ w. w.now) words) (tokens line) e (read_as line b))
    at false b e = absurd (ok_not n (line_tokens line) (map (λ w. w.now) words) (bare NotAscii) e (not_read line b))
