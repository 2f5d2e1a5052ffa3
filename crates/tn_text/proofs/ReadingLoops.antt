-- The loop that reads a text line by line.
use Rattle.std.proofs.Common.{◌≡◌, ℕ, ◌+◌, true, false, List, [], ◌∷◌, length, map, Result, Ok, Err, refl, sym, ap, ◌∙◌, arith}
use Rattle.std.specs.Bool.{◌==◌}
use Rattle.std.proofs.lemmas.Bool.Decides.{nat_tests}
use Rattle.std.proofs.lemmas.List.{length-map}
use Rattle.std.specs.Str.Lines.{lines}
use Rattle.tn_text.specs.declared.faults.Cause.{Cause}
use Rattle.tn_text.specs.declared.faults.Fault.{Fault}
use Rattle.tn_text.specs.declared.faults.ReadFault.{ReadFault}
use Rattle.tn_text.specs.declared.faults.ReadFault.TheVariants as read
use Rattle.tn_text.specs.Faults.{fault_at}
use Rattle.tn_text.specs.Reading.{result_then, placed, read_lines, said, line_tokens, token_step, Gives}
use Rattle.tn_text.proofs.Walking.{read_line, bad_line, no_line}

-- reading the rest of a text, before which n lines stand, from a state gives what reading the whole
-- text from its first state gives
abbrev pub ReadsOn : {S A : Type 0} → (S → List ℕ → Result S Cause) → (S → Result A Cause) → S → ℕ → List ℕ → Result A Fault → Type 0
ReadsOn step finish s n rest whole = read_lines step finish s n (lines rest) ≡ whole

module _ {S A : Type 0} (step : S → List ℕ → Result S Cause) (finish : S → Result A Cause) (s : S) (n : ℕ) (rest : List ℕ)
    (whole : Result A Fault) (so_far : ReadsOn step finish s n rest whole) where
  -- the next line is read
  pub reads-line : (line behind : List ℕ) (t : S) → lines rest ≡ line ∷ lines behind → step s line ≡ Ok t
      → ReadsOn step finish t (n + 1) behind whole
  reads-line line behind t cut e =
      sym (read_line step finish s t n line (lines behind) e) ∙ (ap (read_lines step finish s n) (sym cut) ∙ so_far)

  -- the next line is refused
  pub reads-bad : (line behind : List ℕ) (cause : Cause) → lines rest ≡ line ∷ lines behind → step s line ≡ Err cause
      → whole ≡ Err (fault_at (n + 1) cause)
  reads-bad line behind cause cut e =
      sym so_far ∙ (ap (read_lines step finish s n) cut ∙ bad_line step finish s n line (lines behind) cause e)

  -- no line is left
  pub reads-end : lines rest ≡ [] → whole ≡ placed (n + 1) (finish s)
  reads-end cut = sym so_far ∙ (ap (read_lines step finish s n) cut ∙ no_line step finish s n)

module _ {S : Type 0} (step : S → List (List ℕ) → Result S Cause) (s : S) (line : List ℕ) where
  -- the step over a line, by its tokens
  pub token_step-tokens : (words : List (List ℕ)) → line_tokens line ≡ Ok words → token_step step s line ≡ said step s words
  unfolding token_step
  token_step-tokens words e = ap (λ r. result_then r (said step s)) e

  -- the step over a line that has no tokens to be read
  pub token_step-refused : (cause : Cause) → line_tokens line ≡ Err cause → token_step step s line ≡ Err cause
  unfolding token_step
  token_step-refused cause e = ap (λ r. result_then r (said step s)) e

  -- a line without tokens says nothing
  pub said-nothing : (words : List (List ℕ)) → (length words == 0) ≡ true → said step s words ≡ Ok s
  said-nothing [] e = refl
  said-nothing (word ∷ words) e = absurd (grind (arith, nat_tests))

  -- a line with tokens is for the step
  pub said-something : (words : List (List ℕ)) → (length words == 0) ≡ false → said step s words ≡ step s words
  said-something [] e = absurd cc
  said-something (word ∷ words) e = refl

-- the same loop over a text with tokens, by what was read of the tokens of its next line
module _ {S A : Type 0} (step : S → List (List ℕ) → Result S Cause) (finish : S → Result A Cause) (s : S) (n : ℕ) (rest : List ℕ)
    (whole : Result A Fault) (so_far : ReadsOn (token_step step) finish s n rest whole) (line behind : List ℕ)
    (cut : lines rest ≡ line ∷ lines behind) where
  tokens_read : (r : Result (List (List ℕ)) Cause) (words : List (List ℕ)) → Ok words ≡ placed (n + 1) r → r ≡ Ok words
  tokens_read (Ok ws) words e = let same : ws ≡ words = cc in ap Ok same
  tokens_read (Err cause) words e = absurd cc

  -- a byte stands in the line that may not
  pub tokens-refused : (fault : Fault) → Err fault ≡ placed (n + 1) (line_tokens line) → Err fault ≡ whole
  tokens-refused fault e = at (line_tokens line) refl e
    where
      at : (r : Result (List (List ℕ)) Cause) → line_tokens line ≡ r → Err fault ≡ placed (n + 1) r → Err fault ≡ whole
      at (Ok words) is q = absurd cc
      at (Err cause) is q =
          let same : fault ≡ fault_at (n + 1) cause = cc in
          ap Err same ∙ sym (reads-bad (token_step step) finish s n rest whole so_far line behind cause cut
          (token_step-refused step s line cause is))

  -- the tokens of the line were not had, for a fault of the line or for want of memory
  pub tokens-stopped : {T U : Type 0} (seen : T → List (List ℕ)) (gives : U → A) (why : ReadFault)
      → Gives seen (Err why) (placed (n + 1) (line_tokens line)) → Gives gives (Err why) whole
  tokens-stopped seen gives (read.Fault fault) h = tokens-refused fault h
  tokens-stopped seen gives read.NoMemory h = tt

  -- the line's tokens are refused
  pub tokens-bad : (words : List (List ℕ)) (cause : Cause) → Ok words ≡ placed (n + 1) (line_tokens line)
      → said step s words ≡ Err cause → Err (fault_at (n + 1) cause) ≡ whole
  tokens-bad words cause e bad =
      sym (reads-bad (token_step step) finish s n rest whole so_far line behind cause cut
      (token_step-tokens step s line words (tokens_read (line_tokens line) words e) ∙ bad))

  -- the line's tokens are read
  pub tokens-good : (words : List (List ℕ)) (t : S) → Ok words ≡ placed (n + 1) (line_tokens line) → said step s words ≡ Ok t
      → ReadsOn (token_step step) finish t (n + 1) behind whole
  tokens-good words t e good =
      reads-line (token_step step) finish s n rest whole so_far line behind t cut
      (token_step-tokens step s line words (tokens_read (line_tokens line) words e) ∙ good)

  -- the same where the code holds the tokens
  module _ {W : Type 0} (seen : W → List ℕ) (words : List W) (are : Ok (map seen words) ≡ placed (n + 1) (line_tokens line)) where
    -- the line has no tokens
    pub words-none : (length words == 0) ≡ true → ReadsOn (token_step step) finish s (n + 1) behind whole
    words-none none =
        tokens-good (map seen words) s are (said-nothing step s line (map seen words) (ap (λ k. k == 0) (length-map words seen) ∙ none))

    words-said : (length words == 0) ≡ false → said step s (map seen words) ≡ step s (map seen words)
    words-said some = said-something step s line (map seen words) (ap (λ k. k == 0) (length-map words seen) ∙ some)

    -- the step takes them
    pub words-good : (t : S) → (length words == 0) ≡ false → step s (map seen words) ≡ Ok t
        → ReadsOn (token_step step) finish t (n + 1) behind whole
    words-good t some good = tokens-good (map seen words) t are (words-said some ∙ good)

    -- the step refuses them
    pub words-bad : (cause : Cause) → (length words == 0) ≡ false → step s (map seen words) ≡ Err cause
        → Err (fault_at (n + 1) cause) ≡ whole
    words-bad cause some bad = tokens-bad (map seen words) cause are (words-said some ∙ bad)
