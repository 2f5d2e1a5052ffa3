-- The loop that reads a module text line by line.
use Rattle.std.proofs.Common.{◌≡◌, ℕ, ◌+◌, Bool, List, [], ◌∷◌, Result, Ok, Err, refl, sym, ap, ◌∙◌}
use Rattle.tn_text.specs.declared.faults.Cause.{Cause}
use Rattle.tn_text.specs.declared.faults.Fault.{Fault}
use Rattle.tn_text.specs.declared.faults.ReadFault.{ReadFault}
use Rattle.tn_text.specs.declared.faults.ReadFault.TheVariants as read
use Rattle.tn_text.specs.Faults.{fault_at}
use Rattle.tn_text.specs.Reading.{result_then, placed, read_lines, Gives}
use Rattle.tn_text.proofs.Walking.{read_line, bad_line, no_line}
use Rattle.tn_modtext.specs.Pieces.{pieces}

-- ---- the step over a line by its tokens

module _ {S : Type 0} (number : ℕ) (said : List (List ℕ) → Result S Cause) where
  -- the tokens of the line were not had, for a fault of the line or for want of memory
  pub tokens-stopped : {T U : Type 0} (seen : T → List (List ℕ)) (gives : U → S) (why : ReadFault) (r : Result (List (List ℕ)) Cause)
      → Gives seen (Err why) (placed number r) → Gives gives (Err why) (placed number (result_then r said))
  tokens-stopped seen gives (read.Fault fault) (Ok words) h = absurd cc
  tokens-stopped seen gives (read.Fault fault) (Err cause) h = let same : fault ≡ fault_at number cause = cc in ap Err same
  tokens-stopped seen gives read.NoMemory r h = tt

  -- the tokens were had, and the line says this
  pub tokens-said : (words : List (List ℕ)) (answer : Result S Cause) (r : Result (List (List ℕ)) Cause) → Ok words ≡ placed number r
      → answer ≡ said words → placed number answer ≡ placed number (result_then r said)
  tokens-said words answer (Ok ws) e is = let same : words ≡ ws = cc in ap (placed number) (is ∙ ap said same)
  tokens-said words answer (Err cause) e is = absurd cc

-- ---- the loop

-- reading the rest of a text, before which n lines stand, gives what reading the whole text gives
abbrev pub ReadsOn : {S A : Type 0} → (S → List ℕ × Bool → Result S Cause) → (S → Result A Cause) → S → ℕ → List ℕ → Result A Fault → Type 0
ReadsOn step finish s n rest whole = read_lines step finish s n (pieces rest) ≡ whole

module _ {S A : Type 0} (step : S → List ℕ × Bool → Result S Cause) (finish : S → Result A Cause) (s : S) (n : ℕ) (rest : List ℕ)
    (whole : Result A Fault) (so_far : ReadsOn step finish s n rest whole) where
  -- no line is left
  pub reads-end : pieces rest ≡ [] → placed (n + 1) (finish s) ≡ whole
  reads-end cut = sym (no_line step finish s n) ∙ (ap (read_lines step finish s n) (sym cut) ∙ so_far)

  module _ (piece : List ℕ × Bool) (behind : List ℕ) (cut : pieces rest ≡ piece ∷ pieces behind) where
    -- the line was not read, for a fault of the line or for want of memory
    pub piece-stopped : {T U : Type 0} (seen : T → S) (gives : U → A) (why : ReadFault)
        → Gives seen (Err why) (placed (n + 1) (step s piece)) → Gives gives (Err why) whole
    piece-stopped seen gives (read.Fault fault) h = at (step s piece) refl h
      where
        at : (r : Result S Cause) → step s piece ≡ r → Err fault ≡ placed (n + 1) r → Err fault ≡ whole
        at (Ok t) is q = absurd cc
        at (Err cause) is q =
            let same : fault ≡ fault_at (n + 1) cause = cc in
            ap Err same ∙ (sym (bad_line step finish s n piece (pieces behind) cause is)
            ∙ (ap (read_lines step finish s n) (sym cut) ∙ so_far))
    piece-stopped seen gives read.NoMemory h = tt

    -- the line is read
    pub piece-read : (t : S) → Ok t ≡ placed (n + 1) (step s piece) → ReadsOn step finish t (n + 1) behind whole
    piece-read t e = at (step s piece) refl e
      where
        at : (r : Result S Cause) → step s piece ≡ r → Ok t ≡ placed (n + 1) r → ReadsOn step finish t (n + 1) behind whole
        at (Ok u) is q =
            let same : u ≡ t = cc in
            sym (read_line step finish s t n piece (pieces behind) (is ∙ ap Ok same))
            ∙ (ap (read_lines step finish s n) (sym cut) ∙ so_far)
        at (Err cause) is q = absurd cc
